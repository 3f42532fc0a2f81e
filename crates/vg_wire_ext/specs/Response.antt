use Rattle.std.specs.Prelude.{◌≡◌, ◌≤◌, ◌<◌, ◌^◌, ◌==◌, ◌&&◌, ℕ, List, [], ◌++◌, length, take, drop, replicate, nat_le, if◌then◌else◌, Option, Some, None}
use Rattle.vg_wire.specs.declared.header.Header.{Header}
use Rattle.vg_wire.specs.Kinds.{ERR_INVALID_PARAMETER, ERR_UNSPEC, OK_CAPSET, OK_CAPSET_INFO, OK_DISPLAY_INFO, OK_EDID, OK_NODATA, OK_RESOURCE_UUID}
use Rattle.vg_numbers.specs.Numbers.{number_at, le}
use Rattle.vg_wire.specs.Header.{header_bytes}
use Rattle.vg_wire.specs.Modes.{IsModes, AllFit, modes_bytes, slots_of, trimmed}
use Rattle.vg_wire_ext.specs.declared.response.Response.{Response}
use Rattle.vg_wire_ext.specs.declared.response.Response.TheVariants.{Nodata, DisplayInfo, CapsetInfo, Capset, Edid, Uuid, Error}

-- The kind that a response's header has (VIRTIO 1.2, 5.7.6.7, enum virtio_gpu_ctrl_type): an error's code is its kind.
abbrev pub response_kind : Response → ℕ
response_kind Nodata = OK_NODATA
response_kind (DisplayInfo modes) = OK_DISPLAY_INFO
response_kind (CapsetInfo id version size) = OK_CAPSET_INFO
response_kind (Capset content) = OK_CAPSET
response_kind (Edid block) = OK_EDID
response_kind (Uuid bytes) = OK_RESOURCE_UUID
response_kind (Error code) = code

-- struct virtio_gpu_resp_capset_info: capset_id, capset_max_version, capset_max_size, padding
unfoldable pub capset_info_body : ℕ → ℕ → ℕ → List ℕ
capset_info_body id version size = le 4 id ++ le 4 version ++ le 4 size ++ le 4 0

-- struct virtio_gpu_resp_edid: size, padding, edid[1024], of which the block takes 128
unfoldable pub edid_body : List ℕ → List ℕ
edid_body block = le 4 128 ++ le 4 0 ++ block ++ replicate 896 0

-- What follows the header (VIRTIO 1.2, 5.7.6.8).
abbrev pub response_body : Response → List ℕ
response_body Nodata = []
response_body (DisplayInfo modes) = modes_bytes modes
response_body (CapsetInfo id version size) = capset_info_body id version size
response_body (Capset content) = content
response_body (Edid block) = edid_body block
response_body (Uuid bytes) = bytes
response_body (Error code) = []

-- The one spelling of a response, with padding 0.
abbrev pub response_bytes : Header → Response → List ℕ
response_bytes header response = header_bytes header ++ response_body response

-- A response that can be given: its modes are such, its code is an error's.
abbrev pub IsResponse : Response → Type 0
IsResponse Nodata = Unit {0}
IsResponse (DisplayInfo modes) = IsModes modes
IsResponse (CapsetInfo id version size) = Unit {0}
IsResponse (Capset content) = Unit {0}
IsResponse (Edid block) = Unit {0}
IsResponse (Uuid bytes) = Unit {0}
IsResponse (Error code) = (ERR_UNSPEC ≤ code) × (code ≤ ERR_INVALID_PARAMETER)

-- A response whose numbers fit their bytes, and whose block and bytes are as many as they are, as each value of the type does.
abbrev pub FitsResponse : Response → Type 0
FitsResponse Nodata = Unit {0}
FitsResponse (DisplayInfo modes) = AllFit modes
FitsResponse (CapsetInfo id version size) = (id < 2 ^ 32) × (version < 2 ^ 32) × (size < 2 ^ 32)
FitsResponse (Capset content) = Unit {0}
FitsResponse (Edid block) = length block ≡ 128
FitsResponse (Uuid bytes) = length bytes ≡ 16
FitsResponse (Error code) = code < 2 ^ 32

-- The bytes are this header and response.
pub record Spells (header : Header) (response : Response) (bytes : List ℕ) : Type 0 where
  pub valid : IsResponse response
  pub kind : header.kind ≡ response_kind response
  pub spelled : bytes ≡ response_bytes header response

-- The fields of an OK_CAPSET_INFO.
unfoldable pub capset_info_of : List ℕ → Response
capset_info_of bytes = CapsetInfo (number_at 4 24 bytes) (number_at 4 28 bytes) (number_at 4 32 bytes)

-- The response whose fields stand at their places behind a header of this kind.
abbrev pub body_of : ℕ → List ℕ → Option Response
body_of kind bytes =
    if kind == OK_NODATA then Some Nodata
    else if kind == OK_DISPLAY_INFO && length bytes == 408 then Some (DisplayInfo (trimmed (slots_of bytes)))
    else if kind == OK_CAPSET_INFO && length bytes == 40 then Some (capset_info_of bytes)
    else if kind == OK_CAPSET then Some (Capset (drop 24 bytes))
    else if kind == OK_EDID && length bytes == 1056 then Some (Edid (take 128 (drop 32 bytes)))
    else if kind == OK_RESOURCE_UUID && length bytes == 40 then Some (Uuid (take 16 (drop 24 bytes)))
    else if nat_le ERR_UNSPEC kind && nat_le kind ERR_INVALID_PARAMETER then Some (Error kind)
    else None
