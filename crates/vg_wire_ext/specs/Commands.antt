use Rattle.std.specs.Prelude.{◌≡◌, ℕ, ◌+◌, ◌*◌, ◌^◌, ◌<◌, ◌==◌, Bool, ◌||◌, List, [], ◌++◌, length, take, drop, if◌then◌else◌, Option, Some, None, is_some, option_map, FitsSigned}
use Rattle.std.specs.Int.{w32}
use Rattle.std.specs.List.{All}
use Rattle.vg_numbers.specs.Numbers.{number_at, le}
use Rattle.vg_wire.specs.Rect.{rect_at, rect_bytes, IsRect}
use Rattle.vg_wire.specs.Entries.{entries_at, entries_bytes, IsEntry}
use Rattle.vg_wire.specs.Kinds.{CTX_ATTACH_RESOURCE, CTX_CREATE, CTX_DESTROY, CTX_DETACH_RESOURCE, GET_CAPSET, GET_CAPSET_INFO, GET_EDID, MOVE_CURSOR, RESOURCE_ASSIGN_UUID, RESOURCE_CREATE_BLOB, SET_SCANOUT_BLOB, SUBMIT_3D, UPDATE_CURSOR}
use Rattle.vg_wire.specs.TwoD.{whole, is_2d, two_d_of, kind_of_2d, body_of_2d, FitsCount, IsCommand2d}
use Rattle.vg_wire_ext.specs.declared.command.Command.{Command}
use Rattle.vg_wire_ext.specs.declared.command.Command.TheVariants.{TwoD, CapsetInfo, Capset, Edid, AssignUuid, CreateBlob, SetScanoutBlob, CtxCreate, CtxDestroy, CtxAttach, CtxDetach, Submit, UpdateCursor, MoveCursor}
use Rattle.vg_wire_ext.specs.Fields.{signed_at, position, planes}

-- What the fields of each command say that is no 2D command, each at its place in the bytes after the header (VIRTIO 1.2,
-- 5.7.6.8 to 5.7.6.10). Bytes after the fields are not looked at, and padding isn't either. The 2D commands stand in
-- vg_wire's TwoD.

-- struct virtio_gpu_get_capset_info: capset_index, padding
unfoldable pub capset_info : List ℕ → Command
capset_info body = CapsetInfo (number_at 4 0 body)

-- struct virtio_gpu_get_capset: capset_id, capset_version
unfoldable pub capset : List ℕ → Command
capset body = Capset (number_at 4 0 body) (number_at 4 4 body)

-- struct virtio_gpu_get_edid: scanout, padding
unfoldable pub edid : List ℕ → Command
edid body = Edid (number_at 4 0 body)

-- struct virtio_gpu_resource_assign_uuid: resource_id, padding
unfoldable pub assign_uuid : List ℕ → Command
assign_uuid body = AssignUuid (number_at 4 0 body)

-- struct virtio_gpu_resource_create_blob: resource_id, blob_mem, blob_flags, nr_entries, blob_id and size of eight bytes each, and
-- then as many entries
unfoldable pub create_blob : List ℕ → Command
create_blob body =
    CreateBlob (number_at 4 0 body) (number_at 4 4 body) (number_at 4 8 body) (number_at 8 16 body) (number_at 8 24 body)
    (entries_at 32 (number_at 4 12 body) body)

-- How many bytes these take: nr_entries counts entries of 16 bytes.
unfoldable pub create_blob_size : List ℕ → ℕ
create_blob_size body = 32 + 16 * number_at 4 12 body

-- struct virtio_gpu_set_scanout_blob: r, scanout_id, resource_id, width, height, format, padding, strides[4], offsets[4]; of the
-- strides and offsets those of plane 0 alone are looked at
unfoldable pub set_scanout_blob : List ℕ → Command
set_scanout_blob body =
    SetScanoutBlob (rect_at 0 body) (number_at 4 16 body) (number_at 4 20 body) (number_at 4 24 body) (number_at 4 28 body)
    (number_at 4 32 body) (number_at 4 40 body) (number_at 4 56 body)

-- struct virtio_gpu_ctx_create: nlen, context_init, debug_name[64]
unfoldable pub ctx_create : List ℕ → Command
ctx_create body = CtxCreate (number_at 4 0 body) (number_at 4 4 body) (take 64 (drop 8 body))

-- struct virtio_gpu_ctx_destroy: nothing
unfoldable pub ctx_destroy : List ℕ → Command
ctx_destroy body = CtxDestroy

-- struct virtio_gpu_ctx_resource: resource_id, padding
unfoldable pub ctx_attach : List ℕ → Command
ctx_attach body = CtxAttach (number_at 4 0 body)

unfoldable pub ctx_detach : List ℕ → Command
ctx_detach body = CtxDetach (number_at 4 0 body)

-- struct virtio_gpu_cmd_submit: size, padding, and then as many bytes as size says
unfoldable pub submit : List ℕ → Command
submit body = Submit (take (number_at 4 0 body) (drop 8 body))

-- How many bytes these take.
unfoldable pub submit_size : List ℕ → ℕ
submit_size body = 8 + number_at 4 0 body

-- struct virtio_gpu_update_cursor: pos (scanout_id, x, y, padding), resource_id, hot_x, hot_y, padding
unfoldable pub update_cursor : List ℕ → Command
update_cursor body =
    UpdateCursor (number_at 4 0 body) (signed_at 4 body) (signed_at 8 body) (number_at 4 16 body) (number_at 4 20 body) (number_at 4 24 body)

-- The same, of which pos alone is looked at.
unfoldable pub move_cursor : List ℕ → Command
move_cursor body = MoveCursor (number_at 4 0 body) (signed_at 4 body) (signed_at 8 body)

-- A row: how many bytes the fields take, and the fields.
pub record Row : Type 0 where
  pub size : List ℕ → ℕ
  pub fields : List ℕ → Command

-- The row of a command whose fields always take this many bytes.
abbrev pub fixed : ℕ → (List ℕ → Command) → Option Row
fixed n read = Some (record { size = λ body. n; fields = read })

-- The row of each kind, beside those of the 2D commands (VIRTIO 1.2, 5.7.6.7, enum virtio_gpu_ctrl_type).
unfoldable pub row_of : ℕ → Option Row
row_of kind =
    if kind == GET_CAPSET_INFO then fixed 8 capset_info
    else if kind == GET_CAPSET then fixed 8 capset
    else if kind == GET_EDID then fixed 8 edid
    else if kind == RESOURCE_ASSIGN_UUID then fixed 8 assign_uuid
    else if kind == RESOURCE_CREATE_BLOB then Some (record { size = create_blob_size; fields = create_blob })
    else if kind == SET_SCANOUT_BLOB then fixed 72 set_scanout_blob
    else if kind == CTX_CREATE then fixed 72 ctx_create
    else if kind == CTX_DESTROY then fixed 0 ctx_destroy
    else if kind == CTX_ATTACH_RESOURCE then fixed 8 ctx_attach
    else if kind == CTX_DETACH_RESOURCE then fixed 8 ctx_detach
    else if kind == SUBMIT_3D then Some (record { size = submit_size; fields = submit })
    else if kind == UPDATE_CURSOR then fixed 32 update_cursor
    else if kind == MOVE_CURSOR then fixed 32 move_cursor
    else None

-- What a row makes of the bytes after the header: None where they are fewer than its fields take.
abbrev pub by_row : Option Row → List ℕ → Option Command
by_row None body = None
by_row (Some row) body = whole (row.size body) body (row.fields body)

-- The kinds of commands: those of the 2D commands, and those that have a row.
abbrev pub is_known : ℕ → Bool
is_known kind = is_2d kind || is_some (row_of kind)

-- The command that a kind and the bytes after the header spell. None: no command's kind, or fewer bytes.
abbrev pub command_of : ℕ → List ℕ → Option Command
command_of kind body = if is_2d kind then option_map TwoD (two_d_of kind body) else by_row (row_of kind) body

-- The kind of a command.
abbrev pub command_kind : Command → ℕ
command_kind (TwoD command) = kind_of_2d command
command_kind (CapsetInfo index) = GET_CAPSET_INFO
command_kind (Capset id version) = GET_CAPSET
command_kind (Edid scanout) = GET_EDID
command_kind (AssignUuid resource) = RESOURCE_ASSIGN_UUID
command_kind (CreateBlob resource mem flags blob_id size entries) = RESOURCE_CREATE_BLOB
command_kind (SetScanoutBlob rect scanout resource width height format stride offset) = SET_SCANOUT_BLOB
command_kind (CtxCreate nlen context_init name) = CTX_CREATE
command_kind CtxDestroy = CTX_DESTROY
command_kind (CtxAttach resource) = CTX_ATTACH_RESOURCE
command_kind (CtxDetach resource) = CTX_DETACH_RESOURCE
command_kind (Submit stream) = SUBMIT_3D
command_kind (UpdateCursor scanout x y resource hot_x hot_y) = UPDATE_CURSOR
command_kind (MoveCursor scanout x y) = MOVE_CURSOR

-- A command's fields, after the header, with padding 0. What isn't looked at is 0 too: the strides and offsets of planes 1 to
-- 3, and all that follows the position of a MOVE_CURSOR.
abbrev pub command_body : Command → List ℕ
command_body (TwoD command) = body_of_2d command
command_body (CapsetInfo index) = le 4 index ++ le 4 0
command_body (Capset id version) = le 4 id ++ le 4 version
command_body (Edid scanout) = le 4 scanout ++ le 4 0
command_body (AssignUuid resource) = le 4 resource ++ le 4 0
command_body (CreateBlob resource mem flags blob_id size entries) =
    le 4 resource ++ le 4 mem ++ le 4 flags ++ le 4 (length entries) ++ le 8 blob_id ++ le 8 size ++ entries_bytes entries
command_body (SetScanoutBlob rect scanout resource width height format stride offset) =
    rect_bytes rect ++ le 4 scanout ++ le 4 resource ++ le 4 width ++ le 4 height ++ le 4 format ++ le 4 0 ++ planes stride ++ planes offset
command_body (CtxCreate nlen context_init name) = le 4 nlen ++ le 4 context_init ++ name
command_body CtxDestroy = []
command_body (CtxAttach resource) = le 4 resource ++ le 4 0
command_body (CtxDetach resource) = le 4 resource ++ le 4 0
command_body (Submit stream) = le 4 (length stream) ++ le 4 0 ++ stream
command_body (UpdateCursor scanout x y resource hot_x hot_y) =
    position scanout x y ++ le 4 resource ++ le 4 hot_x ++ le 4 hot_y ++ le 4 0
command_body (MoveCursor scanout x y) = position scanout x y ++ le 4 0 ++ le 4 0 ++ le 4 0 ++ le 4 0

-- A command whose number of entries fits nr_entries, or whose stream's number of bytes fits size.
abbrev pub FitsEntries : Command → Type 0
FitsEntries (TwoD command) = FitsCount command
FitsEntries (CreateBlob resource mem flags blob_id size entries) = length entries < 2 ^ 32
FitsEntries (Submit stream) = length stream < 2 ^ 32
FitsEntries _ = Unit {0}

-- A command whose numbers fit their bytes, and whose name has 64, as each value of the type does.
abbrev pub IsCommand : Command → Type 0
IsCommand (TwoD command) = IsCommand2d command
IsCommand (CapsetInfo index) = index < 2 ^ 32
IsCommand (Capset id version) = (id < 2 ^ 32) × (version < 2 ^ 32)
IsCommand (Edid scanout) = scanout < 2 ^ 32
IsCommand (AssignUuid resource) = resource < 2 ^ 32
IsCommand (CreateBlob resource mem flags blob_id size entries) =
    (resource < 2 ^ 32) × (mem < 2 ^ 32) × (flags < 2 ^ 32) × (blob_id < 2 ^ 64) × (size < 2 ^ 64) × All IsEntry entries
IsCommand (SetScanoutBlob rect scanout resource width height format stride offset) =
    IsRect rect × (scanout < 2 ^ 32) × (resource < 2 ^ 32) × (width < 2 ^ 32) × (height < 2 ^ 32) × (format < 2 ^ 32) × (stride < 2 ^ 32) × (offset < 2 ^ 32)
IsCommand (CtxCreate nlen context_init name) = (nlen < 2 ^ 32) × (context_init < 2 ^ 32) × (length name ≡ 64)
IsCommand CtxDestroy = Unit {0}
IsCommand (CtxAttach resource) = resource < 2 ^ 32
IsCommand (CtxDetach resource) = resource < 2 ^ 32
IsCommand (Submit stream) = Unit {0}
IsCommand (UpdateCursor scanout x y resource hot_x hot_y) =
    (scanout < 2 ^ 32) × FitsSigned w32 x × FitsSigned w32 y × (resource < 2 ^ 32) × (hot_x < 2 ^ 32) × (hot_y < 2 ^ 32)
IsCommand (MoveCursor scanout x y) = (scanout < 2 ^ 32) × FitsSigned w32 x × FitsSigned w32 y
