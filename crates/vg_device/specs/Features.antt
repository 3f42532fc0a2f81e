-- The features that commands need (VIRTIO 1.2, 5.7.3).
use Rattle.std.specs.Prelude.{◌==◌, ◌&&◌, ℕ, Bool, true, nat_le, if◌then◌else◌, Option, Some, None, bit_and}
use Rattle.vg_config.specs.Features.{EDID, RESOURCE_BLOB, RESOURCE_UUID, VIRGL}
use Rattle.vg_wire.specs.Kinds.{CTX_CREATE, GET_CAPSET, GET_CAPSET_INFO, GET_EDID, RESOURCE_ASSIGN_UUID, RESOURCE_CREATE_BLOB, SET_SCANOUT_BLOB, SUBMIT_3D}

-- A feature is among those that are accepted.
abbrev pub has_feature : ℕ → ℕ → Bool
has_feature accepted feature = bit_and accepted feature == feature

-- The feature that the commands of a kind need: capsets and 3D VIRGL, GET_EDID EDID, RESOURCE_ASSIGN_UUID RESOURCE_UUID, blobs
-- RESOURCE_BLOB; the other 2D commands and those of cursors need none.
unfoldable pub feature_of : ℕ → Option ℕ
feature_of kind =
    if kind == GET_CAPSET_INFO then Some VIRGL
    else if kind == GET_CAPSET then Some VIRGL
    else if kind == GET_EDID then Some EDID
    else if kind == RESOURCE_ASSIGN_UUID then Some RESOURCE_UUID
    else if kind == RESOURCE_CREATE_BLOB then Some RESOURCE_BLOB
    else if kind == SET_SCANOUT_BLOB then Some RESOURCE_BLOB
    else if nat_le CTX_CREATE kind && nat_le kind SUBMIT_3D then Some VIRGL
    else None

abbrev pub has_needed : ℕ → Option ℕ → Bool
has_needed accepted (Some feature) = has_feature accepted feature
has_needed accepted None = true

-- Commands of this kind may come where these features are accepted.
abbrev pub is_usable : ℕ → ℕ → Bool
is_usable accepted kind = has_needed accepted (feature_of kind)
