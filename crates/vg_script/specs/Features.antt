-- The features that a script can leave out. VIRTIO 1.2, 5.7.3.
use Rattle.std.specs.Prelude.{ℕ, Bool, true, false, List, Option, Some, None, if◌then◌else◌, codes, bytes_eq}
use Rattle.vg_script.specs.declared.types.Feature.{Feature}
use Rattle.vg_script.specs.declared.types.Feature.TheVariants.{Edid, Uuid, Blob, Context}

-- The feature that a word spells.
unfoldable pub feature_of : List ℕ → Option Feature
feature_of word =
    if bytes_eq word (codes "edid") then Some Edid
    else if bytes_eq word (codes "uuid") then Some Uuid
    else if bytes_eq word (codes "blob") then Some Blob
    else if bytes_eq word (codes "context") then Some Context
    else None

abbrev pub is_same : Feature → Feature → Bool
is_same Edid Edid = true
is_same Uuid Uuid = true
is_same Blob Blob = true
is_same Context Context = true
is_same one other = false
