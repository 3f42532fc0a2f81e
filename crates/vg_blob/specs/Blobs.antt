-- The blob resources by their ids, rising (VIRTIO 1.2, 5.7.6.8, RESOURCE_CREATE_BLOB): each is a range of bytes that the guest
-- keeps in its own memory, so the device has no copy of them.
use Rattle.std.specs.Prelude.{◌<◌, ◌≤◌, ℕ, ◌==◌, ◌||◌, Bool, not, nat_lt, is_some, is_none, List, [], ◌∷◌, take, Option, Some, None, Result}
use Rattle.std.specs.Ordering.{nat_cmp}
use Rattle.std.specs.Map.{lookup, remove_entry}
use Rattle.std.specs.BTreeMap.{insert_entry, is_at}
use Rattle.vg_formats.specs.declared.entry.MemEntry.{MemEntry}
use Rattle.vg_pages.specs.Memory.{Memory}
use Rattle.vg_blob.specs.declared.blobs.Blob.{Blob}
use Rattle.vg_wire.specs.Kinds.{ERR_INVALID_PARAMETER, ERR_INVALID_RESOURCE_ID}
use Rattle.vg_refusals.specs.Refusals.{refusal_of, unless_refused}
use Rattle.vg_backing.specs.Backing.{AreHeld, are_bad, backing_bytes, total}

-- The memory of a blob is the guest's (VIRTIO_GPU_BLOB_MEM_GUEST).
abbrev pub BLOB_MEM_GUEST : ℕ
BLOB_MEM_GUEST = 1

-- All of a blob's flags that there are: USE_MAPPABLE 1, USE_SHAREABLE 2 and USE_CROSS_DEVICE 4.
abbrev pub BLOB_FLAGS : ℕ
BLOB_FLAGS = 7

abbrev pub blob_at : ℕ → List (ℕ × Blob) → Option Blob
blob_at id blobs = lookup (is_at (nat_cmp id)) blobs

-- How many bytes a blob has, and 0 where there is none.
abbrev pub size_of : Option Blob → ℕ
size_of (Some blob) = blob.size
size_of None = 0

-- The ranges of guest memory that a blob has its bytes in, and none where there is no blob.
abbrev pub entries_of : Option Blob → List MemEntry
entries_of (Some blob) = blob.entries
entries_of None = []

-- The bytes of a blob: the first ones of its entries, as guest memory has them.
abbrev pub blob_bytes : Memory → Blob → List ℕ
blob_bytes memory blob = take blob.size (backing_bytes memory blob.entries)

-- RESOURCE_CREATE_BLOB is refused for an id that is 0 or in use; another memory than the guest's, a flag that there isn't, or
-- no bytes; bad entries; entries of fewer bytes than the blob is to have.
abbrev pub create_refusals : Memory → ℕ → ℕ → ℕ → ℕ → List MemEntry → List (ℕ × Blob) → List (Bool × ℕ)
create_refusals memory id mem flags size entries blobs =
    (id == 0 || is_some (blob_at id blobs), ERR_INVALID_RESOURCE_ID)
    ∷ (not (mem == BLOB_MEM_GUEST) || (nat_lt BLOB_FLAGS flags || size == 0), ERR_INVALID_PARAMETER)
    ∷ (are_bad memory entries, ERR_INVALID_PARAMETER)
    ∷ (nat_lt (total entries) size, ERR_INVALID_PARAMETER)
    ∷ []

abbrev pub with_blob : ℕ → ℕ → List MemEntry → List (ℕ × Blob) → List (ℕ × Blob)
with_blob id size entries blobs = insert_entry nat_cmp blobs id (record { size = size; entries = entries })

unfoldable pub create : Memory → ℕ → ℕ → ℕ → ℕ → List MemEntry → List (ℕ × Blob) → List (ℕ × Blob) × Result Unit ℕ
create memory id mem flags size entries blobs =
    unless_refused (refusal_of (create_refusals memory id mem flags size entries blobs)) blobs (with_blob id size entries blobs)

abbrev pub without : ℕ → List (ℕ × Blob) → List (ℕ × Blob)
without id blobs = remove_entry (is_at (nat_cmp id)) blobs

-- RESOURCE_UNREF is refused for a blob that there isn't.
abbrev pub unref_refusals : ℕ → List (ℕ × Blob) → List (Bool × ℕ)
unref_refusals id blobs = (is_none (blob_at id blobs), ERR_INVALID_RESOURCE_ID) ∷ []

unfoldable pub remove : ℕ → List (ℕ × Blob) → List (ℕ × Blob) × Result Unit ℕ
remove id blobs = unless_refused (refusal_of (unref_refusals id blobs)) blobs (without id blobs)

-- A blob has bytes, and no more than its entries.
abbrev pub IsBlob : Blob → Type 0
IsBlob blob = (0 < blob.size) × (blob.size ≤ total blob.entries)

-- Each entry of the blob lies wholly in guest memory.
abbrev pub IsHeld : Memory → ℕ × Blob → Type 0
IsHeld memory entry = AreHeld memory entry.1.entries
