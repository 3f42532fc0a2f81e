-- The backings of resources, by the resources' ids, rising, and transfers from them (VIRTIO 1.2, 5.7.6.8,
-- RESOURCE_ATTACH_BACKING, RESOURCE_DETACH_BACKING and TRANSFER_TO_HOST_2D).
use Rattle.std.specs.Prelude.{ℕ, ◌+◌, ◌-◌, ◌*◌, ◌&&◌, Bool, not, nat_lt, is_some, is_none, List, [], ◌∷◌, Option, Result}
use Rattle.std.specs.Option.{unwrap_or}
use Rattle.std.specs.Ordering.{nat_cmp}
use Rattle.std.specs.Map.{lookup, remove_entry}
use Rattle.std.specs.BTreeMap.{insert_entry, is_at}
use Rattle.vg_formats.specs.declared.rect.Rect.{Rect}
use Rattle.vg_formats.specs.declared.entry.MemEntry.{MemEntry}
use Rattle.vg_formats.specs.Pixels.{is_empty, is_inside}
use Rattle.vg_pages.specs.Memory.{Memory}
use Rattle.vg_places.specs.declared.rectangles.Area.{Area}
use Rattle.vg_places.specs.Rectangles.{copied}
use Rattle.vg_wire.specs.Kinds.{ERR_INVALID_PARAMETER, ERR_INVALID_RESOURCE_ID, ERR_UNSPEC}
use Rattle.vg_refusals.specs.Refusals.{refusal_of, unless_refused}
use Rattle.vg_backing.specs.Backing.{are_bad, backing_bytes, total}

abbrev pub backing_at : ℕ → List (ℕ × List MemEntry) → Option (List MemEntry)
backing_at id backings = lookup (is_at (nat_cmp id)) backings

-- The entries of a resource's backing.
abbrev pub entries_at : ℕ → List (ℕ × List MemEntry) → List MemEntry
entries_at id backings = unwrap_or (backing_at id backings) []

-- RESOURCE_ATTACH_BACKING is refused for a resource that there isn't (`known` says whether there is); one that has a backing
-- already; bad entries.
abbrev pub attach_refusals : Bool → Memory → ℕ → List MemEntry → List (ℕ × List MemEntry) → List (Bool × ℕ)
attach_refusals known memory id entries backings =
    (not known, ERR_INVALID_RESOURCE_ID)
    ∷ (is_some (backing_at id backings), ERR_UNSPEC)
    ∷ (are_bad memory entries, ERR_INVALID_PARAMETER)
    ∷ []

unfoldable pub attach : Bool → Memory → ℕ → List MemEntry → List (ℕ × List MemEntry) → List (ℕ × List MemEntry) × Result Unit ℕ
attach known memory id entries backings =
    unless_refused (refusal_of (attach_refusals known memory id entries backings)) backings (insert_entry nat_cmp backings id entries)

abbrev pub detached : ℕ → List (ℕ × List MemEntry) → List (ℕ × List MemEntry)
detached id backings = remove_entry (is_at (nat_cmp id)) backings

-- RESOURCE_DETACH_BACKING is refused for a resource that there isn't; one without a backing.
abbrev pub detach_refusals : Bool → ℕ → List (ℕ × List MemEntry) → List (Bool × ℕ)
detach_refusals known id backings =
    (not known, ERR_INVALID_RESOURCE_ID)
    ∷ (is_none (backing_at id backings), ERR_UNSPEC)
    ∷ []

unfoldable pub detach : Bool → ℕ → List (ℕ × List MemEntry) → List (ℕ × List MemEntry) × Result Unit ℕ
detach known id backings =
    unless_refused (refusal_of (detach_refusals known id backings)) backings (detached id backings)

-- One past the last byte of the backing that a transfer to this rectangle of a resource of this width reads.
abbrev pub transfer_end : Rect → ℕ → ℕ → ℕ
transfer_end rect offset width = offset + 4 * width * (rect.height - 1) + 4 * rect.width

-- TRANSFER_TO_HOST_2D is refused for a resource that there isn't; one without a backing; a rectangle outside of the
-- resource; pixels past the backing's end.
abbrev pub transfer_refusals : Bool → ℕ → Rect → ℕ → ℕ → ℕ → List (ℕ × List MemEntry) → List (Bool × ℕ)
transfer_refusals known id rect offset width height backings =
    (not known, ERR_INVALID_RESOURCE_ID)
    ∷ (is_none (backing_at id backings), ERR_UNSPEC)
    ∷ (not (is_inside rect width height), ERR_INVALID_PARAMETER)
    ∷ (not (is_empty rect) && nat_lt (total (entries_at id backings)) (transfer_end rect offset width), ERR_INVALID_PARAMETER)
    ∷ []

-- A rectangle of pixels, in rows and bytes of a row.
abbrev pub bytes_of_rect : Rect → Area
bytes_of_rect rect = record { row = rect.y; column = 4 * rect.x; width = 4 * rect.width; height = rect.height }

-- The pixels of a resource of this width after a transfer: pixel i of row j of the rectangle has the four bytes of the
-- backing from offset + 4 * width * j + 4 * i on, and every other pixel is as before.
abbrev pub transferred : Memory → List MemEntry → Rect → ℕ → ℕ → List ℕ → List ℕ
transferred memory entries rect offset width pixels =
    copied (bytes_of_rect rect) (4 * width) (backing_bytes memory entries) (4 * width) offset pixels

-- The pixels of a resource of this width after the rectangle was filled from these bytes, which begin with its first pixel and stand
-- as rows of the resource do.
abbrev pub placed : Rect → ℕ → List ℕ → List ℕ → List ℕ
placed rect width bytes pixels = copied (bytes_of_rect rect) (4 * width) bytes (4 * width) 0 pixels

-- A transfer to the pixels of a resource of this size.
unfoldable pub transfer : Bool → Memory → ℕ → Rect → ℕ → ℕ → ℕ → List (ℕ × List MemEntry) → List ℕ → List ℕ × Result Unit ℕ
transfer known memory id rect offset width height backings pixels =
    unless_refused (refusal_of (transfer_refusals known id rect offset width height backings)) pixels
    (transferred memory (entries_at id backings) rect offset width pixels)
