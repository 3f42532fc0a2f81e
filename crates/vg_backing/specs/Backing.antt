-- Backings: the ranges of guest memory that a resource's pixels come from (VIRTIO 1.2, 5.7.6.8, RESOURCE_ATTACH_BACKING).
use Rattle.std.specs.Prelude.{ℕ, ◌+◌, ◌<◌, ◌==◌, ◌||◌, ◌&&◌, Bool, not, nat_le, nat_lt, List, [], ◌∷◌, ◌++◌, length}
use Rattle.std.specs.List.{All, sum_by, list_any}
use Rattle.vg_formats.specs.declared.entry.MemEntry.{MemEntry}
use Rattle.vg_pages.specs.Memory.{Memory, HoldsRange, bytes_at, page_address}

-- The entry lies wholly in guest memory.
abbrev pub is_held : Memory → MemEntry → Bool
is_held memory entry = nat_le 1048576 entry.addr && nat_le (entry.addr + entry.length) (1048576 + length memory.bytes)

abbrev pub is_bad : Memory → MemEntry → Bool
is_bad memory entry = entry.length == 0 || not (is_held memory entry)

-- None at all, one of no bytes, or one that isn't wholly in guest memory.
abbrev pub are_bad : Memory → List MemEntry → Bool
are_bad memory entries = length entries == 0 || list_any (is_bad memory) entries

-- How many bytes the entries have.
abbrev pub total : List MemEntry → ℕ
total entries = sum_by (λ entry. entry.length) entries

-- The bytes of the entries, one after another, as guest memory has them.
unfoldable pub backing_bytes : Memory → List MemEntry → List ℕ
backing_bytes memory [] = []
backing_bytes memory (entry ∷ more) = bytes_at memory.bytes entry.addr entry.length ++ backing_bytes memory more

-- Each entry has bytes, and lies wholly in guest memory.
abbrev pub AreHeld : Memory → List MemEntry → Type 0
AreHeld memory entries = All (λ entry. (0 < entry.length) × HoldsRange memory entry.addr entry.length) entries

-- Some byte of the page lies in the entry.
abbrev pub is_touched : ℕ → MemEntry → Bool
is_touched page entry =
    not (entry.length == 0) && nat_lt entry.addr (page_address page + 4096) && nat_lt (page_address page) (entry.addr + entry.length)

-- Some byte of the page lies in one of the entries.
abbrev pub touches : ℕ → List MemEntry → Bool
touches page entries = list_any (is_touched page) entries
