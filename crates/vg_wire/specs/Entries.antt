use Rattle.std.specs.Prelude.{ℕ, ◌+◌, ◌*◌, ◌^◌, ◌<◌, List, ◌++◌, map}
use Rattle.std.specs.List.{flat_map, range_with_len}
use Rattle.vg_formats.specs.declared.entry.MemEntry.{MemEntry}
use Rattle.vg_numbers.specs.Numbers.{number_at, le}

-- The entry whose 16 bytes stand from place at (VIRTIO 1.2, 5.7.6.8, struct virtio_gpu_mem_entry).
abbrev pub entry_at : ℕ → List ℕ → MemEntry
entry_at at bytes = record { addr = number_at 8 at bytes; length = number_at 4 (at + 8) bytes }

-- The n entries that stand one after another from place at.
abbrev pub entries_at : ℕ → ℕ → List ℕ → List MemEntry
entries_at at n bytes = map (λ i. entry_at (at + 16 * i) bytes) (range_with_len 0 n)

-- An entry's 16 bytes, of which the last four are padding.
unfoldable pub entry_bytes : MemEntry → List ℕ
entry_bytes entry = le 8 entry.addr ++ le 4 entry.length ++ le 4 0

-- The bytes of these entries, one after another.
abbrev pub entries_bytes : List MemEntry → List ℕ
entries_bytes entries = flat_map entry_bytes entries

-- An entry whose numbers fit their bytes, as each value of the type does.
pub record IsEntry (entry : MemEntry) : Type 0 where
  pub addr : entry.addr < 2 ^ 64
  pub length : entry.length < 2 ^ 32
