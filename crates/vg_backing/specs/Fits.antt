-- What the runs that a backing keeps have: for private contracts.
use Rattle.std.specs.Prelude.{◌≡◌, ℕ, ◌+◌, ◌^◌, ◌<◌, ◌≤◌, true, All, List, length, map, take, drop, slice_index_or}
use Rattle.vg_formats.specs.declared.entry.MemEntry.{MemEntry}
use Rattle.vg_backing.specs.declared.run.Run.{Run}
use Rattle.vg_backing.specs.Backing.{AreHeld, backing_bytes, total, touches}
use Rattle.vg_pages.specs.Memory.{Memory}
use Rattle.vg_pages.specs.Lending.{AreSameIn, Lending}

-- A run as an entry, of as many bytes as it has, and runs as entries.
abbrev pub entry_of : Run → MemEntry
entry_of run = record { addr = run.addr; length = run.length }

abbrev pub entries_of : List Run → List MemEntry
entries_of runs = map entry_of runs

-- The address past an entry's end is one of 64 bits.
abbrev pub EndsInRange : MemEntry → Type 0
EndsInRange entry = entry.addr + entry.length < 2 ^ 64

-- Each run starts where the bytes of the runs before it end.
abbrev pub ArePlaced : List Run → Type 0
ArePlaced runs = (k : ℕ) (d : Run) → k < length runs
    → ((slice_index_or runs k d).start ≡ total (take k (entries_of runs))) × EndsInRange (entry_of (slice_index_or runs k d))

-- This run has the byte of number `at`.
abbrev pub HasByte : List Run → ℕ → ℕ → Type 0
HasByte runs k at = (k < length runs) × (total (take k (entries_of runs)) ≤ at) × (at < total (take (k + 1) (entries_of runs)))

-- These bytes were lent of the entries, from number `at` on, and are the same in each memory that has the same bytes in their pages.
pub record IsLent (memory : Memory) (entries : List MemEntry) (at count : ℕ) (lent : Lending) : Type 0 where
  pub bytes : lent.bytes ≡ take count (drop at (backing_bytes memory entries))
  pub rest : (other : Memory) → AreSameIn lent.pages memory other → take count (drop at (backing_bytes other entries)) ≡ lent.bytes
  pub touched : All (λ page. touches page entries ≡ true) lent.pages
  pub inside : All (λ page. page < length memory.taken) lent.pages

-- Runs that have the bytes of these entries, in their order.
pub record IsTable (entries : List MemEntry) (runs : List Run) : Type 0 where
  pub placed : ArePlaced runs
  pub total : total (entries_of runs) ≡ total entries
  pub touches : (page : ℕ) → touches page (entries_of runs) ≡ touches page entries
  pub held : (memory : Memory) → AreHeld memory entries → AreHeld memory (entries_of runs)
  pub bytes : (memory other : Memory) → AreHeld memory entries → backing_bytes other (entries_of runs) ≡ backing_bytes other entries
