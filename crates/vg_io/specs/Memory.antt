-- A source and a sink in memory, as contracts see them.
use Rattle.std.specs.Prelude.{ℕ, ◌<◌, ◌≤◌, ◌⊎◌, List, length, Contains}
use Rattle.vg_io.specs.Streams.{next_count}

-- A source: the bytes left, the numbers of the calls that fail, how many calls were made and failed.
pub record Feed : Type 0 where
  pub rest : List ℕ
  pub fail_at : List ℕ
  pub calls : ℕ
  pub faults : ℕ

-- A sink: the bytes held, how many there can be, and the same of its calls.
pub record Store : Type 0 where
  pub bytes : List ℕ
  pub room : ℕ
  pub fail_at : List ℕ
  pub calls : ℕ
  pub faults : ℕ

-- The next read fails.
abbrev pub ReadFails : Feed → Type 0
ReadFails feed = Contains feed.fail_at (next_count feed.calls)

-- The next write fails, of this piece.
abbrev pub WriteFails : Store → List ℕ → Type 0
WriteFails store piece =
    Contains store.fail_at (next_count store.calls) ⊎ ((store.room ≤ length store.bytes) × (0 < length piece))
