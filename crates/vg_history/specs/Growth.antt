-- A history while it grows.
use Rattle.std.specs.Prelude.{ℕ, List}
use Rattle.vg_history.specs.declared.entry.Entry.{Entry}

-- Its entries, and how many jobs have a place kept for the entry of each.
pub record Grown (M S A R Q P H W : Type 0) : Type 0 where
  pub entries : List (Entry M S A R Q P H W)
  pub kept : ℕ
