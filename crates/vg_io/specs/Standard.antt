-- A reader or a writer of std beside a count of faults, as contracts see the two.
use Rattle.std.specs.Prelude.{ℕ}

pub record Counted (X : Type 0) : Type 0 where
  pub inner : X
  pub faults : ℕ
