-- Pixels that may be lent.
use Rattle.std.specs.Prelude.{ℕ, Bool, true, false, List}

-- Pixels that are here, or lent ones as they were.
abbrev pub seen_of : Bool → List ℕ → List ℕ → List ℕ
seen_of true bytes was = was
seen_of false bytes was = bytes

-- The bytes of pixels, and whether they are lent.
pub record Seen : Type 0 where
  pub bytes : List ℕ
  pub lent : Bool
