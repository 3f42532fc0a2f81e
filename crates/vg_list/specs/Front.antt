-- What is left where only a front of a text was added.
use Rattle.std.specs.Prelude.{◌≡◌, List, ◌++◌}

-- The new list is the old one, and behind it a front of this text: all of it, a part, or nothing.
pub record HasFront {X : Type 0} (old new text : List X) : Type 0 where
  pub front : List X
  pub rest : List X
  pub added : new ≡ old ++ front
  pub whole : front ++ rest ≡ text
