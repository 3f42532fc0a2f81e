use Rattle.std.specs.Prelude.{ℕ, ◌==◌, ◌+◌, Bool, List, [], ◌∷◌, ◌++◌, Option, Some, None}
use Rattle.std.specs.List.{list_any, position, remove}

-- The names of a client's contexts that are current, by their numbers, in the order in which they were defined, and how many
-- names were defined so far, those among them that never were current.
pub record ContextsState : Type 0 where
  pub current : List ℕ
  pub made : ℕ

abbrev pub is_context : ℕ → ℕ → Bool
is_context number one = one == number

-- The name of this number is current.
abbrev pub is_current : ℕ → ContextsState → Bool
is_current number contexts = list_any (is_context number) contexts.current

-- One name more: its number is its place among all that were defined, from 1.
abbrev pub with_context : ContextsState → ContextsState
with_context contexts = record { current = contexts.current ++ (contexts.made + 1) ∷ []; made = contexts.made + 1 }

-- One name more, which never is current.
abbrev pub with_no_context : ContextsState → ContextsState
with_no_context contexts = record contexts { made = contexts.made + 1 }

-- The list without the number at this place, if a place is told.
abbrev pub without_at : List ℕ → Option ℕ → List ℕ
without_at numbers (Some place) = remove numbers place
without_at numbers None = numbers

-- The list without this number, which stands there once if at all.
abbrev pub without : ℕ → List ℕ → List ℕ
without number numbers = without_at numbers (position (is_context number) numbers)

-- The name of this number isn't current any more.
abbrev pub without_context : ℕ → ContextsState → ContextsState
without_context number contexts = record contexts { current = without number contexts.current }
