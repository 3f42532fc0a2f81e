use Rattle.std.specs.Prelude.{ℕ, ◌==◌, Bool, List, Option, Some, None}
use Rattle.std.specs.List.{position, remove}

-- The list without the element at this place, if a place is told.
abbrev pub without_at : {X : Type 0} → List X → Option ℕ → List X
without_at xs (Some i) = remove xs i
without_at xs None = xs

-- The list without its first element that passes, if one does.
abbrev pub without_first : {X : Type 0} → (X → Bool) → List X → List X
without_first test xs = without_at xs (position test xs)

abbrev pub is_number : ℕ → ℕ → Bool
is_number n one = one == n
