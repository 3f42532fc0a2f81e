-- Entries by their numbers, each number once.
use Rattle.std.specs.Prelude.{ℕ, ◌<◌, List, [], ◌∷◌}
use Rattle.std.specs.List.{AllByRecursion}

-- The number is below those of the entries.
abbrev pub IsBelow : {X : Type 0} → ℕ → List (ℕ × X) → Type 0
IsBelow {X} n entries = AllByRecursion (λ (entry : ℕ × X). n < entry.0) entries

-- Entries stand by rising numbers, so that each number is that of one.
abbrev pub AreRising : {X : Type 0} → List (ℕ × X) → Type 0
AreRising [] = Unit {0}
AreRising (entry ∷ more) = IsBelow entry.0 more × AreRising more
