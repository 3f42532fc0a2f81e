-- Lists that are given by a formula for each place.
use Rattle.std.specs.Prelude.{ℕ, List, map}
use Rattle.std.specs.List.{range_with_len}

-- The list of n elements that has f k at place k.
abbrev pub tabulate : {X : Type 0} → ℕ → (ℕ → X) → List X
tabulate n f = map f (range_with_len 0 n)
