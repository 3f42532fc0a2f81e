-- A text's lines.
use Rattle.std.specs.Prelude.{ℕ, ◌==◌, if◌then◌else◌, List, [], ◌∷◌, length}
use Rattle.std.specs.List.{slice_split}

-- The pieces of a text between its line ends as lines: what stands behind the last line end is a line
-- only where it has bytes.
unfoldable pub closed_lines : List (List ℕ) → List (List ℕ)
closed_lines [] = []
closed_lines (line ∷ []) = if length line == 0 then [] else line ∷ []
closed_lines (line ∷ next ∷ more) = line ∷ closed_lines (next ∷ more)

-- A text's lines, without their ends. A line end is the byte 10.
unfoldable pub lines_of : List ℕ → List (List ℕ)
lines_of bytes = closed_lines (slice_split (λ b. b == 10) bytes)
