-- The lines that are written of a journal.
use Rattle.std.proofs.Common.{◌≡◌, ◌++◌, ℕ, codes, decimal, append_assoc}
use Rattle.std.specs.Prelude.{List}
use Rattle.vg_run.specs.Checks.{legal_text}
use Rattle.vg_run.specs.Generates.{summary_line}

-- the line of a legal journal, piece by piece from the last one on
pub legal_is : (entries frames : ℕ) → legal_text entries frames ≡ codes "legal " ++ (decimal entries ++ (codes " entries " ++ (decimal frames ++ codes " frames\n")))
unfolding legal_text
legal_is entries frames = simp append_assoc

-- a line of the summary, likewise
pub line_is : (name : List ℕ) (number : ℕ) → summary_line name number ≡ name ++ (codes " " ++ (decimal number ++ codes "\n"))
line_is name number = simp append_assoc
