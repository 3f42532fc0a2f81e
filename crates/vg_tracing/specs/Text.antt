-- What is said of the clients of frames.
use Rattle.std.specs.Prelude.{ℕ, List, [], ◌∷◌, ◌++◌, length, codes, decimal}
use Rattle.vg_text.specs.Text.{numbered}
use Rattle.vg_drawn.specs.Words.{clients_in}

-- Another client of a list, behind a comma.
abbrev pub listed : ℕ → ℕ → List ℕ
listed n client = codes "," ++ decimal client

-- Clients with commas between them; `-` for none.
abbrev pub clients_text : List ℕ → List ℕ
clients_text [] = codes "-"
clients_text (client ∷ more) = decimal client ++ numbered listed 0 more

-- `frame I clients L`
unfoldable pub frame_line : ℕ → ℕ → List ℕ
frame_line n set = codes "frame " ++ decimal n ++ codes " clients " ++ clients_text (clients_in set) ++ codes "\n"

-- The line of each frame, from 1, and `origins F frames`.
abbrev pub origins_text : List ℕ → List ℕ
origins_text frames = numbered frame_line 1 frames ++ codes "origins " ++ decimal (length frames) ++ codes " frames\n"
