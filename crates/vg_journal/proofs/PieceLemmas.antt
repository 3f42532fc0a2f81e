-- Pieces of a text, one behind another.
use Rattle.std.proofs.Common.{◌≡◌, ℕ, ◌+◌, List, [], ◌∷◌, ◌++◌, refl, ap}
use Rattle.std.specs.List.{concat}
use Rattle.vg_text.specs.Text.{numbered}

abbrev pub piece_text : ℕ → List ℕ → List ℕ
piece_text n piece = piece

pub pieces_are : (n : ℕ) (pieces : List (List ℕ)) → numbered piece_text n pieces ≡ concat pieces
pieces_are n [] = refl
pieces_are n (piece ∷ pieces) = ap (λ l. piece ++ l) (pieces_are (n + 1) pieces)
