-- Text in pieces.
use Rattle.std.proofs.Common.{◌≡◌, ℕ, List, [], ◌∷◌, ◌++◌, ap, ◌∙◌, append-nil}
use Rattle.std.specs.List.{concat}
use Rattle.std.proofs.lemmas.List.Folds.{concat-append}

-- The last piece is full, and nothing stands in the next one.
pub turned : (full full' : List (List ℕ)) (last next : List ℕ) → full' ≡ full ++ last ∷ [] → next ≡ [] → concat full' ++ next ≡ concat full ++ last
turned full full' last next pushed none =
    ap (λ l. concat full' ++ l) none ∙ append-nil (concat full') ∙ ap concat pushed ∙ concat-append full (last ∷ []) ∙ ap (λ l. concat full ++ l) (append-nil last)
