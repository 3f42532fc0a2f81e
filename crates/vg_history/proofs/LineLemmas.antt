-- The lines of entries, and how many are on a queue.
use Rattle.std.proofs.Common.{◌≡◌, ℕ, ◌+◌, List, [], ◌∷◌, ◌++◌, length, sym, ap, ◌∙◌, append-nil, length-append, arith}
use Rattle.vg_text.specs.Text.{numbered}
use Rattle.vg_text.proofs.NumberedLemmas.{numbered_append}

-- One line more, which was spelled by itself.
pub line_more : {X : Type 0} (text : ℕ → X → List ℕ) (xs ys : List X) (x : X) (k : ℕ) (old line new empty : List ℕ) → old ≡ numbered text 1 xs → k ≡ length xs → empty ≡ [] → line ≡ empty ++ text (k + 1) x → new ≡ old ++ line → ys ≡ xs ++ x ∷ [] → new ≡ numbered text 1 ys
line_more text xs ys x k old line new empty is count none spelled put all =
    put ∙ ap (λ l. old ++ l) (spelled ∙ ap (λ l. l ++ text (k + 1) x) none) ∙ ap (λ l. l ++ text (k + 1) x) is
    ∙ ap (λ m. numbered text 1 xs ++ text m x) (omega (arith, count)) ∙ ap (λ l. numbered text 1 xs ++ l) (sym (append-nil (text (1 + length xs) x)))
    ∙ sym (numbered_append text 1 xs (x ∷ [])) ∙ ap (numbered text 1) (sym all)

pub one_longer : {X : Type 0} (xs ys : List X) (x : X) (k : ℕ) → k ≡ length xs → ys ≡ xs ++ x ∷ [] → k + 1 ≡ length ys
one_longer xs ys x k count all = let size = ap length all ∙ length-append xs (x ∷ []) in omega (arith, count, size)
