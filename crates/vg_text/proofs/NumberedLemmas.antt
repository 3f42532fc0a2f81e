use Rattle.std.proofs.Common.{ℕ, ◌≡◌, ◌+◌, ◌<◌, List, [], ◌∷◌, ◌++◌, length, take, get_or, append_assoc, append-nil, sym, ap, ◌∙◌, arith, add-one}
use Rattle.std.proofs.Math.Seq.{take-suc}
use Rattle.std.proofs.lemmas.List.{length-take-le}
use Rattle.vg_text.specs.Text.{numbered}

-- The texts of a list, and of a list behind it.
pub numbered_append : {X : Type 0} (text : ℕ → X → List ℕ) (n : ℕ) (xs ys : List X) → numbered text n (xs ++ ys) ≡ numbered text n xs ++ numbered text (n + length xs) ys
numbered_append text n [] ys = ap (λ m. numbered text m ys) (omega arith)
numbered_append text n (x ∷ xs) ys =
    let more : numbered text (n + 1) (xs ++ ys) ≡ numbered text (n + 1) xs ++ numbered text (n + length (x ∷ xs)) ys =
    numbered_append text (n + 1) xs ys ∙ ap (λ m. numbered text (n + 1) xs ++ numbered text m ys) (omega arith) in
    ap (λ more. text n x ++ more) more ∙ sym (append_assoc (text n x) _ _)

-- One text more.
pub numbered_more : {X : Type 0} (text : ℕ → X → List ℕ) (n : ℕ) (xs : List X) (i : ℕ) (x d : X) → i < length xs → x ≡ get_or xs i d → numbered text n (take (i + 1) xs) ≡ numbered text n (take i xs) ++ text (n + i) x
numbered_more text n xs i x d within is_read =
    let front : take (i + 1) xs ≡ take i xs ++ (x ∷ []) =
    rw add-one (take-suc xs i d within ∙ ap (λ y. take i xs ++ (y ∷ [])) (sym is_read)) in
    let last : numbered text (n + length (take i xs)) (x ∷ []) ≡ text (n + i) x =
    append-nil _ ∙ ap (λ k. text (n + k) x) (length-take-le i xs (omega arith)) in
    ap (numbered text n) front ∙ numbered_append text n (take i xs) (x ∷ []) ∙ ap (λ more. numbered text n (take i xs) ++ more) last

-- One text more behind what was there.
pub written_more : {X : Type 0} (text : ℕ → X → List ℕ) (n : ℕ) (xs : List X) (i j : ℕ) (x d : X) (old before after : List ℕ) → before ≡ old ++ numbered text n (take i xs) → after ≡ before ++ text j x → j ≡ n + i → i < length xs → x ≡ get_or xs i d → after ≡ old ++ numbered text n (take (i + 1) xs)
written_more text n xs i j x d old before after is_before is_after place within is_read =
    is_after ∙ ap (λ ys. ys ++ text j x) is_before ∙ append_assoc old _ _
    ∙ ap (λ k. old ++ (numbered text n (take i xs) ++ text k x)) place
    ∙ ap (λ ys. old ++ ys) (sym (numbered_more text n xs i x d within is_read))
