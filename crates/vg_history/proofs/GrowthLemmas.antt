-- What is known of a history's counts after one entry more, and of the places that it keeps.
use Rattle.std.proofs.Common.{◌≡◌, ℕ, ◌+◌, cond, Bool, List, [], ◌∷◌, ◌++◌, length, ap, ◌∙◌, length-append, arith}
use Rattle.std.specs.List.{count_by}
use Rattle.std.proofs.lemmas.List.Sums.{sum_by-append, sum_by-cons}

module _ {X : Type 0} (lines whole reserved : List X) (x : X) (is : reserved ≡ whole) (after : List X) (all : after ≡ (lines ++ reserved) ++ x ∷ []) where
  entered_is : after ≡ (lines ++ whole) ++ x ∷ []
  entered_is = all ∙ ap (λ w. (lines ++ w) ++ x ∷ []) is

  pub one_more : length after ≡ length (lines ++ whole) + 1
  one_more = ap length entered_is ∙ length-append (lines ++ whole) (x ∷ [])

  pub counted_more : (p : X → Bool) (n m : ℕ) → n ≡ count_by p (lines ++ whole) → m ≡ n + cond (p x) 1 0 → m ≡ count_by p after
  counted_more p n m counts more =
      let f : X → ℕ = λ y. cond (p y) 1 0 in
      let e = ap (count_by p) entered_is in let s = sum_by-append f (lines ++ whole) (x ∷ []) in let t = sum_by-cons f x [] in
      omega (arith, counts, more, e, s, t)
