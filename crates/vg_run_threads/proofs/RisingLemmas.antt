-- Lists whose elements have rising numbers.
use Rattle.std.proofs.Common.{◌≡◌, inl, inr, ◌+◌, ◌≤◌, ◌∙◌, sym, ap, refl, arith, ℕ, zero, suc, List, [], ◌∷◌, map}
use Rattle.std.specs.List.{range_with_len}
use Rattle.vg_history.specs.Lists.{Has, upto}
use Rattle.vg_run_threads.proofs.RangeLemmas.{upto-range}

module _ {X : Type 0} (number : X → ℕ) where
  -- none of them is below the first
  not-below : (first count : ℕ) (xs : List X) (x : X) → map number xs ≡ range_with_len first count → Has xs x → first ≤ number x
  not-below first count [] x is at = absurd at
  not-below first zero (y ∷ ys) x is at = absurd (cc)
  not-below first (suc count) (y ∷ ys) x is (inl e) =
      let head : number y ≡ first = cc in
      let same : number y ≡ number x = ap number e in
      omega (arith, head, same)
  not-below first (suc count) (y ∷ ys) x is (inr at) =
      let tail : map number ys ≡ range_with_len (first + 1) count = cc in
      let rest = not-below (first + 1) count ys x tail at in
      omega (arith, rest)

  -- of two such lists of the same numbers, the elements of one all stand in the other
  same-from : (first count : ℕ) (xs ys : List X) → map number xs ≡ range_with_len first count → map number ys ≡ range_with_len first count → ((x : X) → Has xs x → Has ys x) → xs ≡ ys
  same-from first zero [] [] left right each = refl
  same-from first zero [] (y ∷ ys) left right each = absurd (cc)
  same-from first zero (x ∷ xs) ys left right each = absurd (cc)
  same-from first (suc count) [] ys left right each = absurd (cc)
  same-from first (suc count) (x ∷ xs) [] left right each = absurd (cc)
  same-from first (suc count) (x ∷ xs) (y ∷ ys) left right each =
      let head : number x ≡ first = cc in
      let head' : number y ≡ first = cc in
      let tail : map number xs ≡ range_with_len (first + 1) count = cc in
      let tail' : map number ys ≡ range_with_len (first + 1) count = cc in
      let here : y ≡ x = by_place (each x (inl refl)) head tail' in
      let rest : (z : X) → Has xs z → Has ys z = λ z at. behind (each z (inr at)) head' (not-below (first + 1) count xs z tail at) in
      ap (λ (z : X). z ∷ xs) (sym here) ∙ ap (λ (zs : List X). y ∷ zs) (same-from (first + 1) count xs ys tail tail' rest)
    where
      by_place : Has (y ∷ ys) x → number x ≡ first → map number ys ≡ range_with_len (first + 1) count → y ≡ x
      by_place (inl e) head tail = e
      by_place (inr at) head tail = let low = not-below (first + 1) count ys x tail at in absurd (omega (arith, head, low))

      behind : {z : X} → Has (y ∷ ys) z → number y ≡ first → first + 1 ≤ number z → Has ys z
      behind {z} (inl e) head low =
          let same : number y ≡ number z = ap number e in
          absurd (omega (arith, head, low, same))
      behind (inr at) head low = at

  pub same-list : (n : ℕ) (xs ys : List X) → map number xs ≡ upto n → map number ys ≡ upto n → ((x : X) → Has xs x → Has ys x) → xs ≡ ys
  same-list n xs ys left right each = same-from 1 n xs ys (left ∙ upto-range n) (right ∙ upto-range n) each
