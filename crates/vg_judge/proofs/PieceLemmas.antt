-- Pixels that are compared piece by piece.
use Rattle.std.proofs.Common.{◌≡◌, ℕ, ◌+◌, ◌-◌, List, ◌++◌, length, take, drop, arith, sym, ap, ◌∙◌, take-add}

-- A piece more that is the same.
pub one_piece_more : (at : ℕ) (xs ys p : List ℕ) → take at xs ≡ take at ys → take (at + length p - at) (drop at xs) ≡ p → p ≡ take (length p) (drop at ys) → take (at + length p) xs ≡ take (at + length p) ys
one_piece_more at xs ys p before first second =
    let count : at + length p - at ≡ length p = omega arith in
    take-add at (length p) xs
    ∙ (λ i. before i ++ (sym (ap (λ n. take n (drop at xs)) count) ∙ first ∙ second) i)
    ∙ sym (take-add at (length p) ys)
