-- Numbers one after another.
use Rattle.std.proofs.Common.{◌≡◌, ◌+◌, ◌∙◌, sym, ap, refl, arith, ℕ, zero, suc, List, [], ◌∷◌, ◌++◌}
use Rattle.std.specs.List.{range_with_len}
use Rattle.vg_laws.proofs.Lists.{range-suc}
use Rattle.vg_history.specs.Lists.{upto}

pub range-more : (first count n : ℕ) → first + count ≡ n → range_with_len first count ++ n ∷ [] ≡ range_with_len first (count + 1)
range-more first count n e =
    let next : suc count ≡ count + 1 = omega arith in
    ap (λ (m : ℕ). range_with_len first count ++ m ∷ []) (sym e) ∙ range-suc first count ∙ ap (range_with_len first) next

-- those from 1 on
pub upto-range : (n : ℕ) → upto n ≡ range_with_len 1 n
upto-range zero = refl
upto-range (suc n) =
    let more : n + 1 ≡ suc n = omega arith in
    ap (λ (ns : List ℕ). ns ++ suc n ∷ []) (upto-range n) ∙ range-more 1 n (suc n) (omega arith) ∙ ap (range_with_len 1) more
