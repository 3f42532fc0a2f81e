-- The lanes of a book that was just opened are the new lanes that a front begins with.
use Rattle.std.proofs.Common.{◌≡◌, ℕ, zero, suc, ◌+◌, List, [], ◌∷◌, ◌++◌, length, length-append, refl, ap, sym, subst, ◌∙◌, arith, Option}
use Rattle.vg_book.specs.Opening.{first_lanes}
use Rattle.vg_book.specs.Tokens.{Lane}
use Rattle.vg_front.specs.Desks.{AreNew}

module _ (M S A R Q P H W : Type 0) where
  abbrev lane_of : Lane M S A R Q P H W → ℕ
  lane_of l = l.lane

  abbrev count_of : Lane M S A R Q P H W → ℕ
  count_of l = l.count

  new_more : (first : ℕ) (ls : List (Lane M S A R Q P H W)) (l : Lane M S A R Q P H W) → AreNew lane_of count_of first ls → l.lane ≡ first + length ls → l.count ≡ 0 → AreNew lane_of count_of first (ls ++ l ∷ [])
  new_more first [] l h at none = (omega (arith, at), none, tt)
  new_more first (x ∷ ls) l h at none = (h.0, h.1, new_more (first + 1) ls l h.2 (omega (arith, at)) none)

  abbrev first : Option S → ℕ → List (Lane M S A R Q P H W)
  first start n = first_lanes start n

  abbrev next : Option S → ℕ → Lane M S A R Q P H W
  next start n = record { lane = n; count = 0; seen = []; start = start }

  pub lanes_long : (start : Option S) (n : ℕ) → length (first start n) ≡ n
  lanes_long start zero = refl
  lanes_long start (suc n) = let rest = lanes_long start n in let more = length-append (first start n) (next start n ∷ []) in omega (arith, rest, more)

  pub lanes_are_new : (start : Option S) (n : ℕ) → AreNew lane_of count_of 0 (first start n)
  lanes_are_new start zero = tt
  lanes_are_new start (suc n) = let rest = lanes_long start n in new_more 0 (first start n) (next start n) (lanes_are_new start n) (omega (arith, rest)) refl

  -- What a front asks of the tokens that it begins with.
  pub lanes_begin : (start : Option S) (n : ℕ) (ls : List (Lane M S A R Q P H W)) → ls ≡ first start n → n ≡ 66 → (length ls ≡ 66) × AreNew lane_of count_of 0 ls
  lanes_begin start n ls e all = (ap length e ∙ lanes_long start n ∙ all, subst (λ (xs : List (Lane M S A R Q P H W)). AreNew lane_of count_of 0 xs) (sym e) (lanes_are_new start n))
