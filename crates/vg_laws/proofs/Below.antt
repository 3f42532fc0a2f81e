-- A test that holds at each number below a bound, by computing.
use Rattle.std.proofs.Common.{◌≡◌, ◌<◌, ◌&&◌, ℕ, zero, suc, Bool, true, ap, ◌∙◌, inl, inr, arith}
use Rattle.std.proofs.lemmas.Bool.{and_parts, cases_eq}

unfoldable pub below : (ℕ → Bool) → ℕ → Bool
below p zero = true
below p (suc n) = p n && below p n

pub below_at : (p : ℕ → Bool) (n k : ℕ) → below p n ≡ true → k < n → p k ≡ true
unfolding below
below_at p zero k all within = absurd (omega (arith, within))
below_at p (suc n) k all within =
    let both = and_parts (p n) (below p n) all in
    elim (cases_eq k n) [ inl same ↦ ap p same ∙ both.0 | inr other ↦ below_at p n k both.1 (omega (arith, within, other)) ]
