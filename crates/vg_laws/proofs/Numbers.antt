-- Laws of numbers.
use Rattle.std.proofs.Common.{◌≡◌, ℕ, ◌==◌, true, arith, ◌≢◌, false, ◌⊎◌, inl, inr, zero, suc, ◌<◌, ◌||◌, max, refl, nat_lt}
use Rattle.std.proofs.lemmas.Bool.Decides.{nat_tests}
use mathlib.Core.Logic.{dite}
use native.Mathlib.Decide.{ℕ_discrete}

pub same-number : (n m : ℕ) → (n == m) ≡ true → n ≡ m
same-number n m is = grind (arith, nat_tests)

pub differs : (one n : ℕ) → (one == n) ≡ false → one ≢ n
differs one n apart is = grind (arith, nat_tests)

pub same_or_not : (a b : ℕ) → (a ≡ b) ⊎ (a ≢ b)
same_or_not a b = dite (ℕ_discrete a b) (λ e. inl e) (λ ne. inr ne)

pub has_max : (a b : ℕ) → a < 2 → b < 2 → (max a b == 1) ≡ ((a == 1) || (b == 1))
has_max zero zero p q = refl
has_max zero (suc zero) p q = refl
has_max (suc zero) zero p q = refl
has_max (suc zero) (suc zero) p q = refl
has_max (suc (suc a)) b p q = absurd (omega arith)
has_max a (suc (suc b)) p q = absurd (omega arith)

pub test-below : (a b : ℕ) → a < b → nat_lt a b ≡ true
test-below a b is = grind (arith, nat_tests)
