use Rattle.std.proofs.Common.{◌≡◌, ℕ, zero, suc, ◌-◌, ◌/◌, ◌^◌, ◌<◌, ◌==◌, ◌&&◌, ◌||◌, Bool, true, false, not, if◌then◌else◌, bit_and, bit_or, min, refl, ap, sym, ◌∙◌, arith, w64}
use Rattle.std.specs.Int.{bit_at, bit_not}
use Rattle.std.proofs.lemmas.Bool.Decides.{nat_tests}
use Rattle.std.proofs.lemmas.Nat.Bits.{bit_at-lt, bit_at-zero, bit_at_and, bit_at_or, bit_at_not, bit_at-pow_same, bit_at-pow_other, shr_and_one, same_from_bits_below}
use Rattle.vg_laws.proofs.Numbers.{has_max}
use Rattle.vg_config.specs.Features.{AreFaulty, IsFaultless, has, lacks_virgl, offered}

has_min : (a b : ℕ) → a < 2 → b < 2 → (min a b == 1) ≡ ((a == 1) && (b == 1))
has_min zero zero p q = refl
has_min zero (suc zero) p q = refl
has_min (suc zero) zero p q = refl
has_min (suc zero) (suc zero) p q = refl
has_min (suc (suc a)) b p q = absurd (omega arith)
has_min a (suc (suc b)) p q = absurd (omega arith)

has_less : (a : ℕ) → a < 2 → (1 - a == 1) ≡ not (a == 1)
has_less zero p = refl
has_less (suc zero) p = refl
has_less (suc (suc a)) p = absurd (omega arith)

has_and : (a b n : ℕ) → has (bit_and a b) n ≡ (has a n && has b n)
has_and a b n = ap (λ (bit : ℕ). bit == 1) (bit_at_and a b n) ∙ has_min (bit_at a n) (bit_at b n) (bit_at-lt a n) (bit_at-lt b n)

has_or : (a b n : ℕ) → has (bit_or a b) n ≡ (has a n || has b n)
has_or a b n = ap (λ (bit : ℕ). bit == 1) (bit_at_or a b n) ∙ has_max (bit_at a n) (bit_at b n) (bit_at-lt a n) (bit_at-lt b n)

has_not : (a n : ℕ) → a < 2 ^ 64 → n < 64 → has (bit_not w64 a) n ≡ not (has a n)
has_not a n fits within = ap (λ (bit : ℕ). bit == 1) (bit_at_not w64 a n fits within) ∙ has_less (bit_at a n) (bit_at-lt a n)

pub has_none : (n : ℕ) → has 0 n ≡ false
has_none n = ap (λ (bit : ℕ). bit == 1) (bit_at-zero n)

has_pow : (k n : ℕ) → has (2 ^ k) n ≡ (n == k)
has_pow k n = by_test (n == k) refl
  where
    by_test : (same : Bool) → (n == k) ≡ same → has (2 ^ k) n ≡ same
    by_test true e =
        let here : n ≡ k = grind (arith, nat_tests) in
        ap (λ (i : ℕ). has (2 ^ k) i) here ∙ ap (λ (bit : ℕ). bit == 1) (bit_at-pow_same k)
    by_test false e =
        ap (λ (bit : ℕ). bit == 1) (bit_at-pow_other k n (λ here. grind (arith, nat_tests)))

has_lone : (lone : Bool) (n : ℕ) → has (if lone then 16 else 0) n ≡ (n == 4 && lone)
has_lone true n = has_pow 4 n ∙ and_true (n == 4)
  where
    and_true : (b : Bool) → b ≡ (b && true)
    and_true true = refl
    and_true false = refl
has_lone false n = has_none n ∙ and_false (n == 4)
  where
    and_false : (b : Bool) → false ≡ (b && false)
    and_false true = refl
    and_false false = refl

has_missing : (there : Bool) (n : ℕ) → has (if there then 0 else 2 ^ 32) n ≡ (n == 32 && not there)
has_missing false n = has_pow 32 n ∙ and_true (n == 32)
  where
    and_true : (b : Bool) → b ≡ (b && true)
    and_true true = refl
    and_true false = refl
has_missing true n = has_none n ∙ and_false (n == 32)
  where
    and_false : (b : Bool) → false ≡ (b && false)
    and_false true = refl
    and_false false = refl

-- what is computed are the faulty bits
pub faulty-are : (features a b : ℕ) → a ≡ (if lacks_virgl features then 16 else 0) → b ≡ (if has features 32 then 0 else 2 ^ 32)
    → AreFaulty features (bit_or (bit_or (bit_and features (bit_not w64 offered)) a) b)
faulty-are features a b lone missing = record {
  each = λ n within.
      let c : ℕ = bit_and features (bit_not w64 offered) in
      has_or (bit_or c a) b n
      ∙ ap (λ (p : Bool). p || has b n) (has_or c a n)
      ∙ ap (λ (p : Bool). (p || has a n) || has b n) (has_and features (bit_not w64 offered) n ∙ ap (λ (p : Bool). has features n && p) (has_not offered n (omega arith) within))
      ∙ ap (λ (p : Bool). ((has features n && not (has offered n)) || p) || has b n) (ap (λ (x : ℕ). has x n) lone ∙ has_lone (lacks_virgl features) n)
      ∙ ap (λ (p : Bool). ((has features n && not (has offered n)) || (n == 4 && lacks_virgl features)) || p) (ap (λ (x : ℕ). has x n) missing ∙ has_missing (has features 32) n);
}

-- no faulty bits: nothing is faulty
pub none-faultless : (features faulty : ℕ) → AreFaulty features faulty → faulty ≡ 0 → IsFaultless features
none-faultless features faulty are none = record { each = λ n within. sym (are.each n within) ∙ ap (λ (x : ℕ). has x n) none ∙ has_none n }

-- nothing is faulty: no faulty bits
pub faultless-none : (features faulty : ℕ) → AreFaulty features faulty → faulty < 2 ^ 64 → IsFaultless features → faulty ≡ 0
faultless-none features faulty are fits good = same_from_bits_below 64 faulty 0 fits (omega arith) (λ i within. same i (are.each i within ∙ good.each i within))
  where
    unset : (bit : ℕ) → bit < 2 → (bit == 1) ≡ false → bit ≡ 0
    unset zero p e = refl
    unset (suc zero) p e = cc
    unset (suc (suc bit)) p e = absurd (omega arith)

    same : (i : ℕ) → has faulty i ≡ false → bit_at faulty i ≡ bit_at 0 i
    same i e = unset (bit_at faulty i) (bit_at-lt faulty i) e ∙ sym (bit_at-zero i)

-- the test of one bit
pub bit-test : (x n : ℕ) → (bit_and (x / 2 ^ n) 1 == 1) ≡ has x n
bit-test x n = ap (λ (bit : ℕ). bit == 1) (shr_and_one x n)
