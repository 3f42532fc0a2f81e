-- Sets of clients as words.
use Rattle.std.proofs.Common.{◌≡◌, ℕ, zero, suc, ◌+◌, ◌-◌, ◌^◌, ◌≤◌, ◌==◌, ◌&&◌, ◌||◌, Bool, true, false, cond, nat_le, [], ◌∷◌, ◌++◌, bit_or, refl, sym, ap, ◌∙◌, inl, inr, arith}
use Rattle.std.specs.Int.{bit_at}
use Rattle.std.specs.List.{filter, range_with_len}
use Rattle.std.proofs.lemmas.Bool.{cases_eq, eq-eqb, ne_eqb}
use Rattle.std.proofs.lemmas.Bool.Decides.{nat_tests}
use Rattle.std.proofs.lemmas.List.Elements.{filter-append}
use Rattle.std.proofs.lemmas.Nat.Bits.{bit_at-lt, bit_at-zero, bit_at_or, bit_at-pow_same, bit_at-pow_other}
use Rattle.vg_laws.proofs.Numbers.{has_max}
use Rattle.vg_drawn.specs.Words.{has_client}

-- ---- the clients of a set, one after another

range-more : (a n : ℕ) → range_with_len a (n + 1) ≡ range_with_len a n ++ (a + n) ∷ []
range-more a n = by (n + 1) n (omega arith)
  where
    from : (a n : ℕ) → range_with_len a (suc n) ≡ range_with_len a n ++ (a + n) ∷ []
    from a zero = ap (λ k. k ∷ []) (omega arith)
    from a (suc n) = ap (λ xs. a ∷ xs) (from (a + 1) n) ∙ ap (λ k. a ∷ (range_with_len (a + 1) n ++ k ∷ [])) (omega arith)

    by : (m n : ℕ) → m ≡ suc n → range_with_len a m ≡ range_with_len a n ++ (a + n) ∷ []
    by m n is = ap (range_with_len a) is ∙ from a n

pub filter-more : (p : ℕ → Bool) (n : ℕ) → filter p (range_with_len 1 (n + 1)) ≡ filter p (range_with_len 1 n) ++ cond (p (1 + n)) ((1 + n) ∷ []) []
filter-more p n = ap (filter p) (range-more 1 n) ∙ filter-append p (range_with_len 1 n) ((1 + n) ∷ []) ∙ ap (λ xs. filter p (range_with_len 1 n) ++ xs) (one (1 + n))
  where
    one : (x : ℕ) → filter p (x ∷ []) ≡ cond (p x) (x ∷ []) []
    one x = refl

-- ---- bits

and-or : (t a b : Bool) → (t && (a || b)) ≡ ((t && a) || (t && b))
and-or true a b = refl
and-or false a b = refl

-- the clients of two sets
pub has-or : (a b client : ℕ) → has_client (bit_or a b) client ≡ (has_client a client || has_client b client)
has-or a b client =
    let n = client - 1 in
    ap (λ bit. nat_le 1 client && (bit == 1)) (bit_at_or a b n)
    ∙ ap (λ t. nat_le 1 client && t) (has_max (bit_at a n) (bit_at b n) (bit_at-lt a n) (bit_at-lt b n))
    ∙ and-or (nat_le 1 client) (bit_at a n == 1) (bit_at b n == 1)

and-false : (t : Bool) → (t && false) ≡ false
and-false true = refl
and-false false = refl

-- the set of none
pub has-none : (client : ℕ) → has_client 0 client ≡ false
has-none client = ap (λ bit. nat_le 1 client && (bit == 1)) (bit_at-zero (client - 1)) ∙ and-false (nat_le 1 client)

-- the set of one client
pub has-one : (client one : ℕ) → 1 ≤ client → has_client (2 ^ (client - 1)) one ≡ (one == client)
has-one client zero some = sym (ne_eqb 0 client (λ is. omega (arith, is, some)))
has-one client (suc one) some =
    let up : nat_le 1 (suc one) ≡ true = grind (arith, nat_tests) in
    let down : suc one - 1 ≡ one = omega arith in
    let bits = 2 ^ (client - 1) in
    ap (λ t. t && (bit_at bits (suc one - 1) == 1)) up
    ∙ ap (λ n. bit_at bits n == 1) down
    ∙ (elim (cases_eq one (client - 1)) [
      | inl same ↦
          ap (λ n. bit_at bits n == 1) same ∙ ap (λ bit. bit == 1) (bit_at-pow_same (client - 1))
          ∙ sym (eq-eqb (suc one) client (omega (arith, same, some)))
      | inr other ↦
          ap (λ bit. bit == 1) (bit_at-pow_other (client - 1) one other)
          ∙ sym (ne_eqb (suc one) client (λ is. other (omega (arith, is))))
    ])
