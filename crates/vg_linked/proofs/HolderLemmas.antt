-- How many holds of a buffer a client has after one more and one less, its own or another's.
use Rattle.std.proofs.Common.{◌≡◌, ◌≢◌, ◌≤◌, ℕ, zero, suc, ◌+◌, ◌-◌, ◌==◌, ◌||◌, Bool, true, false, cond, List, [], ◌∷◌, refl, ap, sym, ◌∙◌, arith, eq-eqb, ne_eqb}
use Rattle.std.specs.Prelude.{nat_lt}
use Rattle.std.proofs.lemmas.Bool.Decides.{nat_tests}
use Rattle.vg_laws.proofs.Bools.{or-true}
use Rattle.vg_share.specs.Share.{holds_in, some_hold, with_hold, without_hold}

-- what is one number is no other
pub one-only : (a b n : ℕ) → a ≢ b → (n == a) ≡ true → (n == b) ≡ false
one-only a b n apart is = ne_eqb n b (λ same. apart (sym (eq_of n a is) ∙ same))
  where
    eq_of : (n m : ℕ) → (n == m) ≡ true → n ≡ m
    eq_of n m is = grind (arith, nat_tests)

-- ---- its own

own-by : (f : ℕ → ℕ) (client : ℕ) (holder : ℕ × ℕ) (holders changed : List (ℕ × ℕ)) (b : Bool) → (holder.0 == client) ≡ b → holds_in client changed ≡ f (holds_in client holders)
    → holds_in client (cond b ((client, f holder.1) ∷ holders) (holder ∷ changed)) ≡ f (cond b holder.1 (holds_in client holders))
own-by f client holder holders changed true is rest = ap (λ c. cond c (f holder.1) (holds_in client holders)) (eq-eqb client client refl)
own-by f client holder holders changed false is rest = ap (λ c. cond c holder.1 (holds_in client changed)) is ∙ rest

pub holds-more : (client : ℕ) (holders : List (ℕ × ℕ)) → holds_in client (with_hold client holders) ≡ holds_in client holders + 1
holds-more client [] = ap {B = ℕ} (λ c. cond c 1 0) (eq-eqb client client refl)
holds-more client (holder ∷ holders) = own-by (λ n. n + 1) client holder holders (with_hold client holders) (holder.0 == client) refl (holds-more client holders)

pub holds-less : (client : ℕ) (holders : List (ℕ × ℕ)) → holds_in client (without_hold client holders) ≡ holds_in client holders - 1
holds-less client [] = refl
holds-less client (holder ∷ holders) = own-by (λ n. n - 1) client holder holders (without_hold client holders) (holder.0 == client) refl (holds-less client holders)

-- ---- another's

other-by : (client other n : ℕ) (holder : ℕ × ℕ) (holders changed : List (ℕ × ℕ)) (b : Bool) → other ≢ client → (holder.0 == other) ≡ b
    → holds_in client changed ≡ holds_in client holders → holds_in client (cond b ((other, n) ∷ holders) (holder ∷ changed)) ≡ holds_in client (holder ∷ holders)
other-by client other n holder holders changed true apart is rest =
    ap (λ c. cond c n (holds_in client holders)) (ne_eqb other client apart)
    ∙ sym (ap (λ c. cond c holder.1 (holds_in client holders)) (one-only other client holder.0 apart is))
other-by client other n holder holders changed false apart is rest = ap (λ found. cond (holder.0 == client) holder.1 found) rest

pub other-more : (client other : ℕ) (holders : List (ℕ × ℕ)) → other ≢ client → holds_in client (with_hold other holders) ≡ holds_in client holders
other-more client other [] apart = ap {B = ℕ} (λ c. cond c 1 0) (ne_eqb other client apart)
other-more client other (holder ∷ holders) apart =
    other-by client other (holder.1 + 1) holder holders (with_hold other holders) (holder.0 == other) apart refl (other-more client other holders apart)

pub other-less : (client other : ℕ) (holders : List (ℕ × ℕ)) → other ≢ client → holds_in client (without_hold other holders) ≡ holds_in client holders
other-less client other [] apart = refl
other-less client other (holder ∷ holders) apart =
    other-by client other (holder.1 - 1) holder holders (without_hold other holders) (holder.0 == other) apart refl (other-less client other holders apart)

-- ---- whether there is a hold

-- of a client that has one
pub some-held : (client : ℕ) (holders : List (ℕ × ℕ)) → 1 ≤ holds_in client holders → some_hold holders ≡ true
some-held client [] some = absurd (omega (arith, some))
some-held client (holder ∷ holders) some = by (holder.0 == client) some (some-held client holders)
  where
    by : (b : Bool) → 1 ≤ cond b holder.1 (holds_in client holders) → (1 ≤ holds_in client holders → some_hold holders ≡ true) → (nat_lt 0 holder.1 || some_hold holders) ≡ true
    by true some rest =
        let first : nat_lt 0 holder.1 ≡ true = grind (arith, nat_tests, some) in
        ap (λ b. b || some_hold holders) first
    by false some rest = ap (λ b. nat_lt 0 holder.1 || b) (rest some) ∙ or-true (nat_lt 0 holder.1)

-- so no client has one where there is none
pub none-held : (client : ℕ) (holders : List (ℕ × ℕ)) → some_hold holders ≡ false → holds_in client holders ≡ 0
none-held client holders none = by (holds_in client holders) refl
  where
    by : (n : ℕ) → holds_in client holders ≡ n → holds_in client holders ≡ 0
    by zero is = is
    by (suc n) is =
        let some = some-held client holders (omega (arith, is)) in
        absurd (cc)
