-- Functions that change at a number, orders that are taken out, and seats by their places.
use Rattle.std.proofs.Common.{◌≡◌, ◌≢◌, ◌⊎◌, inl, inr, ⊎_elim, ℕ, zero, suc, ◌+◌, ◌<◌, ◌==◌, cond, Bool, true, false, List, [], ◌∷◌, ◌++◌, map, length, set, refl, ap, sym, subst, ◌∙◌, arith, eq-eqb, ne_eqb}
use mathlib.Core.Logic.{dite}
use mathlib.Core.Option.{some, some-ne-none, some-injective}
use native.Mathlib.Decide.{ℕ_discrete}
use lib.ListN.{get_elem?}
use prog.Atomic.{either}
use Rattle.atomic_table.proofs.Lists.{set_here, at_last}
use Rattle.vg_history.specs.Lists.{Has, bit, times}
use Rattle.vg_book.specs.declared.board.Order.{Order}
use Rattle.vg_book.specs.Views.{order_call, without}

module _ {X : Type 0} where
  abbrev pub put : (ℕ → X) → ℕ → X → ℕ → X
  put f k x n = cond (n == k) x (f n)

  pub put_here : (f : ℕ → X) (k : ℕ) (x : X) (n : ℕ) → n ≡ k → put f k x n ≡ x
  put_here f k x n e = ap (λ (b : Bool). cond b x (f n)) (eq-eqb n k e)

  pub put_else : (f : ℕ → X) (k : ℕ) (x : X) (n : ℕ) → n ≢ k → put f k x n ≡ f n
  put_else f k x n ne = ap (λ (b : Bool). cond b x (f n)) (ne_eqb n k ne)

  pub at_below : (l : List X) (i : ℕ) (a : X) → get_elem? l i ≡ some a → i < length l
  at_below [] i a e = absurd (some-ne-none a (sym e))
  at_below (x ∷ xs) zero a e = omega arith
  at_below (x ∷ xs) (suc i) a e = let h = at_below xs i a e in omega arith

  pub at_end : (l : List X) (a b : X) (j : ℕ) → get_elem? (l ++ a ∷ []) j ≡ some b → (get_elem? l j ≡ some b) ⊎ ((j ≡ length l) × (a ≡ b))
  at_end [] a b zero e = inr (refl, some-injective a b e)
  at_end [] a b (suc j) e = absurd (some-ne-none b (sym e))
  at_end (x ∷ xs) a b zero e = inl e
  at_end (x ∷ xs) a b (suc j) e = ⊎_elim (λ l. inl l) (λ t. inr (ap suc t.0, t.1)) (at_end xs a b j e)

  pub last_same : (xs : List X) (a b : X) → xs ++ a ∷ [] ≡ xs ++ b ∷ [] → a ≡ b
  last_same xs a b e = some-injective a b (sym (at_last xs a (length xs) refl) ∙ (ap (λ l. get_elem? l (length xs)) e ∙ at_last xs b (length xs) refl))

-- what is at one place goes to another
abbrev pub moved : ℕ → ℕ → (ℕ → ℕ) → ℕ → ℕ
moved from to f n = cond (f n == from) to (f n)

pub moved_here : (from to : ℕ) (f : ℕ → ℕ) (n : ℕ) → f n ≡ from → moved from to f n ≡ to
moved_here from to f n e = ap (λ (b : Bool). cond b to (f n)) (eq-eqb (f n) from e)

pub moved_else : (from to : ℕ) (f : ℕ → ℕ) (n : ℕ) → f n ≢ from → moved from to f n ≡ f n
moved_else from to f n ne = ap (λ (b : Bool). cond b to (f n)) (ne_eqb (f n) from ne)

pub either_same : (n : ℕ) → either (n == 0) 0 n ≡ n
either_same n = dite (ℕ_discrete n 0) (λ e. ap (λ (b : Bool). either b 0 n) (eq-eqb n 0 e) ∙ sym e) (λ ne. ap (λ (b : Bool). either b 0 n) (ne_eqb n 0 ne))

module _ {M S A R Q P H W : Type 0} where
  without_here : (n : ℕ) (o : Order M S A R Q P H W) (os : List (Order M S A R Q P H W)) → o.call ≡ n → without n (o ∷ os) ≡ os
  without_here n o os e = ap (λ (b : Bool). cond b os (o ∷ without n os)) (eq-eqb o.call n e)

  without_else : (n : ℕ) (o : Order M S A R Q P H W) (os : List (Order M S A R Q P H W)) → o.call ≢ n → without n (o ∷ os) ≡ o ∷ without n os
  without_else n o os ne = ap (λ (b : Bool). cond b os (o ∷ without n os)) (ne_eqb o.call n ne)

  pub has_of_without : (n : ℕ) (os : List (Order M S A R Q P H W)) (o : Order M S A R Q P H W) → Has (without n os) o → Has os o
  has_of_without n [] o h = h
  has_of_without n (x ∷ os) o h = dite (ℕ_discrete x.call n)
      (λ e. inr (subst (λ (l : List (Order M S A R Q P H W)). Has l o) (without_here n x os e) h))
      (λ ne. ⊎_elim (λ is. inl is) (λ r. inr (has_of_without n os o r)) (subst (λ (l : List (Order M S A R Q P H W)). Has l o) (without_else n x os ne) h))

  pub has_without : (n : ℕ) (os : List (Order M S A R Q P H W)) (o : Order M S A R Q P H W) → Has os o → o.call ≢ n → Has (without n os) o
  has_without n [] o h ne = h
  has_without n (x ∷ os) o (inl is) ne = subst (λ (l : List (Order M S A R Q P H W)). Has l o) (sym (without_else n x os (λ e. ne (ap order_call (sym is) ∙ e)))) (inl is)
  has_without n (x ∷ os) o (inr h) ne = dite (ℕ_discrete x.call n)
      (λ e. subst (λ (l : List (Order M S A R Q P H W)). Has l o) (sym (without_here n x os e)) h)
      (λ no. subst (λ (l : List (Order M S A R Q P H W)). Has l o) (sym (without_else n x os no)) (inr (has_without n os o h ne)))

  pub times_without : (k : ℕ) (os : List (Order M S A R Q P H W)) (o : Order M S A R Q P H W) → Has os o
      → times k (map order_call os) ≡ times k (map order_call (without o.call os)) + bit (o.call == k)
  times_without k [] o h = absurd h
  times_without k (x ∷ os) o (inl is) = let e : x.call ≡ o.call = ap order_call is in let w = without_here o.call x os e in
      let b : bit (x.call == k) ≡ bit (o.call == k) = ap (λ (n : ℕ). bit (n == k)) e in
      let t : times k (map order_call (without o.call (x ∷ os))) ≡ times k (map order_call os) = ap (λ (l : List (Order M S A R Q P H W)). times k (map order_call l)) w in omega arith
  times_without k (x ∷ os) o (inr h) = dite (ℕ_discrete x.call o.call)
      (λ e. let b : bit (x.call == k) ≡ bit (o.call == k) = ap (λ (n : ℕ). bit (n == k)) e in
      let t : times k (map order_call (without o.call (x ∷ os))) ≡ times k (map order_call os) = ap (λ (l : List (Order M S A R Q P H W)). times k (map order_call l)) (without_here o.call x os e) in omega arith)
      (λ ne. let r = times_without k os o h in
      let t : times k (map order_call (without o.call (x ∷ os))) ≡ bit (x.call == k) + times k (map order_call (without o.call os)) = ap (λ (l : List (Order M S A R Q P H W)). times k (map order_call l)) (without_else o.call x os ne) in omega arith)

  pub length_without : (os : List (Order M S A R Q P H W)) (o : Order M S A R Q P H W) → Has os o → length os ≡ length (without o.call os) + 1
  length_without [] o h = absurd h
  length_without (x ∷ os) o (inl is) = let t : length (without o.call (x ∷ os)) ≡ length os = ap length (without_here o.call x os (ap order_call is)) in omega arith
  length_without (x ∷ os) o (inr h) = dite (ℕ_discrete x.call o.call)
      (λ e. let t : length (without o.call (x ∷ os)) ≡ length os = ap length (without_here o.call x os e) in omega arith)
      (λ ne. let r = length_without os o h in let t : length (without o.call (x ∷ os)) ≡ suc (length (without o.call os)) = ap length (without_else o.call x os ne) in omega arith)

pub true_not_false : true ≡ false → ⊥
true_not_false e = subst (λ (b : Bool). cond b (Unit {0}) ⊥) e tt

pub set_at : {X : Type 0} (vs : List X) (id : ℕ) (v w : X) → get_elem? vs id ≡ some v → get_elem? (set vs id w) id ≡ some w
set_at vs id v w at = set_here vs id w (at_below vs id v at)
