-- A client's own entries in a history that goes on.
use Rattle.std.proofs.Common.{◌≡◌, inl, inr, ℕ, ◌==◌, Bool, true, false, cond, List, [], ◌∷◌, ◌++◌, refl, ap, ◌∙◌, arith, append-nil}
use Rattle.std.proofs.lemmas.Bool.Decides.{nat_tests}
use Rattle.vg_history.specs.declared.entry.Entry.{Entry}
use Rattle.vg_history.specs.declared.entry.Entry.TheVariants.{Act, Command}
use Rattle.vg_history.specs.Lists.{Has}
use Rattle.vg_history.specs.Entries.{client_of, EachOnce}
use Rattle.vg_history.proofs.ListLemmas.{has_right}
use Rattle.vg_book.specs.Own.{own}

module _ {M S A R Q P H W : Type 0} where
  own_append : (n : ℕ) (xs ys : List (Entry M S A R Q P H W)) → own n (xs ++ ys) ≡ own n xs ++ own n ys
  own_append n [] ys = refl
  own_append n (e ∷ xs) ys = by_test (client_of e == n) (own_append n xs ys)
    where
      by_test : (b : Bool) → own n (xs ++ ys) ≡ own n xs ++ own n ys → cond b (e ∷ own n (xs ++ ys)) (own n (xs ++ ys)) ≡ cond b (e ∷ own n xs) (own n xs) ++ own n ys
      by_test true rest = ap (λ es. e ∷ es) rest
      by_test false rest = rest

  not_own : (n : ℕ) (e : Entry M S A R Q P H W) → (client_of e ≡ n → ⊥) → (client_of e == n) ≡ false
  not_own n e not = by_test (client_of e == n) refl
    where
      by_test : (b : Bool) → (client_of e == n) ≡ b → (client_of e == n) ≡ false
      by_test true is = absurd (not (grind (arith, nat_tests, is)))
      by_test false is = is

  own_none : (n : ℕ) (es : List (Entry M S A R Q P H W)) → ((e : Entry M S A R Q P H W) → Has es e → client_of e ≡ n → ⊥) → own n es ≡ []
  own_none n [] none = refl
  own_none n (e ∷ es) none =
      ap (λ b. cond b (e ∷ own n es) (own n es)) (not_own n e (λ is. none e (inl refl) is)) ∙ own_none n es (λ f h is. none f (inr h) is)

  -- an entry stands once
  pub twice : (xs ys : List (Entry M S A R Q P H W)) (e : Entry M S A R Q P H W) → EachOnce (xs ++ ys) → Has xs e → Has ys e → ⊥
  twice [] ys e once h k = h
  twice (x ∷ xs) ys e once (inl is) k = once.0 e (has_right xs ys e k) (ap client_of is, ap (λ f. call f) is)
    where
      call : Entry M S A R Q P H W → ℕ
      call (Act c n a r) = n
      call (Command c n q p) = n
  twice (x ∷ xs) ys e once (inr h) k = twice xs ys e once.1 h k

  -- what is seen more has none of the client's entries, where all of them were seen
  pub own_same : (n : ℕ) (seen xs : List (Entry M S A R Q P H W)) → EachOnce (seen ++ xs)
      → ((f : Entry M S A R Q P H W) → Has (seen ++ xs) f → client_of f ≡ n → Has seen f) → own n (seen ++ xs) ≡ own n seen
  own_same n seen xs once known =
      let behind : own n xs ≡ [] = own_none n xs (λ f h at. twice seen xs f once (known f (has_right seen xs f h) at) h) in
      own_append n seen xs ∙ ap (λ es. own n seen ++ es) behind ∙ append-nil (own n seen)
