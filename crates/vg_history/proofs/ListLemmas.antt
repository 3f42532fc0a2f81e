-- Lists by their elements, how often a number stands in one, and beginnings.
use Rattle.std.proofs.Common.{◌≡◌, ◌⊎◌, inl, inr, ⊎_elim, ℕ, zero, suc, ◌+◌, ◌<◌, ◌≤◌, ◌==◌, List, [], ◌∷◌, ◌++◌, map, refl, ap, sym, subst, ◌∙◌, arith, add-one, eq-eqb, ne_eqb, append_assoc}
use mathlib.Core.List.{IsPrefix}
use mathlib.Core.Option.{some, some-ne-none, some-injective}
use mathlib.Core.Logic.{dite}
use native.Mathlib.Decide.{ℕ_discrete}
use lib.ListN.{get_elem?}
use Rattle.vg_history.specs.Lists.{Has, bit, times, upto}

module _ {X : Type 0} where
  pub has_left : (xs ys : List X) (x : X) → Has xs x → Has (xs ++ ys) x
  has_left [] ys x h = absurd h
  has_left (y ∷ xs) ys x (inl e) = inl e
  has_left (y ∷ xs) ys x (inr h) = inr (has_left xs ys x h)

  pub has_right : (xs ys : List X) (x : X) → Has ys x → Has (xs ++ ys) x
  has_right [] ys x h = h
  has_right (y ∷ xs) ys x h = inr (has_right xs ys x h)

  pub has_append : (xs ys : List X) (x : X) → Has (xs ++ ys) x → Has xs x ⊎ Has ys x
  has_append [] ys x h = inr h
  has_append (y ∷ xs) ys x (inl e) = inl (inl e)
  has_append (y ∷ xs) ys x (inr h) = ⊎_elim (λ l. inl (inr l)) (λ r. inr r) (has_append xs ys x h)

  pub has_last : (xs : List X) (x : X) → Has (xs ++ x ∷ []) x
  has_last xs x = has_right xs (x ∷ []) x (inl refl)

  pub has_snoc : (xs : List X) (y x : X) → Has (xs ++ y ∷ []) x → Has xs x ⊎ (y ≡ x)
  has_snoc xs y x h = ⊎_elim (λ l. inl l) (λ r. ⊎_elim (λ e. inr e) (λ f. absurd f) r) (has_append xs (y ∷ []) x h)

  pub has_at : (xs : List X) (k : ℕ) (x : X) → get_elem? xs k ≡ some x → Has xs x
  has_at [] k x e = absurd (some-ne-none x (sym e))
  has_at (y ∷ xs) zero x e = inl (some-injective y x e)
  has_at (y ∷ xs) (suc k) x e = inr (has_at xs k x e)

  pub has_map : {Y : Type 0} (f : X → Y) (xs : List X) (x : X) → Has xs x → Has (map f xs) (f x)
  has_map f [] x h = absurd h
  has_map f (y ∷ xs) x (inl e) = inl (ap f e)
  has_map f (y ∷ xs) x (inr h) = inr (has_map f xs x h)

  pub map_has : {Y : Type 0} (f : X → Y) (xs : List X) (y : Y) → Has (map f xs) y → (x : X) × Has xs x × (f x ≡ y)
  map_has f [] y h = absurd h
  map_has f (x ∷ xs) y (inl e) = (x, inl refl, e)
  map_has f (x ∷ xs) y (inr h) = let t = map_has f xs y h in (t.0, inr t.1, t.2)

  pub prefix_self : (xs : List X) → IsPrefix xs xs
  prefix_self [] = ([], refl)
  prefix_self (x ∷ xs) = (let r = prefix_self xs in r.0, ap (λ ys. x ∷ ys) (prefix_self xs).1)

  pub prefix_more : (xs ys zs : List X) → IsPrefix xs ys → IsPrefix xs (ys ++ zs)
  prefix_more xs ys zs p = (p.0 ++ zs, sym (append_assoc xs p.0 zs) ∙ ap (λ w. w ++ zs) p.1)

  pub prefix_trans : (xs ys zs : List X) → IsPrefix xs ys → IsPrefix ys zs → IsPrefix xs zs
  prefix_trans xs ys zs p q = (p.0 ++ q.0, sym (append_assoc xs p.0 q.0) ∙ (ap (λ w. w ++ q.0) p.1 ∙ q.1))

  pub prefix_none : (xs : List X) → IsPrefix [] xs
  prefix_none xs = (xs, refl)

  pub has_prefix : (xs ys : List X) (x : X) → IsPrefix xs ys → Has xs x → Has ys x
  has_prefix xs ys x p h = subst (λ (l : List X). Has l x) p.1 (has_left xs p.0 x h)

bit_same : (n : ℕ) → bit (n == n) ≡ 1
bit_same n = ap bit (eq-eqb n n refl)

pub times_append : (n : ℕ) (xs ys : List ℕ) → times n (xs ++ ys) ≡ times n xs + times n ys
times_append n [] ys = omega arith
times_append n (x ∷ xs) ys = omega (arith, times_append n xs ys)

pub times_has : (n : ℕ) (xs : List ℕ) → Has xs n → 1 ≤ times n xs
times_has n [] h = absurd h
times_has n (x ∷ xs) (inl e) = let b : bit (x == n) ≡ 1 = ap bit (eq-eqb x n e) in omega arith
times_has n (x ∷ xs) (inr h) = omega (arith, times_has n xs h)

pub has_times : (n : ℕ) (xs : List ℕ) → 1 ≤ times n xs → Has xs n
has_times n [] h = absurd (omega arith)
has_times n (x ∷ xs) h = dite (ℕ_discrete x n) (λ e. inl e) (λ ne. let b : bit (x == n) ≡ 0 = ap bit (ne_eqb x n ne) in inr (has_times n xs (omega arith)))

pub upto_has : (u n : ℕ) → Has (upto u) n → (0 < n) × (n ≤ u)
upto_has zero n h = absurd h
upto_has (suc u) n h = ⊎_elim (λ l. let t = upto_has u n l in (t.0, omega arith)) (λ e. (subst (λ k. 0 < k) e (omega arith), subst (λ k. k ≤ suc u) e (omega arith))) (has_snoc (upto u) (suc u) n h)

pub has_upto : (u n : ℕ) → 0 < n → n ≤ u → Has (upto u) n
has_upto zero n a b = absurd (omega arith)
has_upto (suc u) n a b = dite (ℕ_discrete n (suc u)) (λ e. subst (λ k. Has (upto u ++ suc u ∷ []) k) (sym e) (has_last (upto u) (suc u)))
    (λ ne. has_left (upto u) (suc u ∷ []) n (has_upto u n a (omega arith)))

pub upto_more : (n : ℕ) → upto n ++ (n + 1) ∷ [] ≡ upto (n + 1)
upto_more n = rw add-one refl

pub upto_one : (u n : ℕ) → times n (upto u) ≤ 1
upto_one zero n = omega arith
upto_one (suc u) n = dite (ℕ_discrete (suc u) n)
    (λ e. let none : times n (upto u) ≤ 0 = dite (ℕ_discrete (times n (upto u)) 0) (λ z. omega arith) (λ nz. let t = upto_has u n (has_times n (upto u) (omega arith)) in absurd (omega arith)) in
    let b : bit (suc u == n) ≤ 1 = subst (λ k. bit (suc u == k) ≤ 1) e (let one : bit (suc u == suc u) ≡ 1 = bit_same (suc u) in omega arith) in
    omega (arith, times_append n (upto u) (suc u ∷ [])))
    (λ ne. let b : bit (suc u == n) ≡ 0 = ap bit (ne_eqb (suc u) n ne) in omega (arith, times_append n (upto u) (suc u ∷ []), upto_one u n))
