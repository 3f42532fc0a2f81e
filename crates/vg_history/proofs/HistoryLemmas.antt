-- Histories that grow by an entry.
use Rattle.std.proofs.Common.{◌≡◌, ◌≢◌, inl, inr, ⊎_elim, ℕ, ◌+◌, cond, Bool, true, false, List, [], ◌∷◌, ◌++◌, length, refl, ap, sym, subst, ◌∙◌, arith, eq-eqb, ne_eqb, append_assoc}
use mathlib.Core.Logic.{dite}
use native.Mathlib.Decide.{ℕ_discrete}
use Rattle.vg_history.specs.declared.machine.Machine.{Ghosts}
use Rattle.vg_history.specs.declared.entry.Entry.{Entry}
use Rattle.vg_history.specs.declared.entry.Entry.TheVariants.{Act, Command}
use Rattle.vg_history.specs.Lists.{Has, upto}
use Rattle.vg_history.specs.Entries.{client_of}
use Rattle.vg_history.specs.History.{after, replay, AgreesFrom, updated, holds_after, IsAllowed, AllowedBy, ordinal_in, ordinals, Ordered, HasCommand, HasFence, GivesNothingUp}
use Rattle.vg_history.proofs.ListLemmas.{has_left, has_right, has_append, has_upto, upto_has}

module _ {M S A R Q P H W : Type 0} (g : Ghosts M S A R Q P H W) where
  abbrev E : Type 0
  E = Entry M S A R Q P H W

  pub replay_append : (s : S) (xs ys : List E) → replay g s (xs ++ ys) ≡ replay g (replay g s xs) ys
  replay_append s [] ys = refl
  replay_append s (x ∷ xs) ys = replay_append (after g s x) xs ys

  pub agrees_append : (s : S) (xs ys : List E) → AgreesFrom g s xs → AgreesFrom g (replay g s xs) ys → AgreesFrom g s (xs ++ ys)
  agrees_append s [] ys a b = b
  agrees_append s (x ∷ xs) ys a b = (a.0, agrees_append (after g s x) xs ys a.1 b)

  pub agrees_beginning : (s : S) (xs ys : List E) → AgreesFrom g s (xs ++ ys) → AgreesFrom g s xs
  agrees_beginning s [] ys a = tt
  agrees_beginning s (x ∷ xs) ys a = (a.0, agrees_beginning (after g s x) xs ys a.1)

  pub holds_append : (c : ℕ) (h : H) (xs ys : List E) → holds_after g c h (xs ++ ys) ≡ holds_after g c (holds_after g c h xs) ys
  holds_append c h [] ys = refl
  holds_append c h (x ∷ xs) ys = holds_append c (updated g c h x) xs ys

  pub allowed_append : (c : ℕ) (h : H) (xs ys : List E) → AllowedBy g c h xs → AllowedBy g c (holds_after g c h xs) ys → AllowedBy g c h (xs ++ ys)
  allowed_append c h [] ys a b = b
  allowed_append c h (x ∷ xs) ys a b = (a.0, allowed_append c (updated g c h x) xs ys a.1 b)

  pub updated_other : (c : ℕ) (h : H) (e : E) → client_of e ≢ c → updated g c h e ≡ h
  updated_other c h (Act d n a r) ne = ap (λ (b : Bool). cond b (g.update h a r) h) (ne_eqb d c ne)
  updated_other c h (Command d n q p) ne = refl

  pub updated_own : (c n : ℕ) (h : H) (a : A) (r : R) → updated g c h (Act c n a r) ≡ g.update h a r
  updated_own c n h a r = ap (λ (b : Bool). cond b (g.update h a r) h) (eq-eqb c c refl)

  pub allowed_other : (c : ℕ) (h : H) (e : E) → client_of e ≢ c → IsAllowed g c h e
  allowed_other c h (Act d n a r) ne = tt
  allowed_other c h (Command d n q p) ne = λ is. absurd (ne is)

  pub ordinals_append : (l : ℕ) (xs ys : List E) → ordinals g l (xs ++ ys) ≡ ordinals g l xs ++ ordinals g l ys
  ordinals_append l [] ys = refl
  ordinals_append l (x ∷ xs) ys = ap (λ w. ordinal_in g l x ++ w) (ordinals_append l xs ys) ∙ sym (append_assoc (ordinal_in g l x) (ordinals g l xs) (ordinals g l ys))

  pub ordinals_act : (l c n : ℕ) (a : A) (r : R) (xs : List E) → ordinals g l (xs ++ Act c n a r ∷ []) ≡ ordinals g l xs
  ordinals_act l c n a r [] = refl
  ordinals_act l c n a r (x ∷ xs) = ap (λ w. ordinal_in g l x ++ w) (ordinals_act l c n a r xs)

  pub ordinals_else : (l c n : ℕ) (q : Q) (p : P) (xs : List E) → (g.tagged q).0 ≢ l → ordinals g l (xs ++ Command c n q p ∷ []) ≡ ordinals g l xs
  ordinals_else l c n q p [] ne = ap (λ (b : Bool). cond b ((g.tagged q).1 ∷ []) [] ++ []) (ne_eqb (g.tagged q).0 l ne)
  ordinals_else l c n q p (x ∷ xs) ne = ap (λ w. ordinal_in g l x ++ w) (ordinals_else l c n q p xs ne)

  pub ordinals_next : (l c n : ℕ) (q : Q) (p : P) (xs : List E) → (g.tagged q).0 ≡ l → ordinals g l (xs ++ Command c n q p ∷ []) ≡ ordinals g l xs ++ (g.tagged q).1 ∷ []
  ordinals_next l c n q p xs is = ordinals_append l xs (Command c n q p ∷ []) ∙ ap (λ (b : Bool). ordinals g l xs ++ (cond b ((g.tagged q).1 ∷ []) [] ++ [])) (eq-eqb (g.tagged q).0 l is)

  pub count_replay : ((s : S) (c : ℕ) (a : A) → g.count (g.acted s c a) ≡ g.count s + 1) → ((s : S) (q : Q) → g.count (g.requested s q) ≡ g.count s + 1)
      → (s : S) (es : List E) → g.count (replay g s es) ≡ g.count s + length es
  count_replay acts requests s [] = omega arith
  count_replay acts requests s (Act c n a r ∷ es) = omega (arith, count_replay acts requests (g.acted s c a) es, acts s c a)
  count_replay acts requests s (Command c n q p ∷ es) = omega (arith, count_replay acts requests (g.requested s q) es, requests s q)

  pub still_allowed : ((h : H) (a : A) (r : R) (q : Q) → g.ends_hold a ≡ false → g.allows h q ≡ true → g.allows (g.update h a r) q ≡ true)
      → (c : ℕ) (h : H) (es : List E) (q : Q) → GivesNothingUp g c es → g.allows h q ≡ true → g.allows (holds_after g c h es) q ≡ true
  still_allowed keeps c h [] q none_up may = may
  still_allowed keeps c h (Act d n a r ∷ es) q none_up may = still_allowed keeps c (updated g c h (Act d n a r)) es q none_up.1
      (dite (ℕ_discrete d c) (λ e. subst (λ (b : Bool). g.allows (cond b (g.update h a r) h) q ≡ true) (sym (eq-eqb d c e)) (keeps h a r q (none_up.0 e) may))
      (λ ne. subst (λ (b : Bool). g.allows (cond b (g.update h a r) h) q ≡ true) (sym (ne_eqb d c ne)) may))
  still_allowed keeps c h (Command d n q' p ∷ es) q none_up may = still_allowed keeps c h es q none_up may

  here_or_later : (l k : ℕ) (e : E) (es : List E) → Has (ordinal_in g l e) k → HasCommand g l k (e ∷ es)
  here_or_later l k (Act c n a r) es h = absurd h
  here_or_later l k (Command c n q p) es h = dite (ℕ_discrete (g.tagged q).0 l)
      (λ is. let own = subst (λ (b : Bool). Has (cond b ((g.tagged q).1 ∷ []) []) k) (eq-eqb (g.tagged q).0 l is) h in
      (c, n, q, p, inl refl, ⊎_elim (λ (e : (g.tagged q).1 ≡ k). λ i. (is i, e i)) (λ f. absurd f) own))
      (λ ne. absurd (subst (λ (b : Bool). Has (cond b ((g.tagged q).1 ∷ []) []) k) (ne_eqb (g.tagged q).0 l ne) h))

  -- an ordinal of a lane is a command's
  pub command_of : (l k : ℕ) (es : List E) → Has (ordinals g l es) k → HasCommand g l k es
  command_of l k [] h = absurd h
  command_of l k (e ∷ es) h = ⊎_elim (λ a. here_or_later l k e es a) (λ b. let t = command_of l k es b in (t.0, t.1, t.2, t.3, inr t.4, t.5)) (has_append (ordinal_in g l e) (ordinals g l es) k h)

  ordinal_here : (c n : ℕ) (q : Q) (p : P) → Has (ordinal_in g (g.tagged q).0 (Command c n q p)) (g.tagged q).1
  ordinal_here c n q p = subst (λ (b : Bool). Has (cond b ((g.tagged q).1 ∷ []) []) (g.tagged q).1) (sym (eq-eqb (g.tagged q).0 (g.tagged q).0 refl)) (inl refl)

  -- a command's ordinal stands among its lane's
  pub ordinal_of : (es : List E) (c n : ℕ) (q : Q) (p : P) → Has es (Command c n q p) → Has (ordinals g (g.tagged q).0 es) (g.tagged q).1
  ordinal_of [] c n q p h = absurd h
  ordinal_of (e ∷ es) c n q p (inl is) = has_left (ordinal_in g (g.tagged q).0 e) (ordinals g (g.tagged q).0 es) (g.tagged q).1 (subst (λ (x : E). Has (ordinal_in g (g.tagged q).0 x) (g.tagged q).1) (sym is) (ordinal_here c n q p))
  ordinal_of (e ∷ es) c n q p (inr h) = has_right (ordinal_in g (g.tagged q).0 e) (ordinals g (g.tagged q).0 es) (g.tagged q).1 (ordinal_of es c n q p h)

  -- a command stands behind all of its lane with smaller ordinals
  pub fence_of : (es : List E) (c n : ℕ) (q : Q) (p : P) → Ordered g es → Has es (Command c n q p) → HasFence g (g.tagged q).0 (g.tagged q).1 es
  fence_of es c n q p ordered h j above below =
      let l : ℕ = (g.tagged q).0 in let t = ordered l in
      let own : Has (upto t.0) (g.tagged q).1 = subst (λ (w : List ℕ). Has w (g.tagged q).1) t.1 (ordinal_of es c n q p h) in
      let most = (upto_has t.0 (g.tagged q).1 own).1 in
      command_of l j es (subst (λ (w : List ℕ). Has w j) (sym t.1) (has_upto t.0 j above (omega (arith, most, below))))

  -- where nothing is the client's, its holds stay and nothing can be forbidden
  pub holds_none : (c : ℕ) (h : H) (es : List E) → ((e : E) → Has es e → client_of e ≢ c) → holds_after g c h es ≡ h
  holds_none c h [] none_of = refl
  holds_none c h (e ∷ es) none_of = ap (λ (x : H). holds_after g c x es) (updated_other c h e (none_of e (inl refl))) ∙ holds_none c h es (λ f i. none_of f (inr i))

  pub allowed_none : (c : ℕ) (h : H) (es : List E) → ((e : E) → Has es e → client_of e ≢ c) → AllowedBy g c h es
  allowed_none c h [] none_of = tt
  allowed_none c h (e ∷ es) none_of = (allowed_other c h e (none_of e (inl refl)), allowed_none c (updated g c h e) es (λ f i. none_of f (inr i)))
