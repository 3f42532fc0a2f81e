-- The search finds the first line that waits for itself.
use Rattle.std.proofs.Common.{◌≡◌, ◌≢◌, ℕ, zero, suc, ◌+◌, ◌-◌, ◌<◌, ◌≤◌, ◌⊎◌, inl, inr, max, nat_lt, Bool, true, false, List, [], ◌∷◌, ◌++◌, length, Option, Some, None, if◌then◌else◌, arith, refl, ap, sym, subst, ◌∙◌, get_or, set}
use Rattle.std.specs.Prelude.{sum_by, is_some, replicate}
use Rattle.std.proofs.lemmas.Bool.{cases_lt, cases_eq}
use Rattle.std.proofs.lemmas.Bool.Decides.{nat_tests}
use Rattle.std.proofs.lemmas.List.{get_or_past, get_or-set_same, get_or-set_other, length-set, get_or-replicate, length-replicate}
use Rattle.std.proofs.lemmas.List.Sums.{sum_by-set, sum_by-cons}
use Rattle.std.proofs.Math.Nat.{le-max_left, le-max_right, max-le}
use Rattle.vg_script.specs.Waits.{AreSteps, IsBefore}
use Rattle.vg_script.specs.SearchWithin.{Search, reach_to, behind_from, one_gone, go_from, close, close_for, passed, found_or, find_in, fresh, first_of, find_from}

abbrev get : List ℕ → ℕ → ℕ
get xs i = get_or xs i 0

-- ---- steps
module _ {X : Type 0} (L : X → X → Type 0) where
  join : (one : X) (xs : List X) (mid : X) (ys : List X) (other : X) → AreSteps L one xs mid → AreSteps L mid ys other → AreSteps L one (xs ++ mid ∷ ys) other
  join one [] mid ys other a b = (a, b)
  join one (x ∷ xs) mid ys other a b = (a.0, join x xs mid ys other a.1 b)

  abbrev pub Reaches : X → X → Type 0
  Reaches one other = (between : List X) × AreSteps L one between other

  pub reach_by : (one mid other : X) → Reaches one mid → Reaches mid other → Reaches one other
  reach_by one mid other a b = (a.0 ++ mid ∷ b.0, join one a.0 mid b.0 other a.1 b.1)

  pub one_step : (one other : X) → L one other → Reaches one other
  one_step one other w = ([], w)

  -- What is closed under steps has all that is reached from what it has.
  pub stays_in : (In : X → Type 0) → ((x y : X) → In x → L x y → In y) → (one : X) (between : List X) (other : X) → In one → AreSteps L one between other → In other
  stays_in In closed one [] other h w = closed one other h w
  stays_in In closed one (next ∷ more) other h w = stays_in In closed next more other (closed one next h w.0) w.1

  -- And so of what leads to nothing but what it has.
  pub leads_in : (In : X → Type 0) → ((x y : X) → In x → L x y → In y) → (one : X) → ((y : X) → L one y → In y) → (between : List X) (other : X) → AreSteps L one between other → In other
  leads_in In closed one first [] other w = first other w
  leads_in In closed one first (next ∷ more) other w = stays_in In closed next more other (first next w.0) w.1

-- ---- lists of numbers
in_range : (xs : List ℕ) (i n : ℕ) → n < get xs i → i < length xs
in_range xs i n h = elim (cases_lt i (length xs)) [ inl s ↦ s | inr s ↦ absurd (let e = get_or_past xs i 0 s in omega (arith, e, h)) ]

set_cases : (xs : List ℕ) (i d y : ℕ) → i < length xs → ((d ≡ i) × (get (set xs i y) d ≡ y)) ⊎ ((d ≢ i) × (get (set xs i y) d ≡ get xs d))
set_cases xs i d y h = elim (cases_eq d i) [
  | inl e ↦ inl (e, ap (get (set xs i y)) e ∙ get_or-set_same xs i y 0 h)
  | inr e ↦ inr (e, get_or-set_other xs i d y 0 e)
]

raised : (reach : List ℕ) (at : ℕ × ℕ) (d k : ℕ) → at.0 < length reach → k < get (reach_to reach (Some at)) d → (k < get reach d) ⊎ ((d ≡ at.0) × (k ≤ at.1))
raised reach at d k h lt = elim (set_cases reach at.0 d (max (get reach at.0) (at.1 + 1)) h) [
  | inl e ↦ elim (cases_lt k (at.1 + 1)) [
    | inl s ↦ inr (e.0, omega (arith, s))
    | inr s ↦ inl (elim (cases_lt k (get reach d)) [
      | inl t ↦ t
      | inr t ↦ absurd (let u : get reach at.0 ≤ k = subst (λ x. get reach x ≤ k) e.0 t in let m = max-le u s in omega (arith, m, lt, e.1))
    ])
  ]
  | inr e ↦ inl (omega (arith, lt, e.1))
]

keeps_reach : (reach : List ℕ) (at : ℕ × ℕ) (d : ℕ) → at.0 < length reach → get reach d ≤ get (reach_to reach (Some at)) d
keeps_reach reach at d h = elim (set_cases reach at.0 d (max (get reach at.0) (at.1 + 1)) h) [
  | inl e ↦ (let m = le-max_left (get reach at.0) (at.1 + 1) in let f = ap (get reach) e.0 in omega (arith, m, f, e.1))
  | inr e ↦ omega (arith, e.1)
]

puts : (reach : List ℕ) (at : ℕ × ℕ) → at.0 < length reach → at.1 < get (reach_to reach (Some at)) at.0
puts reach at h = let m = le-max_right (get reach at.0) (at.1 + 1) in let e = get_or-set_same reach at.0 (max (get reach at.0) (at.1 + 1)) 0 h in omega (arith, m, e)

sum_le : (xs ys : List ℕ) → length xs ≡ length ys → ((d : ℕ) → get xs d ≤ get ys d) → sum_by (λ n. n) xs ≤ sum_by (λ n. n) ys
sum_le [] [] l h = omega arith
sum_le [] (y ∷ ys) l h = absurd (omega (arith, l))
sum_le (x ∷ xs) [] l h = absurd (omega (arith, l))
sum_le (x ∷ xs) (y ∷ ys) l h = let a : x ≤ y = h 0 in let b = sum_le xs ys (omega (arith, l)) (λ d. h (suc d)) in omega (arith, a, b, sum_by-cons (λ n. n) x xs, sum_by-cons (λ n. n) y ys)

-- ---- one search
module _ (sizes : List ℕ) (target : ℕ → ℕ → Option (ℕ × ℕ)) (ranged : (c i : ℕ) (at : ℕ × ℕ) → i < get_or sizes c 0 → target c i ≡ Some at → at.1 < get_or sizes at.0 0) where
  abbrev pub Leads : ℕ × ℕ → ℕ × ℕ → Type 0
  Leads one other = (one.1 < get_or sizes one.0 0) × (((other.0 ≡ one.0) × (other.1 + 1 ≡ one.1)) ⊎ (target one.0 one.1 ≡ Some other))

  abbrev pub To : ℕ × ℕ → ℕ × ℕ → Type 0
  To one other = Reaches Leads one other

  down : (m : ℕ) (a : ℕ × ℕ) (d k j : ℕ) → j ≡ k + m → j < get sizes d → To a (d, j) → To a (d, k)
  down zero a d k j e lt to = let f : j ≡ k = omega (arith, e) in subst (λ x. To a (d, x)) f to
  down (suc m) a d k j e lt to =
      let step : Leads (d, j) (d, k + m) = (lt, inl (refl, omega (arith, e))) in
      down m a d k (k + m) refl (omega (arith, e, lt)) (reach_by Leads a (d, j) (d, k + m) to (one_step Leads (d, j) (d, k + m) step))

  pub down_to : (a : ℕ × ℕ) (d k j : ℕ) → k ≤ j → j < get sizes d → To a (d, j) → To a (d, k)
  down_to a d k j le lt to = down (j - k) a d k j (omega (arith, le)) lt to

  -- What holds of the search for all that a line waits for.
  record Going (c i : ℕ) (s : Search) : Type 0 where
    len_reach : length s.reach ≡ length sizes
    len_gone : length s.gone ≡ length sizes
    behind : (d : ℕ) → get s.gone d ≤ get s.reach d
    bounded : (d : ℕ) → get s.reach d ≤ get sizes d
    closed : (d k : ℕ) (at : ℕ × ℕ) → k < get s.gone d → target d k ≡ Some at → at.1 < get s.reach at.0
    sound : i < get sizes c → (d k : ℕ) → k < get s.reach d → To (c, i) (d, k)
    own : (at : ℕ × ℕ) → target c i ≡ Some at → at.1 < get s.reach at.0
    base : i ≤ get s.reach c

  abbrev Done : Search → Type 0
  Done s = (d : ℕ) → get s.reach d ≤ get s.gone d

  -- Before the line is looked at: all that comes with the lines before it was gone through.
  record Ready (c i : ℕ) (s : Search) : Type 0 where
    len_reach : length s.reach ≡ length sizes
    len_gone : length s.gone ≡ length sizes
    behind : (d : ℕ) → get s.gone d ≤ get s.reach d
    done : (d : ℕ) → get s.reach d ≤ get s.gone d
    bounded : (d : ℕ) → get s.reach d ≤ get sizes d
    closed : (d k : ℕ) (at : ℕ × ℕ) → k < get s.gone d → target d k ≡ Some at → at.1 < get s.reach at.0
    sound : i < get sizes c → (d k : ℕ) → k < get s.reach d → To (c, i) (d, k)
    base : get s.reach c ≡ i

  bounded_to : (reach : List ℕ) (at : ℕ × ℕ) → at.0 < length reach → at.1 < get sizes at.0 → ((d : ℕ) → get reach d ≤ get sizes d) → (d : ℕ) → get (reach_to reach (Some at)) d ≤ get sizes d
  bounded_to reach at h lt all d = elim (set_cases reach at.0 d (max (get reach at.0) (at.1 + 1)) h) [
    | inl e ↦ (let m = max-le {a = get reach at.0} {b = at.1 + 1} {k = get sizes at.0} (all at.0) (omega (arith, lt)) in let f = ap (get sizes) e.0 in omega (arith, m, f, e.1))
    | inr e ↦ (let a = all d in omega (arith, a, e.1))
  ]

  -- A client of which not all were gone through.
  one_more_gone : (c i d : ℕ) (s : Search) → i < get sizes c → Going c i s → get s.gone d < get s.reach d → (o : Option (ℕ × ℕ)) → target d (get s.gone d) ≡ o
      → Going c i (record { reach = reach_to s.reach o; gone = set s.gone d (get s.gone d + 1) })
  one_more_gone c i d s line g lt None e =
      let here : d < length s.gone = (let r = in_range s.reach d (get s.gone d) lt in omega (arith, r, g.len_reach, g.len_gone)) in
      record {
        len_reach = g.len_reach;
        len_gone = length-set s.gone d (get s.gone d + 1) ∙ g.len_gone;
        behind = λ x. elim (set_cases s.gone d x (get s.gone d + 1) here) [
          | inl q ↦ (let f = ap (get s.reach) q.0 in omega (arith, lt, f, q.1))
          | inr q ↦ (let f = g.behind x in omega (arith, f, q.1))
        ];
        bounded = g.bounded;
        closed = λ x k at less t. elim (set_cases s.gone d x (get s.gone d + 1) here) [
          | inl q ↦ elim (cases_lt k (get s.gone x)) [
            | inl u ↦ g.closed x k at u t
            | inr u ↦ absurd (
                let f = ap (get s.gone) q.0 in
                let same : k ≡ get s.gone d = omega (arith, u, less, q.1, f) in
                let t2 : target d (get s.gone d) ≡ Some at = ap (λ y. target y (get s.gone d)) (sym q.0) ∙ ap (target x) (sym same) ∙ t in
                cc (e, t2))
          ]
          | inr q ↦ g.closed x k at (omega (arith, less, q.1)) t
        ];
        sound = g.sound;
        own = g.own;
        base = g.base;
      }
  one_more_gone c i d s line g lt (Some to) e =
      let in_reach = in_range s.reach d (get s.gone d) lt in
      let here : d < length s.gone = omega (arith, in_reach, g.len_reach, g.len_gone) in
      let size : get s.gone d < get sizes d = (let b = g.bounded d in omega (arith, b, lt)) in
      let small : to.1 < get sizes to.0 = ranged d (get s.gone d) to size e in
      let there : to.0 < length s.reach = (let r = in_range sizes to.0 to.1 small in omega (arith, r, g.len_reach)) in
      let more : (x : ℕ) → get s.reach x ≤ get (reach_to s.reach (Some to)) x = λ x. keeps_reach s.reach to x there in
      record {
        len_reach = length-set s.reach to.0 (max (get s.reach to.0) (to.1 + 1)) ∙ g.len_reach;
        len_gone = length-set s.gone d (get s.gone d + 1) ∙ g.len_gone;
        behind = λ x. elim (set_cases s.gone d x (get s.gone d + 1) here) [
          | inl q ↦ (let f = ap (get s.reach) q.0 in let m = more x in omega (arith, lt, f, q.1, m))
          | inr q ↦ (let f = g.behind x in let m = more x in omega (arith, f, q.1, m))
        ];
        bounded = bounded_to s.reach to there small g.bounded;
        closed = λ x k at less t. elim (set_cases s.gone d x (get s.gone d + 1) here) [
          | inl q ↦ elim (cases_lt k (get s.gone x)) [
            | inl u ↦ (let a = g.closed x k at u t in let m = more at.0 in omega (arith, a, m))
            | inr u ↦
                let f = ap (get s.gone) q.0 in
                let same : k ≡ get s.gone d = omega (arith, u, less, q.1, f) in
                let t2 : target d (get s.gone d) ≡ Some at = ap (λ y. target y (get s.gone d)) (sym q.0) ∙ ap (target x) (sym same) ∙ t in
                let one : to ≡ at = cc (e, t2) in
                subst (λ (y : ℕ × ℕ). y.1 < get (reach_to s.reach (Some to)) y.0) one (puts s.reach to there)
          ]
          | inr q ↦ (let a = g.closed x k at (omega (arith, less, q.1)) t in let m = more at.0 in omega (arith, a, m))
        ];
        sound = λ is x k less. elim (raised s.reach to x k there less) [
          | inl u ↦ g.sound is x k u
          | inr u ↦
              let step : Leads (d, get s.gone d) to = (size, inr e) in
              let reached = reach_by Leads (c, i) (d, get s.gone d) to (g.sound is d (get s.gone d) lt) (one_step Leads (d, get s.gone d) to step) in
              subst (λ y. To (c, i) (y, k)) (sym u.0) (down_to (c, i) to.0 k to.1 u.1 small reached)
        ];
        own = λ at t. (let a = g.own at t in let m = more at.0 in omega (arith, a, m));
        base = (let b = g.base in let m = more c in omega (arith, b, m));
      }

  behind-some : (k : ℕ) (reach gone : List ℕ) (d : ℕ) → behind_from k reach gone ≡ Some d → (m : ℕ) × (d ≡ k + m) × (get gone m < get reach m)
  unfolding behind_from
  behind-some k [] gone d h = absurd (cc h)
  behind-some k (r ∷ reach) [] d h = absurd (cc h)
  behind-some k (r ∷ reach) (g ∷ gone) d h = by_test (nat_lt g r) refl h (λ e. behind-some (k + 1) reach gone d e)
    where
      by_test : (b : Bool) → nat_lt g r ≡ b → (if b then Some k else behind_from (k + 1) reach gone) ≡ Some d
          → (behind_from (k + 1) reach gone ≡ Some d → (m : ℕ) × (d ≡ k + 1 + m) × (get gone m < get reach m)) → (m : ℕ) × (d ≡ k + m) × (get (g ∷ gone) m < get (r ∷ reach) m)
      by_test true t e rest = (0, (let f : k ≡ d = cc e in omega (arith, f)), grind (arith, nat_tests))
      by_test false t e rest = let p = rest e in (suc p.0, omega (arith, p.1), p.2)

  behind-none : (k : ℕ) (reach gone : List ℕ) → length reach ≡ length gone → behind_from k reach gone ≡ None → (d : ℕ) → get reach d ≤ get gone d
  unfolding behind_from
  behind-none k [] gone l h d = omega arith
  behind-none k (r ∷ reach) [] l h d = absurd (omega (arith, l))
  behind-none k (r ∷ reach) (g ∷ gone) l h d = by_test (nat_lt g r) refl h (λ e. behind-none (k + 1) reach gone (omega (arith, l)) e) d
    where
      by_test : (b : Bool) → nat_lt g r ≡ b → (if b then Some k else behind_from (k + 1) reach gone) ≡ None → (behind_from (k + 1) reach gone ≡ None → (d : ℕ) → get reach d ≤ get gone d)
          → (d : ℕ) → get (r ∷ reach) d ≤ get (g ∷ gone) d
      by_test true t e rest d = absurd (cc e)
      by_test false t e rest zero = grind (arith, nat_tests)
      by_test false t e rest (suc d) = rest e d

  abbrev total : ℕ
  total = sum_by (λ n. n) sizes

  closes : (c i : ℕ) → i < get sizes c → (n : ℕ) (s : Search) → Going c i s → total ≤ n + sum_by (λ k. k) s.gone → Going c i (close target n s) × Done (close target n s)
  unfolding close
  closes c i line zero s g enough = (g, no_more (behind_from 0 s.reach s.gone) refl)
    where
      no_more : (o : Option ℕ) → behind_from 0 s.reach s.gone ≡ o → Done s
      no_more None e = behind-none 0 s.reach s.gone (g.len_reach ∙ sym g.len_gone) e
      no_more (Some d) e = absurd (
          let p = behind-some 0 s.reach s.gone d e in
          let lt : get s.gone p.0 < get s.reach p.0 = p.2 in
          let next = one_more_gone c i p.0 s line g lt (target p.0 (get s.gone p.0)) refl in
          let here : p.0 < length s.gone = (let r = in_range s.reach p.0 (get s.gone p.0) lt in omega (arith, r, g.len_reach, g.len_gone)) in
          let sum = sum_by-set (λ k. k) s.gone p.0 (get s.gone p.0 + 1) 0 here in
          let fits = sum_le (set s.gone p.0 (get s.gone p.0 + 1)) sizes next.len_gone (λ x. let a = next.behind x in let b = next.bounded x in omega (arith, a, b)) in
          omega (arith, sum, fits, enough))
  closes c i line (suc n) s g enough = by_behind (behind_from 0 s.reach s.gone) refl (λ s2 g2 e2. closes c i line n s2 g2 e2)
    where
      by_behind : (o : Option ℕ) → behind_from 0 s.reach s.gone ≡ o → ((s2 : Search) → Going c i s2 → total ≤ n + sum_by (λ k. k) s2.gone → Going c i (close target n s2) × Done (close target n s2))
          → Going c i (go_from o s (λ client. close target n (one_gone target s client))) × Done (go_from o s (λ client. close target n (one_gone target s client)))
      by_behind None e rest = (g, behind-none 0 s.reach s.gone (g.len_reach ∙ sym g.len_gone) e)
      by_behind (Some d) e rest =
          let p = behind-some 0 s.reach s.gone d e in
          let same : p.0 ≡ d = omega (arith, p.1) in
          let lt : get s.gone d < get s.reach d = subst (λ x. get s.gone x < get s.reach x) same p.2 in
          let here : d < length s.gone = (let r = in_range s.reach d (get s.gone d) lt in omega (arith, r, g.len_reach, g.len_gone)) in
          let sum = sum_by-set (λ k. k) s.gone d (get s.gone d + 1) 0 here in
          rest (one_gone target s d) (one_more_gone c i d s line g lt (target d (get s.gone d)) refl) (omega (arith, sum, enough))

  -- The line is looked at.
  start_with : (c i : ℕ) (s : Search) → Ready c i s → i < get sizes c → (o : Option (ℕ × ℕ)) → target c i ≡ o → Going c i (record { reach = reach_to s.reach o; gone = s.gone })
  start_with c i s r line None e = record {
    len_reach = r.len_reach;
    len_gone = r.len_gone;
    behind = r.behind;
    bounded = r.bounded;
    closed = r.closed;
    sound = r.sound;
    own = λ at t. absurd (cc (e, t));
    base = omega (arith, r.base);
  }
  start_with c i s r line (Some to) e =
      let small : to.1 < get sizes to.0 = ranged c i to line e in
      let there : to.0 < length s.reach = (let q = in_range sizes to.0 to.1 small in omega (arith, q, r.len_reach)) in
      let more : (x : ℕ) → get s.reach x ≤ get (reach_to s.reach (Some to)) x = λ x. keeps_reach s.reach to x there in
      record {
        len_reach = length-set s.reach to.0 (max (get s.reach to.0) (to.1 + 1)) ∙ r.len_reach;
        len_gone = r.len_gone;
        behind = λ x. (let a = r.behind x in let m = more x in omega (arith, a, m));
        bounded = bounded_to s.reach to there small r.bounded;
        closed = λ x k at less t. (let a = r.closed x k at less t in let m = more at.0 in omega (arith, a, m));
        sound = λ is x k less. elim (raised s.reach to x k there less) [
          | inl u ↦ r.sound is x k u
          | inr u ↦
              let step : Leads (c, i) to = (line, inr e) in
              subst (λ y. To (c, i) (y, k)) (sym u.0) (down_to (c, i) to.0 k to.1 u.1 small (one_step Leads (c, i) to step))
        ];
        own = λ at t. (let one : to ≡ at = cc (e, t) in subst (λ (y : ℕ × ℕ). y.1 < get (reach_to s.reach (Some to)) y.0) one (puts s.reach to there));
        base = (let m = more c in omega (arith, r.base, m));
      }

  abbrev closed_up : ℕ → ℕ → Search → Search
  closed_up c i s = close_for target total (target c i) s

  looked_at : (c i : ℕ) (s : Search) → Ready c i s → i < get sizes c → (o : Option (ℕ × ℕ)) → target c i ≡ o → Going c i (close_for target total o s) × Done (close_for target total o s)
  looked_at c i s r line None e = (start_with c i s r line None e, r.done)
  looked_at c i s r line (Some to) e = closes c i line total (record { reach = reach_to s.reach (Some to); gone = s.gone }) (start_with c i s r line (Some to) e) (omega arith)

  -- It waits for itself, where it is within what it waits for, and else not.
  waits_for_itself : (c i : ℕ) (s : Search) → Going c i s → i < get sizes c → i < get s.reach c → To (c, i) (c, i)
  waits_for_itself c i s g line lt = g.sound line c i lt

  isnt_in_cycle : (c i : ℕ) (s : Search) → Going c i s → Done s → get s.reach c ≤ i → To (c, i) (c, i) → ⊥
  isnt_in_cycle c i s g done le to =
      let In : ℕ × ℕ → Type 0 = λ x. x.1 < get s.reach x.0 in
      let closed : (x y : ℕ × ℕ) → In x → Leads x y → In y = λ x y h w. elim w.1 [
        | inl b ↦ subst (λ z. y.1 < get s.reach z) (sym b.0) (omega (arith, b.1, h))
        | inr t ↦ (let d = done x.0 in g.closed x.0 x.1 y (omega (arith, d, h)) t)
      ] in
      let first : (y : ℕ × ℕ) → Leads (c, i) y → In y = λ y w. elim w.1 [
        | inl b ↦ subst (λ z. y.1 < get s.reach z) (sym b.0) (let e = g.base in omega (arith, b.1, e))
        | inr t ↦ g.own y t
      ] in
      let there : i < get s.reach c = leads_in Leads In closed (c, i) first to.0 (c, i) to.1 in
      omega (arith, there, le)

  next_ready : (c i : ℕ) (s : Search) → Going c i s → Done s → i < get sizes c → get s.reach c ≤ i → Ready c (i + 1) (passed c i s)
  next_ready c i s g done line le =
      let here = in_range sizes c i line in
      let in_reach : c < length s.reach = omega (arith, here, g.len_reach) in
      let in_gone : c < length s.gone = omega (arith, here, g.len_gone) in
      let at_reach : get s.reach c ≡ i = (let b = g.base in omega (arith, b, le)) in
      let more : (x : ℕ) → get s.reach x ≤ get (set s.reach c (i + 1)) x = λ x. elim (set_cases s.reach c x (i + 1) in_reach) [
        | inl q ↦ (let f = ap (get s.reach) q.0 in omega (arith, f, at_reach, q.1))
        | inr q ↦ omega (arith, q.1)
      ] in
      record {
        len_reach = length-set s.reach c (i + 1) ∙ g.len_reach;
        len_gone = length-set s.gone c (i + 1) ∙ g.len_gone;
        behind = λ x. elim (set_cases s.gone c x (i + 1) in_gone) [
          | inl q ↦ (let f = ap (get (set s.reach c (i + 1))) q.0 in let e = get_or-set_same s.reach c (i + 1) 0 in_reach in omega (arith, f, e, q.1))
          | inr q ↦ (let f = g.behind x in let m = more x in omega (arith, f, m, q.1))
        ];
        done = λ x. elim (set_cases s.reach c x (i + 1) in_reach) [
          | inl q ↦ (let f = ap (get (set s.gone c (i + 1))) q.0 in let e = get_or-set_same s.gone c (i + 1) 0 in_gone in omega (arith, f, e, q.1))
          | inr q ↦ (let f = done x in let e = get_or-set_other s.gone c x (i + 1) 0 q.0 in omega (arith, f, e, q.1))
        ];
        bounded = λ x. elim (set_cases s.reach c x (i + 1) in_reach) [
          | inl q ↦ (let f = ap (get sizes) q.0 in omega (arith, f, line, q.1))
          | inr q ↦ (let f = g.bounded x in omega (arith, f, q.1))
        ];
        closed = λ x k at less t. elim (set_cases s.gone c x (i + 1) in_gone) [
          | inl q ↦ elim (cases_lt k i) [
            | inl u ↦ (
                let f = ap (get s.gone) q.0 in
                let d = done c in
                let a = g.closed x k at (omega (arith, u, f, d, at_reach)) t in
                let m = more at.0 in
                omega (arith, a, m))
            | inr u ↦ (
                let same : k ≡ i = omega (arith, u, less, q.1) in
                let t2 : target c i ≡ Some at = ap (λ y. target y i) (sym q.0) ∙ ap (target x) (sym same) ∙ t in
                let a = g.own at t2 in
                let m = more at.0 in
                omega (arith, a, m))
          ]
          | inr q ↦ (let a = g.closed x k at (omega (arith, less, q.1)) t in let m = more at.0 in omega (arith, a, m))
        ];
        sound = λ is x k less.
            let step : Leads (c, i + 1) (c, i) = (is, inl (refl, refl)) in
            let back : To (c, i + 1) (c, i) = one_step Leads (c, i + 1) (c, i) step in
            elim (set_cases s.reach c x (i + 1) in_reach) [
              | inl q ↦ subst (λ y. To (c, i + 1) (y, k)) (sym q.0) (down_to (c, i + 1) c k i (omega (arith, less, q.1)) line back)
              | inr q ↦ reach_by Leads (c, i + 1) (c, i) (x, k) back (g.sound line x k (omega (arith, less, q.1)))
            ];
        base = get_or-set_same s.reach c (i + 1) 0 in_reach;
      }

  -- What is found of a client, from a place on.
  abbrev FoundIn : ℕ → ℕ → Option ℕ → Type 0
  FoundIn c i None = (k : ℕ) → i ≤ k → k < get sizes c → To (c, k) (c, k) → ⊥
  FoundIn c i (Some k) = (i ≤ k) × (k < get sizes c) × (is_some (target c k) ≡ true) × To (c, k) (c, k) × ((m : ℕ) → i ≤ m → m < k → To (c, m) (c, m) → ⊥)

  found_more : (c i : ℕ) (o : Option ℕ) → (To (c, i) (c, i) → ⊥) → FoundIn c (i + 1) o → FoundIn c i o
  found_more c i None none f = λ k le lt to. elim (cases_eq k i) [
    | inl e ↦ none (subst (λ x. To (c, x) (c, x)) e to)
    | inr e ↦ f k (omega (arith, le, e)) lt to
  ]
  found_more c i (Some k) none f = (
    omega (arith, f.0),
    f.1,
    f.2,
    f.3,
    λ m le lt to. elim (cases_eq m i) [
      | inl e ↦ none (subst (λ x. To (c, x) (c, x)) e to)
      | inr e ↦ f.4 m (omega (arith, le, e)) lt to
    ],
  )

  finds_in : (c left i : ℕ) (s : Search) → Ready c i s → i + left ≡ get sizes c → FoundIn c i (find_in target total c left i s)
  unfolding find_in
  finds_in c zero i s r e = λ k le lt to. absurd (omega (arith, e, le, lt))
  finds_in c (suc left) i s r e = by_place (nat_lt i (get (closed_up c i s).reach c)) refl (λ s2 r2. finds_in c left (i + 1) s2 r2 (omega (arith, e)))
    where
      line : i < get sizes c
      line = omega (arith, e)

      waiting : (o : Option (ℕ × ℕ)) → target c i ≡ o → i < get (close_for target total o s).reach c → is_some o ≡ true
      waiting None t lt = absurd (let b = r.base in omega (arith, b, lt))
      waiting (Some to) t lt = refl

      by_place : (b : Bool) → nat_lt i (get (closed_up c i s).reach c) ≡ b → ((s2 : Search) → Ready c (i + 1) s2 → FoundIn c (i + 1) (find_in target total c left (i + 1) s2))
          → FoundIn c i (found_or b i (find_in target total c left (i + 1) (passed c i (closed_up c i s))))
      by_place true t rest =
          let g = looked_at c i s r line (target c i) refl in
          let lt : i < get (closed_up c i s).reach c = grind (arith, nat_tests) in
          (omega arith, line, waiting (target c i) refl lt, waits_for_itself c i (closed_up c i s) g.0 line lt, λ m le less to. absurd (omega (arith, le, less)))
      by_place false t rest =
          let g = looked_at c i s r line (target c i) refl in
          let le : get (closed_up c i s).reach c ≤ i = grind (arith, nat_tests) in
          found_more c i (find_in target total c left (i + 1) (passed c i (closed_up c i s))) (isnt_in_cycle c i (closed_up c i s) g.0 g.1 le) (rest (passed c i (closed_up c i s)) (next_ready c i (closed_up c i s) g.0 g.1 line le))

  zeros : (n d : ℕ) → get (replicate n 0) d ≡ 0
  zeros n d = elim (cases_lt d n) [ inl s ↦ get_or-replicate n d 0 0 s | inr s ↦ get_or_past (replicate n 0) d 0 (omega (arith, s, length-replicate {A = ℕ} n 0)) ]

  ready_first : (c : ℕ) → Ready c 0 (fresh (length sizes))
  ready_first c =
      let n = length sizes in
      record {
        len_reach = length-replicate {A = ℕ} n 0;
        len_gone = length-replicate {A = ℕ} n 0;
        behind = λ d. omega (arith, zeros n d);
        done = λ d. omega (arith, zeros n d);
        bounded = λ d. omega (arith, zeros n d);
        closed = λ d k at less t. absurd (let z = zeros n d in omega (arith, z, less));
        sound = λ is d k less. absurd (let z = zeros n d in omega (arith, z, less));
        base = zeros n c;
      }

  -- What is found of all clients.
  abbrev pub Found : ℕ → Option (ℕ × ℕ) → Type 0
  Found c None = (at : ℕ × ℕ) → c ≤ at.0 → at.1 < get sizes at.0 → To at at → ⊥
  Found c (Some at) = (c ≤ at.0) × (at.1 < get sizes at.0) × (is_some (target at.0 at.1) ≡ true) × To at at × ((other : ℕ × ℕ) → c ≤ other.0 → IsBefore other at → other.1 < get sizes other.0 → To other other → ⊥)

  found_next : (c : ℕ) (o : Option ℕ) (more : Option (ℕ × ℕ)) → FoundIn c 0 o → Found (c + 1) more → Found c (first_of c o more)
  found_next c (Some k) more f rest = (
    omega arith,
    f.1,
    f.2,
    f.3,
    λ other le before lt to. elim before [
      | inl b ↦ absurd (omega (arith, le, b))
      | inr b ↦ f.4 other.1 (omega arith) b.1 (subst (λ x. To (x, other.1) (x, other.1)) b.0 to)
    ],
  )
  found_next c None None f rest = λ at le lt to. elim (cases_eq at.0 c) [
    | inl e ↦ f at.1 (omega arith) (subst (λ x. at.1 < get sizes x) e lt) (subst (λ x. To (x, at.1) (x, at.1)) e to)
    | inr e ↦ rest at (omega (arith, le, e)) lt to
  ]
  found_next c None (Some at) f rest = (
    omega (arith, rest.0),
    rest.1,
    rest.2,
    rest.3,
    λ other le before lt to. elim (cases_eq other.0 c) [
      | inl e ↦ f other.1 (omega arith) (subst (λ x. other.1 < get sizes x) e lt) (subst (λ x. To (x, other.1) (x, other.1)) e to)
      | inr e ↦ rest.4 other (omega (arith, le, e)) before lt to
    ],
  )

  finds_from : (c : ℕ) (rest : List ℕ) → ((d : ℕ) → get rest d ≡ get sizes (c + d)) → Found c (find_from target total (length sizes) c rest)
  unfolding find_from
  finds_from c [] same = λ at le lt to. absurd (let e = same (at.0 - c) in let f : c + (at.0 - c) ≡ at.0 = omega (arith, le) in let g = ap (get sizes) f in omega (arith, e, g, lt))
  finds_from c (size ∷ more) same =
      let size_is : 0 + size ≡ get sizes c = (let e = same 0 in let f : get sizes (c + 0) ≡ get sizes c = ap (get sizes) (omega arith) in omega (arith, e, f)) in
      found_next c (find_in target total c size 0 (fresh (length sizes))) (find_from target total (length sizes) (c + 1) more)
      (finds_in c size 0 (fresh (length sizes)) (ready_first c) size_is)
      (finds_from (c + 1) more (λ d. same (suc d) ∙ ap (get sizes) (omega arith)))

  pub finds : Found 0 (find_from target total (length sizes) 0 sizes)
  finds = finds_from 0 sizes (λ d. ap (get sizes) (omega arith))
