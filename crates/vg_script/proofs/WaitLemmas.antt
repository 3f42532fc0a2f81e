-- What the search finds is the first line of a wait cycle.
use Rattle.std.proofs.Common.{◌≡◌, ℕ, zero, suc, ◌+◌, ◌-◌, ◌<◌, ◌≤◌, ◌⊎◌, inl, inr, true, List, [], ◌∷◌, ◌++◌, length, map, Option, Some, None, arith, refl, ap, sym, subst, ◌∙◌, get_or, length-append}
use Rattle.std.specs.Prelude.{All, IfSome, sum_by, is_some, option_and_then, slice_get}
use Rattle.std.specs.List.{range_with_len}
use Rattle.std.proofs.lemmas.Bool.{cases_lt}
use Rattle.std.proofs.lemmas.List.Sums.{sum_by-cons}
use Rattle.std.proofs.lemmas.List.{length-map}
use Rattle.std.proofs.lemmas.List.FromFn.{get_or-range_with_len, length-range_with_len}
use Rattle.std.proofs.lemmas.List.Elements.{All-nil, All-head, All-tail}
use Rattle.std.proofs.lemmas.Option.{slice_get_within, slice_get-get_or, get_or_from_slice_get}
use Rattle.std.proofs.Math.ListN as ln
use Rattle.vg_laws.proofs.Lists.{get-front, holds-at}
use Rattle.vg_script.specs.declared.types.Line.{Line}
use Rattle.vg_script.specs.Limits.{IsBetween}
use Rattle.vg_script.specs.Waits.{gives, waits, label_list, given_in, given_in_all, line_at, gives_at, waits_at, WaitsFor, AreSteps, HasNoCycle, IsFirstInCycle}
use Rattle.vg_script.specs.SearchWithin.{place_if, places_in, places_from, place_of, target_of, find_from, first_cycle}
use Rattle.vg_script.proofs.SearchLemmas.{Leads, Found, finds, down_to, one_step}

-- ---- places in lists
left_at : {X : Type 0} (xs ys : List X) (k : ℕ) (x : X) → slice_get xs k ≡ Some x → slice_get (xs ++ ys) k ≡ Some x
left_at [] ys k x h = absurd (cc h)
left_at (y ∷ xs) ys zero x h = h
left_at (y ∷ xs) ys (suc k) x h = left_at xs ys k x h

right_at : {X : Type 0} (xs ys : List X) (k : ℕ) → slice_get (xs ++ ys) (length xs + k) ≡ slice_get ys k
right_at [] ys k = ap (slice_get ys) (omega arith)
right_at (x ∷ xs) ys k = let e : length (x ∷ xs) + k ≡ suc (length xs + k) = omega arith in ap (slice_get (x ∷ (xs ++ ys))) e ∙ right_at xs ys k

all_or : {X : Type 0} (P : X → Type 0) (clients : List (List X)) (c : ℕ) → All (All P) clients → All P (get_or clients c [])
all_or P [] c h = All-nil P
all_or P (lines ∷ more) zero h = All-head (All P) lines more h
all_or P (lines ∷ more) (suc c) h = all_or P more c (All-tail (All P) lines more h)

slice_get_some : {X : Type 0} (xs : List X) (i : ℕ) → i < length xs → is_some (slice_get xs i) ≡ true
slice_get_some [] i h = absurd (omega (arith, h))
slice_get_some (x ∷ xs) zero h = refl
slice_get_some (x ∷ xs) (suc i) h = slice_get_some xs i (omega (arith, h))

-- ---- the places of the lines that give labels
abbrev gives_in : List Line → ℕ → Option ℕ
gives_in lines i = option_and_then (λ line. gives line.call) (slice_get lines i)

same_length : (c p : ℕ) (lines : List Line) → length (places_in c p lines) ≡ length (given_in lines)
unfolding places_in
same_length c p [] = refl
same_length c p (line ∷ more) = by_call (gives line.call) (same_length c (p + 1) more)
  where
    by_call : (o : Option ℕ) → length (places_in c (p + 1) more) ≡ length (given_in more) → length (place_if o (c, p) ++ places_in c (p + 1) more) ≡ length (label_list o ++ given_in more)
    by_call None h = h
    by_call (Some label) h = ap suc h

in_to : (c p : ℕ) (lines : List Line) (i l : ℕ) → gives_in lines i ≡ Some l → (k : ℕ) × (slice_get (given_in lines) k ≡ Some l) × (slice_get (places_in c p lines) k ≡ Some (c, p + i))
unfolding places_in
in_to c p [] i l h = absurd (cc h)
in_to c p (line ∷ more) zero l h = by_call (gives line.call) h
  where
    by_call : (o : Option ℕ) → o ≡ Some l → (k : ℕ) × (slice_get (label_list o ++ given_in more) k ≡ Some l) × (slice_get (place_if o (c, p) ++ places_in c (p + 1) more) k ≡ Some (c, p + 0))
    by_call None e = absurd (cc e)
    by_call (Some label) e = (0, e, ap (λ n. Some (c, n)) (omega arith))
in_to c p (line ∷ more) (suc i) l h = by_call (gives line.call) (in_to c (p + 1) more i l h)
  where
    by_call : (o : Option ℕ) → (k : ℕ) × (slice_get (given_in more) k ≡ Some l) × (slice_get (places_in c (p + 1) more) k ≡ Some (c, p + 1 + i))
        → (k : ℕ) × (slice_get (label_list o ++ given_in more) k ≡ Some l) × (slice_get (place_if o (c, p) ++ places_in c (p + 1) more) k ≡ Some (c, p + suc i))
    by_call None f = (f.0, f.1, f.2 ∙ ap (λ n. Some (c, n)) (omega arith))
    by_call (Some label) f = (suc f.0, f.1, f.2 ∙ ap (λ n. Some (c, n)) (omega arith))

in_from : (c p : ℕ) (lines : List Line) (k : ℕ) (at : ℕ × ℕ) → slice_get (places_in c p lines) k ≡ Some at → (i : ℕ) × (at ≡ (c, p + i)) × (gives_in lines i ≡ slice_get (given_in lines) k)
unfolding places_in
in_from c p [] k at h = absurd (cc h)
in_from c p (line ∷ more) k at h = by_call (gives line.call) refl k h (λ k2 h2. in_from c (p + 1) more k2 at h2)
  where
    next : (i : ℕ) → at ≡ (c, p + 1 + i) → at ≡ (c, p + suc i)
    next i e = e ∙ ap (λ n. (c, n)) (omega arith)

    by_call : (o : Option ℕ) → gives line.call ≡ o → (k : ℕ) → slice_get (place_if o (c, p) ++ places_in c (p + 1) more) k ≡ Some at
        → ((k2 : ℕ) → slice_get (places_in c (p + 1) more) k2 ≡ Some at → (i : ℕ) × (at ≡ (c, p + 1 + i)) × (gives_in more i ≡ slice_get (given_in more) k2))
        → (i : ℕ) × (at ≡ (c, p + i)) × (gives_in (line ∷ more) i ≡ slice_get (label_list o ++ given_in more) k)
    by_call None e k h rest = let f = rest k h in (suc f.0, next f.0 f.1, f.2)
    by_call (Some label) e zero h rest = (0, (let f : (c, p) ≡ at = cc h in sym f ∙ ap (λ n. (c, n)) (omega arith)), e)
    by_call (Some label) e (suc k) h rest = let f = rest k h in (suc f.0, next f.0 f.1, f.2)

abbrev gives_of : List (List Line) → ℕ → ℕ → Option ℕ
gives_of clients c i = gives_in (get_or clients c []) i

all_to : (b : ℕ) (clients : List (List Line)) (c i l : ℕ) → gives_of clients c i ≡ Some l → (k : ℕ) × (slice_get (given_in_all clients) k ≡ Some l) × (slice_get (places_from b clients) k ≡ Some (b + c, i))
unfolding places_from
all_to b [] c i l h = absurd (cc h)
all_to b (lines ∷ more) zero i l h =
    let f = in_to b 0 lines i l h in (
      f.0,
      left_at (given_in lines) (given_in_all more) f.0 l f.1,
      left_at (places_in b 0 lines) (places_from (b + 1) more) f.0 (b + 0, i) (f.2 ∙ ap (λ n. Some (n, 0 + i)) (omega arith) ∙ ap (λ n. Some (b + 0, n)) (omega arith)),
    )
all_to b (lines ∷ more) (suc c) i l h =
    let f = all_to (b + 1) more c i l h in (
      length (given_in lines) + f.0,
      right_at (given_in lines) (given_in_all more) f.0 ∙ f.1,
      ap (λ n. slice_get (places_in b 0 lines ++ places_from (b + 1) more) (n + f.0)) (sym (same_length b 0 lines)) ∙ right_at (places_in b 0 lines) (places_from (b + 1) more) f.0 ∙ f.2 ∙ ap (λ n. Some (n, i)) (omega arith),
    )

all_from : (b : ℕ) (clients : List (List Line)) (k : ℕ) (at : ℕ × ℕ) → slice_get (places_from b clients) k ≡ Some at → (c : ℕ) × (i : ℕ) × (at ≡ (b + c, i)) × (gives_of clients c i ≡ slice_get (given_in_all clients) k)
unfolding places_from
all_from b [] k at h = absurd (cc h)
all_from b (lines ∷ more) k at h = by_place (cases_lt k (length (places_in b 0 lines))) (λ k2 h2. all_from (b + 1) more k2 at h2)
  where
    by_place : (k < length (places_in b 0 lines)) ⊎ (length (places_in b 0 lines) ≤ k)
        → ((k2 : ℕ) → slice_get (places_from (b + 1) more) k2 ≡ Some at → (c : ℕ) × (i : ℕ) × (at ≡ (b + 1 + c, i)) × (gives_of more c i ≡ slice_get (given_in_all more) k2))
        → (c : ℕ) × (i : ℕ) × (at ≡ (b + c, i)) × (gives_of (lines ∷ more) c i ≡ slice_get (given_in lines ++ given_in_all more) k)
    by_place (inl lt) rest =
        let f = in_from b 0 lines k at (sym (get-front (places_in b 0 lines) (places_from (b + 1) more) k lt) ∙ h) in
        let lt2 : k < length (given_in lines) = omega (arith, lt, same_length b 0 lines) in
        (0, f.0, f.1 ∙ ap (λ n. (n, 0 + f.0)) (omega arith) ∙ ap (λ n. (b + 0, n)) (omega arith), f.2 ∙ sym (get-front (given_in lines) (given_in_all more) k lt2))
    by_place (inr le) rest =
        let k2 = k - length (places_in b 0 lines) in
        let e : length (places_in b 0 lines) + k2 ≡ k = omega (arith, le) in
        let e2 : length (given_in lines) + k2 ≡ k = omega (arith, le, same_length b 0 lines) in
        let f = rest k2 (sym (right_at (places_in b 0 lines) (places_from (b + 1) more) k2) ∙ ap (slice_get (places_in b 0 lines ++ places_from (b + 1) more)) e ∙ h) in
        (suc f.0, f.1, f.2 ∙ ap (λ n. (n, f.1)) (omega arith), f.3 ∙ sym (right_at (given_in lines) (given_in_all more) k2) ∙ ap (slice_get (given_in lines ++ given_in_all more)) e2)

all_length : (b : ℕ) (clients : List (List Line)) → length (places_from b clients) ≡ length (given_in_all clients)
unfolding places_from
all_length b [] = refl
all_length b (lines ∷ more) = omega (arith, length-append (places_in b 0 lines) (places_from (b + 1) more), length-append (given_in lines) (given_in_all more), same_length b 0 lines, all_length (b + 1) more)

-- ---- one script
module _ (clients : List (List Line)) (n : ℕ) (in_order : given_in_all clients ≡ range_with_len 1 n) (known : All (All (λ line. IfSome (waits line.call) (IsBetween 1 n))) clients) where
  places : List (ℕ × ℕ)
  places = places_from 0 clients

  label_at : (k l : ℕ) → slice_get (given_in_all clients) k ≡ Some l → l ≡ k + 1
  label_at k l h =
      let within = slice_get_within (given_in_all clients) k l h in
      let e = get_or_from_slice_get (given_in_all clients) k l 0 h in
      let f = ap (λ xs. get_or xs k 0) in_order in
      let few : k < n = (let g = ap length in_order in omega (arith, within, g, length-range_with_len 1 n)) in
      omega (arith, e, f, get_or-range_with_len 1 n k 0 few)

  -- Where a label is given is its place.
  pub place_is : (at : ℕ × ℕ) (l : ℕ) → gives_at clients at ≡ Some l → place_of (places_from 0 clients) l ≡ Some at
  place_is at l h =
      let f = all_to 0 clients at.0 at.1 l h in
      let e : l - 1 ≡ f.0 = (let g = label_at f.0 l f.1 in omega (arith, g)) in
      ap (slice_get (places_from 0 clients)) e ∙ f.2 ∙ ap (λ c. Some (c, at.1)) (omega arith)

  pub gives_there : (at : ℕ × ℕ) (l : ℕ) → 1 ≤ l → place_of (places_from 0 clients) l ≡ Some at → gives_at clients at ≡ Some l
  gives_there at l some h =
      let f = all_from 0 clients (l - 1) at h in
      let within = slice_get_within (places_from 0 clients) (l - 1) at h in
      let there : l - 1 < length (given_in_all clients) = omega (arith, within, all_length 0 clients) in
      let got = slice_get-get_or (given_in_all clients) (l - 1) 0 there in
      let is = label_at (l - 1) (get_or (given_in_all clients) (l - 1) 0) got in
      let label : get_or (given_in_all clients) (l - 1) 0 ≡ l = omega (arith, is, some) in
      ap (gives_at clients) (f.2 ∙ ap (λ c. (c, f.1)) (omega arith)) ∙ f.3 ∙ got ∙ ap (λ k. Some k) label

  -- A label that is waited for is one of those.
  pub waited : (at : ℕ × ℕ) (l : ℕ) → waits_at clients at ≡ Some l → IsBetween 1 n l
  waited at l h = by_line (line_at clients at) refl h
    where
      by_line : (o : Option Line) → line_at clients at ≡ o → option_and_then (λ line. waits line.call) o ≡ Some l → IsBetween 1 n l
      by_line None e t = absurd (cc t)
      by_line (Some line) e t =
          let P : Line → Type 0 = λ line. IfSome (waits line.call) (IsBetween 1 n) in
          let fits : IfSome (waits line.call) (IsBetween 1 n) = holds-at P (get_or clients at.0 []) at.1 line (all_or P clients at.0 known) e in
          subst (λ o. IfSome o (IsBetween 1 n)) t fits

  abbrev pub sizes : List ℕ
  sizes = map length clients

  size_is : (c : ℕ) → get_or (map length clients) c 0 ≡ length (get_or clients c [])
  size_is c = ln.get_or-map length clients c []

  is_line : (at : ℕ × ℕ) (l : ℕ) → gives_at clients at ≡ Some l → at.1 < length (get_or clients at.0 [])
  is_line at l h = by_line (line_at clients at) refl h
    where
      by_line : (o : Option Line) → line_at clients at ≡ o → option_and_then (λ line. gives line.call) o ≡ Some l → at.1 < length (get_or clients at.0 [])
      by_line None e t = absurd (cc t)
      by_line (Some line) e t = slice_get_within (get_or clients at.0 []) at.1 line e

  abbrev IsTarget : ℕ × ℕ → ℕ × ℕ → Type 0
  IsTarget one other = (label : ℕ) × (waits_at clients one ≡ Some label) × (gives_at clients other ≡ Some label)

  target_to : (one other : ℕ × ℕ) → target_of clients one.0 one.1 ≡ Some other → IsTarget one other
  target_to one other h = by_label (waits_at clients one) refl h
    where
      by_label : (o : Option ℕ) → waits_at clients one ≡ o → option_and_then (place_of (places_from 0 clients)) o ≡ Some other → IsTarget one other
      by_label None e t = absurd (cc t)
      by_label (Some label) e t = let w = waited one label e in (label, e, gives_there other label w.0 t)

  target_from : (one other : ℕ × ℕ) → IsTarget one other → target_of clients one.0 one.1 ≡ Some other
  target_from one other h = ap (option_and_then (place_of (places_from 0 clients))) h.1 ∙ place_is other h.0 h.2

  ranged : (c i : ℕ) (at : ℕ × ℕ) → i < get_or (map length clients) c 0 → target_of clients c i ≡ Some at → at.1 < get_or (map length clients) at.0 0
  ranged c i at line h = let t = target_to (c, i) at h in let lt = is_line at t.0 t.2 in omega (arith, lt, size_is at.0)

  abbrev L : ℕ × ℕ → ℕ × ℕ → Type 0
  L one other = Leads (map length clients) (target_of clients) ranged one other

  leads_to : (one other : ℕ × ℕ) → L one other → WaitsFor clients one other
  leads_to one other w = (omega (arith, w.0, size_is one.0), elim w.1 [ inl b ↦ inl b | inr t ↦ inr (target_to one other t) ])

  leads_from : (one other : ℕ × ℕ) → WaitsFor clients one other → L one other
  leads_from one other w = (omega (arith, w.0, size_is one.0), elim w.1 [ inl b ↦ inl b | inr t ↦ inr (target_from one other t) ])

  steps_to : (one : ℕ × ℕ) (between : List (ℕ × ℕ)) (other : ℕ × ℕ) → AreSteps L one between other → AreSteps (WaitsFor clients) one between other
  steps_to one [] other w = leads_to one other w
  steps_to one (next ∷ more) other w = (leads_to one next w.0, steps_to next more other w.1)

  steps_from : (one : ℕ × ℕ) (between : List (ℕ × ℕ)) (other : ℕ × ℕ) → AreSteps (WaitsFor clients) one between other → AreSteps L one between other
  steps_from one [] other w = leads_from one other w
  steps_from one (next ∷ more) other w = (leads_from one next w.0, steps_from next more other w.1)

  starts_at_line : (one : ℕ × ℕ) (between : List (ℕ × ℕ)) (other : ℕ × ℕ) → AreSteps L one between other → one.1 < get_or (map length clients) one.0 0
  starts_at_line one [] other w = w.0
  starts_at_line one (next ∷ more) other w = w.0.0

  sum_is : (xs : List (List Line)) → sum_by (λ k. k) (map length xs) ≡ sum_by length xs
  sum_is [] = refl
  sum_is (x ∷ xs) = omega (arith, sum_by-cons (λ k. k) (length x) (map length xs), sum_by-cons length x xs, sum_is xs)

  search_is : find_from (target_of clients) (sum_by (λ k. k) (map length clients)) (length (map length clients)) 0 (map length clients) ≡ first_cycle clients
  search_is = ap (λ k. find_from (target_of clients) k (length (map length clients)) 0 (map length clients)) (sum_is clients) ∙ ap (λ k. find_from (target_of clients) (sum_by length clients) k 0 (map length clients)) (length-map clients length)

  found : Found (map length clients) (target_of clients) ranged 0 (first_cycle clients)
  found = subst (Found (map length clients) (target_of clients) ranged 0) search_is (finds (map length clients) (target_of clients) ranged)

  abbrev pub Judged : Option (ℕ × ℕ) → Type 0
  Judged None = HasNoCycle clients
  Judged (Some at) = (line : Line) × (line_at clients at ≡ Some line) × IsFirstInCycle clients line.number

  waiting : (c i : ℕ) → is_some (target_of clients c i) ≡ true → is_some (waits_at clients (c, i)) ≡ true
  waiting c i h = by_label (waits_at clients (c, i)) h
    where
      by_label : (o : Option ℕ) → is_some (option_and_then (place_of (places_from 0 clients)) o) ≡ true → is_some o ≡ true
      by_label None t = absurd (cc t)
      by_label (Some label) t = refl

  judged : (o : Option (ℕ × ℕ)) → Found (map length clients) (target_of clients) ranged 0 o → Judged o
  judged None f = λ at to. let s = steps_from at to.0 at to.1 in f at (omega arith) (starts_at_line at to.0 at s) (to.0, s)
  judged (Some at) f =
      let lt : at.1 < length (get_or clients at.0 []) = omega (arith, f.1, size_is at.0) in
      by_line (line_at clients at) refl (slice_get_some (get_or clients at.0 []) at.1 lt)
    where
      by_line : (o : Option Line) → line_at clients at ≡ o → is_some o ≡ true → Judged (Some at)
      by_line None e t = absurd (cc t)
      by_line (Some line) e t = (
        line,
        e,
        record {
          at = at;
          line = line;
          stands = e;
          number_is = refl;
          waiting = waiting at.0 at.1 f.2;
          itself = (f.3.0, steps_to at f.3.0 at f.3.1);
          first = λ other before imports to. let s = steps_from other to.0 other to.1 in f.4 other (omega arith) before (starts_at_line other to.0 other s) (to.0, s);
        },
      )

  pub script_judged : Judged (first_cycle clients)
  script_judged = judged (first_cycle clients) found

  -- Without a wait cycle a line of the same client that gives the label stands before the one that waits for it.
  pub stands_before : HasNoCycle clients → (c i j l : ℕ) → waits_at clients (c, i) ≡ Some l → gives_at clients (c, j) ≡ Some l → j < i
  stands_before none c i j l w g = elim (cases_lt j i) [
    | inl lt ↦ lt
    | inr le ↦ absurd (
        let line : j < length (get_or clients c []) = is_line (c, j) l g in
        let sized : j < get_or (map length clients) c 0 = omega (arith, line, size_is c) in
        let first : L (c, i) (c, j) = leads_from (c, i) (c, j) (omega (arith, line, le), inr (l, w, g)) in
        let to = down_to (map length clients) (target_of clients) ranged (c, i) c i j le sized (one_step L (c, i) (c, j) first) in
        none (c, i) (to.0, steps_to (c, i) to.0 (c, i) to.1))
  ]

  -- A label that is waited for is given somewhere.
  pub given_somewhere : (l : ℕ) → IsBetween 1 n l → (at : ℕ × ℕ) × (gives_at clients at ≡ Some l)
  given_somewhere l b =
      let e = ap length in_order in
      let there : l - 1 < length (places_from 0 clients) = omega (arith, b.0, b.1, e, all_length 0 clients, length-range_with_len 1 n) in
      let at = get_or (places_from 0 clients) (l - 1) (0, 0) in
      (at, gives_there at l b.0 (slice_get-get_or (places_from 0 clients) (l - 1) (0, 0) there))

  pub line_there : (at : ℕ × ℕ) (l : ℕ) → gives_at clients at ≡ Some l → at.1 < length (get_or clients at.0 [])
  line_there at l h = is_line at l h
