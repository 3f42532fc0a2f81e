-- The walk's loops, turn by turn.
use Rattle.std.proofs.Common.{◌≡◌, ℕ, suc, ◌+◌, ◌-◌, ◌<◌, ◌≤◌, nat_lt, Bool, true, false, List, [], ◌∷◌, ◌++◌, length, map, drop, Option, Some, None, if◌then◌else◌, arith, refl, ap, sym, ◌∙◌, get_or, append-nil, append_assoc}
use Rattle.std.proofs.Math.Seq.{drop-cons}
use Rattle.std.proofs.Math.ListN as ln
use Rattle.std.proofs.lemmas.List.{length-map, get_or-map}
use Rattle.std.specs.Prelude.{sum_by, option_map, option_and_then, slice_get}
use Rattle.vg_script.specs.WalkWithin.{target_in}
use Rattle.vg_script.specs.declared.types.Line.{Line}
use Rattle.vg_script.specs.Waits.{gives, line_at}
use Rattle.vg_script.specs.SearchWithin.{Search, place_if, places_in, places_from, behind_from, one_gone, go_from, close, close_for, passed, found_or, find_in, fresh, first_of, find_from, target_of, first_cycle, cycle_line}

next_drop : {X : Type 0} (xs : List X) (k : ℕ) (d : X) → k < length xs → drop k xs ≡ get_or xs k d ∷ drop (k + 1) xs
next_drop xs k d h = let e : suc k ≡ k + 1 = omega arith in drop-cons xs k d h ∙ ap (λ n. get_or xs k d ∷ drop n xs) e

no_drop : {X : Type 0} (xs : List X) (k : ℕ) → length xs ≤ k → drop k xs ≡ []
no_drop xs k h = ln.drop_of_length-le xs h

-- behind
behind_next : (k : ℕ) (reach gone : List ℕ) → k < length reach → k < length gone
    → behind_from k (drop k reach) (drop k gone) ≡ (if nat_lt (get_or gone k 0) (get_or reach k 0) then Some k else behind_from (k + 1) (drop (k + 1) reach) (drop (k + 1) gone))
unfolding behind_from
behind_next k reach gone h i = rw (next_drop reach k 0 h, next_drop gone k 0 i) refl

by_if : {X : Type 0} (b c : Bool) (x y z : X) → z ≡ (if b then x else y) → b ≡ c → z ≡ (if c then x else y)
by_if b c x y z h e = h ∙ ap (λ t. if t then x else y) e

pub behind_here : (k : ℕ) (reach gone : List ℕ) (all : Option ℕ) → k < length reach → k < length gone → nat_lt (get_or gone k 0) (get_or reach k 0) ≡ true → behind_from k (drop k reach) (drop k gone) ≡ all → Some k ≡ all
behind_here k reach gone all h i t e = sym (by_if _ true (Some k) _ _ (behind_next k reach gone h i) t) ∙ e

pub behind_on : (k : ℕ) (reach gone : List ℕ) (all : Option ℕ) → k < length reach → k < length gone → nat_lt (get_or gone k 0) (get_or reach k 0) ≡ false → behind_from k (drop k reach) (drop k gone) ≡ all
    → behind_from (k + 1) (drop (k + 1) reach) (drop (k + 1) gone) ≡ all
behind_on k reach gone all h i t e = sym (by_if _ false (Some k) _ _ (behind_next k reach gone h i) t) ∙ e

pub no_reach : (k : ℕ) (reach gone : List ℕ) (all : Option ℕ) → length reach ≤ k → behind_from k (drop k reach) (drop k gone) ≡ all → None ≡ all
unfolding behind_from
no_reach k reach gone all h e = sym (ap (λ xs. behind_from k xs (drop k gone)) (no_drop reach k h)) ∙ e

no_second : (k : ℕ) (xs : List ℕ) → behind_from k xs [] ≡ None
unfolding behind_from
no_second k [] = refl
no_second k (x ∷ xs) = refl

pub no_gone : (k : ℕ) (reach gone : List ℕ) (all : Option ℕ) → length gone ≤ k → behind_from k (drop k reach) (drop k gone) ≡ all → None ≡ all
no_gone k reach gone all h e = sym (ap (behind_from k (drop k reach)) (no_drop gone k h) ∙ no_second k (drop k reach)) ∙ e

-- places
pub place_next : (client k : ℕ) (lines : List Line) (line : Line) (old new : List (ℕ × ℕ)) (all : List (ℕ × ℕ)) → k < length lines → get_or lines k line ≡ line
    → new ≡ old ++ place_if (gives line.call) (client, k) → old ++ places_in client k (drop k lines) ≡ all → new ++ places_in client (k + 1) (drop (k + 1) lines) ≡ all
unfolding places_in
place_next client k lines line old new all h is added e =
    ap (λ xs. xs ++ places_in client (k + 1) (drop (k + 1) lines)) added ∙ append_assoc old (place_if (gives line.call) (client, k)) (places_in client (k + 1) (drop (k + 1) lines))
    ∙ ap (λ xs. old ++ xs) (sym (ap (places_in client k) (next_drop lines k line h ∙ ap (λ x. x ∷ drop (k + 1) lines) is))) ∙ e

pub places_over : (client k : ℕ) (lines : List Line) (old all : List (ℕ × ℕ)) → length lines ≤ k → old ++ places_in client k (drop k lines) ≡ all → old ≡ all
unfolding places_in
places_over client k lines old all h e = sym (append-nil old) ∙ sym (ap (λ xs. old ++ places_in client k xs) (no_drop lines k h)) ∙ e

pub clients_next : (k : ℕ) (clients : List (List Line)) (lines : List Line) (old new all : List (ℕ × ℕ)) → k < length clients → get_or clients k lines ≡ lines
    → new ≡ old ++ places_in k 0 lines → old ++ places_from k (drop k clients) ≡ all → new ++ places_from (k + 1) (drop (k + 1) clients) ≡ all
unfolding places_from
clients_next k clients lines old new all h is added e =
    ap (λ xs. xs ++ places_from (k + 1) (drop (k + 1) clients)) added ∙ append_assoc old (places_in k 0 lines) (places_from (k + 1) (drop (k + 1) clients))
    ∙ ap (λ xs. old ++ xs) (sym (ap (places_from k) (next_drop clients k lines h ∙ ap (λ x. x ∷ drop (k + 1) clients) is))) ∙ e

pub clients_over : (k : ℕ) (clients : List (List Line)) (old all : List (ℕ × ℕ)) → length clients ≤ k → old ++ places_from k (drop k clients) ≡ all → old ≡ all
unfolding places_from
clients_over k clients old all h e = sym (append-nil old) ∙ sym (ap (λ xs. old ++ places_from k xs) (no_drop clients k h)) ∙ e

-- close
module _ (target : ℕ → ℕ → Option (ℕ × ℕ)) where
  close_next : (n : ℕ) (s : Search) → close target (suc n) s ≡ go_from (behind_from 0 s.reach s.gone) s (λ client. close target n (one_gone target s client))
  unfolding close
  close_next n s = refl

  pub close_some : (left d : ℕ) (s all : Search) → 0 < left → behind_from 0 s.reach s.gone ≡ Some d → close target left s ≡ all → close target (left - 1) (one_gone target s d) ≡ all
  close_some left d s all some is e =
      let f : left ≡ suc (left - 1) = omega (arith, some) in
      sym (ap (λ o. go_from o s (λ client. close target (left - 1) (one_gone target s client))) is) ∙ sym (close_next (left - 1) s) ∙ sym (ap (λ n. close target n s) f) ∙ e

  pub close_none : (left : ℕ) (s all : Search) → 0 < left → behind_from 0 s.reach s.gone ≡ None → close target left s ≡ all → s ≡ all
  close_none left s all some is e =
      let f : left ≡ suc (left - 1) = omega (arith, some) in
      sym (ap (λ o. go_from o s (λ client. close target (left - 1) (one_gone target s client))) is) ∙ sym (close_next (left - 1) s) ∙ sym (ap (λ n. close target n s) f) ∙ e

  pub close_over : (left : ℕ) (s all : Search) → left ≡ 0 → close target left s ≡ all → s ≡ all
  unfolding close
  close_over left s all none e = sym (ap (λ n. close target n s) none) ∙ e

  -- find_in
  find_next : (total client n place : ℕ) (s : Search) → find_in target total client (suc n) place s
      ≡ found_or (nat_lt place (get_or (close_for target total (target client place) s).reach client 0)) place (find_in target total client n (place + 1) (passed client place (close_for target total (target client place) s)))
  unfolding find_in
  find_next total client n place s = refl

  pub find_here : (total client size place : ℕ) (s t : Search) (all : Option ℕ) → place < size → t ≡ close_for target total (target client place) s → nat_lt place (get_or t.reach client 0) ≡ true
      → find_in target total client (size - place) place s ≡ all → Some place ≡ all
  find_here total client size place s t all lt is here e =
      let f : size - place ≡ suc (size - (place + 1)) = omega (arith, lt) in
      let g = ap (λ (u : Search). nat_lt place (get_or u.reach client 0)) (sym is) ∙ here in
      sym (ap (λ n. find_in target total client n place s) f ∙ find_next total client (size - (place + 1)) place s
      ∙ ap (λ b. found_or b place (find_in target total client (size - (place + 1)) (place + 1) (passed client place (close_for target total (target client place) s)))) g) ∙ e

  pub find_on : (total client size place : ℕ) (s t u : Search) (all : Option ℕ) → place < size → t ≡ close_for target total (target client place) s → nat_lt place (get_or t.reach client 0) ≡ false → u ≡ passed client place t
      → find_in target total client (size - place) place s ≡ all → find_in target total client (size - (place + 1)) (place + 1) u ≡ all
  find_on total client size place s t u all lt is here next e =
      let f : size - place ≡ suc (size - (place + 1)) = omega (arith, lt) in
      let g = ap (λ (u : Search). nat_lt place (get_or u.reach client 0)) (sym is) ∙ here in
      ap (find_in target total client (size - (place + 1)) (place + 1)) (next ∙ ap (passed client place) is)
      ∙ sym (ap (λ n. find_in target total client n place s) f ∙ find_next total client (size - (place + 1)) place s
      ∙ ap (λ b. found_or b place (find_in target total client (size - (place + 1)) (place + 1) (passed client place (close_for target total (target client place) s)))) g) ∙ e

  pub find_over : (total client left place : ℕ) (s : Search) (all : Option ℕ) → left ≡ 0 → find_in target total client left place s ≡ all → None ≡ all
  unfolding find_in
  find_over total client left place s all none e = sym (ap (λ n. find_in target total client n place s) none) ∙ e

  -- find_from
  find_client : (total count k : ℕ) (sizes : List ℕ) → k < length sizes
      → find_from target total count k (drop k sizes) ≡ first_of k (find_in target total k (get_or sizes k 0) 0 (fresh count)) (find_from target total count (k + 1) (drop (k + 1) sizes))
  unfolding find_from
  find_client total count k sizes h = rw (next_drop sizes k 0 h) refl

  pub found_client : (total count k place : ℕ) (sizes : List ℕ) (all : Option (ℕ × ℕ)) → k < length sizes → find_in target total k (get_or sizes k 0) 0 (fresh count) ≡ Some place
      → find_from target total count k (drop k sizes) ≡ all → Some (k, place) ≡ all
  found_client total count k place sizes all h is e =
      sym (find_client total count k sizes h ∙ ap (λ o. first_of k o (find_from target total count (k + 1) (drop (k + 1) sizes))) is) ∙ e

  pub next_client : (total count k : ℕ) (sizes : List ℕ) (all : Option (ℕ × ℕ)) → k < length sizes → find_in target total k (get_or sizes k 0) 0 (fresh count) ≡ None
      → find_from target total count k (drop k sizes) ≡ all → find_from target total count (k + 1) (drop (k + 1) sizes) ≡ all
  next_client total count k sizes all h is e =
      sym (find_client total count k sizes h ∙ ap (λ o. first_of k o (find_from target total count (k + 1) (drop (k + 1) sizes))) is) ∙ e

  pub no_client : (total count k : ℕ) (sizes : List ℕ) (all : Option (ℕ × ℕ)) → length sizes ≤ k → find_from target total count k (drop k sizes) ≡ all → None ≡ all
  unfolding find_from
  no_client total count k sizes all h e = sym (ap (find_from target total count k) (no_drop sizes k h)) ∙ e

-- The sizes of clients.
pub size_at : (clients : List (List Line)) (k : ℕ) (lines : List Line) → k < length clients → get_or clients k lines ≡ lines → get_or (map length clients) k 0 ≡ length lines
size_at clients k lines h is = get_or-map length clients k lines 0 h ∙ ap length is

pub sizes_length : (clients : List (List Line)) → length (map length clients) ≡ length clients
sizes_length clients = length-map clients length

-- The search of a whole script.
search_is : (clients : List (List Line)) (places : List (ℕ × ℕ)) (total : ℕ) → places ≡ places_from 0 clients → total ≡ sum_by length clients
    → find_from (target_in clients places) total (length clients) 0 (map length clients) ≡ first_cycle clients
search_is clients places total p t = ap (λ ps. find_from (target_in clients ps) total (length clients) 0 (map length clients)) p ∙ ap (λ n. find_from (target_of clients) n (length clients) 0 (map length clients)) t

pub cycle_some : (clients : List (List Line)) (places : List (ℕ × ℕ)) (total k place : ℕ) (number : Option ℕ) → places ≡ places_from 0 clients → total ≡ sum_by length clients
    → Some (k, place) ≡ find_from (target_in clients places) total (length clients) 0 (map length clients) → number ≡ option_map (λ line. line.number) (slice_get (get_or clients k []) place) → number ≡ cycle_line clients
cycle_some clients places total k place number p t f n = n ∙ ap (option_and_then (λ (at : ℕ × ℕ). option_map (λ (line : Line). line.number) (line_at clients at))) (f ∙ search_is clients places total p t)

pub cycle_none : (clients : List (List Line)) (places : List (ℕ × ℕ)) (total : ℕ) → places ≡ places_from 0 clients → total ≡ sum_by length clients
    → None ≡ find_from (target_in clients places) total (length clients) 0 (map length clients) → None ≡ cycle_line clients
cycle_none clients places total p t f = ap (option_and_then (λ (at : ℕ × ℕ). option_map (λ (line : Line). line.number) (line_at clients at))) (f ∙ search_is clients places total p t)
