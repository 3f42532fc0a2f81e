use Rattle.std.proofs.Common.{◌≡◌, ◌≢◌, ℕ, zero, suc, ◌+◌, ◌*◌, ◌<◌, Bool, Option, None, ◌⊎◌, List, [], ◌∷◌, ◌++◌, length, map, get_or, set, refl, sym, ap, subst, inl, inr, ◌∙◌, arith, replicate}
use mathlib.Core.Option.{some, some-injective, some-ne-none}
use lib.ListN.{get_elem?}
use Rattle.atomic_table.proofs.Lists.{at_set, at_longer, set_else, set_here}
use Rattle.std.proofs.lemmas.List.{length-replicate}
use Rattle.std.proofs.lemmas.Bool.{cases_eq, eq-eqb, ne_eqb}
use Rattle.atomic_table.specs.Table.{State, Allows, Splits, Joins, opening}
use Rattle.atomic_table.specs.Table.Act.{keeps}
use Rattle.vg_cargo.specs.declared.entries.Entry.{Entry}
use Rattle.vg_cargo.specs.declared.entries.Answer.{Answer}
use Rattle.vg_split.specs.declared.views.DeviceStage.{DeviceStage}
use Rattle.vg_split.specs.declared.views.DeviceStage.TheVariants as device
use Rattle.vg_split.specs.declared.views.DriverView.{DriverView}
use Rattle.vg_split.specs.declared.views.DeviceView.{DeviceView}
use Rattle.vg_split.specs.declared.views.View.{View}
use Rattle.vg_split.specs.declared.views.View.TheVariants.{Start, Driver, Device, Right, Note, Spent}
use Rattle.vg_cargo.specs.Cargo.{CargoData}
use Rattle.vg_wire.specs.declared.request.Queue.{Queue}
use Rattle.vg_cargo.specs.Entries.{head_of, head_in, heads, without, Has}
use Rattle.vg_split.specs.Rule.{word_at, IsRing, IsNew, IsGuest, AreSeated, Ring, set_stage, lent_after, returned_after, new_driver, new_device}
use Rattle.vg_cargo.proofs.Heads.{has_heads, has_without, heads_without}
use Rattle.vg_split.proofs.Seats.{within, at_device}
use Rattle.vg_split.proofs.DeviceSteps.{moves}

pub snoc_cases : (xs : List View) (a : View) (i : ℕ) (w : View) → get_elem? (xs ++ a ∷ []) i ≡ some w → (get_elem? xs i ≡ some w) ⊎ ((i ≡ length xs) × (a ≡ w))
snoc_cases [] a zero w at = inr (refl, some-injective a w at)
snoc_cases [] a (suc i) w at = absurd (some-ne-none w (sym at))
snoc_cases (x ∷ xs) a zero w at = inl at
snoc_cases (x ∷ xs) a (suc i) w at = elim (snoc_cases xs a i w at) [ inl old ↦ inl old | inr new ↦ inr (ap suc new.0, new.1) ]

replicated : {A : Type 0} (m h : ℕ) (x : A) → h < m → get_elem? (replicate m x) h ≡ some x
replicated zero h x small = absurd (omega arith)
replicated (suc m) zero x small = refl
replicated (suc m) (suc h) x small = replicated m h x (omega arith)

all_home : {A : Type 0} (m : ℕ) (x : A) → map some (replicate m x) ≡ replicate m (some x)
all_home zero x = refl
all_home (suc m) x = ap (λ (xs : List _). some x ∷ xs) (all_home m x)

zeros : (m i : ℕ) → get_or {A = ℕ} (replicate m 0) i 0 ≡ 0
zeros zero i = refl
zeros (suc m) zero = refl
zeros (suc m) (suc i) = zeros m i

module _ {P : Type 0} (wanted : P → Bool) (queue : Queue) (n : ℕ) where
  -- A load of a word of a head that is to be lent.
  pub names : (slots id i : ℕ) (v : DeviceView) (e : Entry) → heads (head_of e) v.held ≡ 1 → heads (head_of e) v.lent ≡ 0
      → Allows (Ring wanted queue n) slots id (Device (set_stage v device.Resting), []) i (λ k. k) (λ found me. me ≡ (Device (set_stage v (device.Naming e)), []))
  names slots id i v e mine unlent = λ s ring many at bound.
      let w = at_device wanted queue n s id (set_stage v device.Resting) ring at in
      let next = moves wanted queue n s w.driver (set_stage v device.Resting) v.looks v.seen (device.Naming e) w.coming w.going i w.ring (λ h no. no) (mine, unlent) in
      (Device (set_stage v (device.Naming e)), keeps, tt, rw w.id_is (inr (w.driver, set_stage v (device.Naming e), w.coming, w.going, next)), refl)

  -- a right's entry is lent
  right_at : (views : List View) (d : DriverView) (v : DeviceView) (i : ℕ) (e : Entry) → AreSeated wanted queue n views d v → get_elem? views i ≡ some (Right e) → (1 < i) × Has e v.lent
  right_at views d v zero e seated at = (let both : some (Driver d) ≡ some (Right e) = sym seated.driver_at ∙ at in absurd (cc))
  right_at views d v (suc zero) e seated at = (let both : some (Device v) ≡ some (Right e) = sym seated.device_at ∙ at in absurd (cc))
  right_at views d v (suc (suc i)) e seated at = (omega arith, seated.guests (suc (suc i)) (Right e) (omega arith) at)

  guest_more : (published : List Entry) (completed : List Answer) (e : Entry) (lent : List Entry) (w : View) → IsGuest wanted queue n published completed lent w → IsGuest wanted queue n published completed (e ∷ lent) w
  guest_more published completed e lent (Start q) guest = guest
  guest_more published completed e lent (Driver d) guest = guest
  guest_more published completed e lent (Device v) guest = guest
  guest_more published completed e lent (Right f) guest = inr guest
  guest_more published completed e lent (Note fetched reaped) guest = guest
  guest_more published completed e lent Spent guest = guest

  moved : (views : List View) (x : DeviceView) (i : ℕ) (e : Entry) → get_elem? (set views 1 (Device x)) i ≡ some (Right e) → get_elem? views i ≡ some (Right e)
  moved views x i e at = elim (at_set views 1 i (Device x) (Right e) at) [ inl w ↦ absurd (cc) | inr w ↦ w.1 ]

  seated_more : (views : List View) (d : DriverView) (v : DeviceView) (stage : DeviceStage) (e : Entry) → heads (head_of e) v.lent ≡ 0 → AreSeated wanted queue n views d (set_stage v stage)
      → AreSeated wanted queue n (set views 1 (Device (lent_after v e)) ++ Right e ∷ []) d (lent_after v e)
  seated_more views d v stage e unlent seated =
      let front : List View = set views 1 (Device (lent_after v e)) in
      record {
        driver_at = at_longer front (Right e ∷ []) 0 (Driver d) (set_else views 1 0 (Device (lent_after v e)) (λ same. omega arith) ∙ seated.driver_at);
        device_at = at_longer front (Right e ∷ []) 1 (Device (lent_after v e)) (set_here views 1 (Device (lent_after v e)) (within views 1 (Device (set_stage v stage)) seated.device_at));
        guests = λ i w late at. elim (snoc_cases front (Right e) i w at) [
          | inl old ↦ guest_more d.published v.completed e v.lent w (seated.guests i w late (sym (set_else views 1 i (Device (lent_after v e)) (λ same. omega arith)) ∙ old))
          | inr new ↦ subst (λ (z : View). IsGuest wanted queue n d.published v.completed (e ∷ v.lent) z) new.1 (inl refl)
        ];
        apart = λ i j f g at at' same. elim (snoc_cases front (Right e) i (Right f) at) [
          | inl old ↦ elim (snoc_cases front (Right e) j (Right g) at') [
            | inl old' ↦ seated.apart i j f g (moved views (lent_after v e) i f old) (moved views (lent_after v e) j g old') same
            | inr new' ↦ (let is : e ≡ g = cc in absurd (clash f g is (right_at views d (set_stage v stage) i f seated (moved views (lent_after v e) i f old)).1 same))
          ]
          | inr new ↦ elim (snoc_cases front (Right e) j (Right g) at') [
            | inl old' ↦ (let is : e ≡ f = cc in absurd (clash g f is (right_at views d (set_stage v stage) j g seated (moved views (lent_after v e) j g old')).1 (sym same)))
            | inr new' ↦ new.0 ∙ sym new'.0
          ]
        ];
      }
    where
      clash : (f g : Entry) → e ≡ g → Has f v.lent → head_of f ≡ head_of g → ⊥
      clash f g is has same =
          let some_there = has_heads f v.lent has in
          let head : heads (head_of f) v.lent ≡ heads (head_of e) v.lent = ap (λ (k : ℕ). heads k v.lent) (same ∙ ap head_of (sym is)) in
          omega (arith, some_there, head, unlent)

  -- A right to the entry that was named.
  pub splits_right : (id : ℕ) (v : DeviceView) (e : Entry) → Splits (Ring wanted queue n) id (Device (set_stage v (device.Naming e))) (Device (lent_after v e)) (Right e)
  splits_right id v e = λ s ring at.
      let w = at_device wanted queue n s id (set_stage v (device.Naming e)) ring at in
      let r = w.ring in
      let next : IsRing wanted queue n (record { words = s.words; homes = s.homes; views = set s.views 1 (Device (lent_after v e)) ++ Right e ∷ [] }) w.driver (lent_after v e) w.coming w.going = record {
        words = r.words;
        homes = r.homes;
        sent = r.sent;
        back = r.back;
        ordered = r.ordered;
        queued = r.queued;
        bounded = r.bounded;
        device_queue = r.device_queue;
        shared = r.shared;
        once = r.once;
        below = r.below;
        room = r.room;
        come_heads = r.come_heads;
        held_heads = r.held_heads;
        go_heads = r.go_heads;
        available = r.available;
        used = r.used;
        offers = r.offers;
        returns = r.returns;
        come_stand = r.come_stand;
        held_stand = r.held_stand;
        go_stand = r.go_stand;
        wait = r.wait;
        lie = r.lie;
        vacant = r.vacant;
        driver_knows = r.driver_knows;
        device_knows = tt;
        matched = r.matched;
        lent_once = λ h. elim (cases_eq (head_of e) h) [
          | inl same ↦ (let here : head_in h e ≡ 1 = rw (eq-eqb (head_of e) h same) refl in let none_there : heads h v.lent ≡ 0 = subst (λ (k : ℕ). heads k v.lent ≡ 0) same r.device_knows.1 in omega (arith, here, none_there))
          | inr other ↦ (let here : head_in h e ≡ 0 = rw (ne_eqb (head_of e) h other) refl in let old = r.lent_once h in omega (arith, here, old))
        ];
        seated = seated_more s.views w.driver v (device.Naming e) e r.device_knows.1 r.seated;
      } in
      rw w.id_is (inr (w.driver, lent_after v e, w.coming, w.going, next))

  -- The table as it is made keeps the rule, and so does the cut into two ends.
  pub opens : Ring wanted queue n (opening (replicate (2 + 4 * n) 0) (replicate n None) (Start queue))
  opens = inl (record { words = refl; homes = all_home n None; views = refl })

  fresh_ring : (s : State (Option (CargoData P)) View) (id : ℕ) → IsNew wanted queue n s → id ≡ 0
      → IsRing wanted queue n (record { words = s.words; homes = s.homes; views = set s.views id (Driver new_driver) ++ Device (new_device queue) ∷ [] }) new_driver (new_device queue) [] []
  fresh_ring s id fresh id_is =
      let word : (i : ℕ) → word_at s.words i ≡ 0 = λ i. ap (λ (ws : List ℕ). get_or ws i 0) fresh.words ∙ zeros (2 + 4 * n) i in
      let two : set s.views id (Driver new_driver) ++ Device (new_device queue) ∷ [] ≡ Driver new_driver ∷ Device (new_device queue) ∷ [] = rw (fresh.views, id_is) refl in
      record {
        words = ap length fresh.words ∙ length-replicate (2 + 4 * n) 0;
        homes = ap length fresh.homes ∙ length-replicate n (some None);
        sent = refl;
        back = refl;
        ordered = tt;
        queued = tt;
        bounded = omega arith;
        device_queue = refl;
        shared = λ f. refl;
        once = λ h. omega arith;
        below = λ h is_there. omega arith;
        room = omega arith;
        come_heads = tt;
        held_heads = tt;
        go_heads = tt;
        available = word 0;
        used = word 1;
        offers = tt;
        returns = tt;
        come_stand = tt;
        held_stand = tt;
        go_stand = tt;
        wait = tt;
        lie = tt;
        vacant = λ h small unused mine theirs. rw fresh.homes (replicated n h (some None) small);
        driver_knows = tt;
        device_knows = tt;
        matched = λ f. refl;
        lent_once = λ h. omega arith;
        seated = subst (λ (vs : List View). AreSeated wanted queue n vs new_driver (new_device queue)) (sym two) two_seats;
      }
    where
      no_right : (i : ℕ) (w : View) → 1 < i → get_elem? (Driver new_driver ∷ Device (new_device queue) ∷ []) i ≡ some w → ⊥
      no_right zero w late at = omega arith
      no_right (suc zero) w late at = omega arith
      no_right (suc (suc i)) w late at = some-ne-none w (sym at)

      two_seats : AreSeated wanted queue n (Driver new_driver ∷ Device (new_device queue) ∷ []) new_driver (new_device queue)
      two_seats = record { driver_at = refl; device_at = refl; guests = λ i w late at. absurd (no_right i w late at); apart = λ i j e f at at' same. apart_there i j e f at at' }
        where
          apart_there : (i j : ℕ) (e f : Entry) → get_elem? (Driver new_driver ∷ Device (new_device queue) ∷ []) i ≡ some (Right e) → get_elem? (Driver new_driver ∷ Device (new_device queue) ∷ []) j ≡ some (Right f) → i ≡ j
          apart_there zero j e f at at' = (let both : Driver new_driver ≡ Right e = some-injective (Driver new_driver) (Right e) at in absurd (cc))
          apart_there (suc zero) j e f at at' = (let both : Device (new_device queue) ≡ Right e = some-injective (Device (new_device queue)) (Right e) at in absurd (cc))
          apart_there (suc (suc i)) j e f at at' = absurd (some-ne-none (Right e) (sym at))

  first_seat : (views : List View) (id : ℕ) (w : View) → views ≡ (Start queue) ∷ [] → get_elem? views id ≡ some w → id ≡ 0
  first_seat views zero w e at = refl
  first_seat views (suc i) w e at = absurd (some-ne-none w (sym (subst (λ (vs : List View). get_elem? vs (suc i) ≡ some w) e at)))

  pub splits_start : (id : ℕ) → Splits (Ring wanted queue n) id (Start queue) (Driver new_driver) (Device (new_device queue))
  splits_start id s (inl fresh) at = inr (new_driver, (new_device queue), [], [], fresh_ring s id fresh (first_seat s.views id (Start queue) fresh.views at))
  splits_start zero s (inr r) at = (let both : some (Driver r.0) ≡ some (Start queue) = sym r.4.seated.driver_at ∙ at in absurd (cc))
  splits_start (suc zero) s (inr r) at = (let both : some (Device r.1) ≡ some (Start queue) = sym r.4.seated.device_at ∙ at in absurd (cc))
  splits_start (suc (suc i)) s (inr r) at = absurd (r.4.seated.guests (suc (suc i)) (Start queue) (omega arith) at)

  -- After a right was taken in, a load tells that it was lent.
  pub settles_returned : (slots id i : ℕ) (v : DeviceView) (e : Entry) (old : List Entry)
      → Allows (Ring wanted queue n) slots id (Device (set_stage v (device.Returned e old)), []) i (λ k. k) (λ found me. (me ≡ (Device (set_stage v device.Resting), [])) × Has e old)
  settles_returned slots id i v e old = λ s ring many at bound.
      let w = at_device wanted queue n s id (set_stage v (device.Returned e old)) ring at in
      let next = moves wanted queue n s w.driver (set_stage v (device.Returned e old)) v.looks v.seen device.Resting w.coming w.going i w.ring (λ h no. no) tt in
      (Device (set_stage v device.Resting), keeps, tt, rw w.id_is (inr (w.driver, set_stage v device.Resting, w.coming, w.going, next)), (refl, w.ring.device_knows))

  seated_back : (views : List View) (d : DriverView) (v : DeviceView) (other : ℕ) (e : Entry) → AreSeated wanted queue n views d (set_stage v device.Resting) → get_elem? views other ≡ some (Right e)
      → AreSeated wanted queue n (set (set views 1 (Device (returned_after v e))) other Spent) d (returned_after v e)
  seated_back views d v other e seated at_other =
      let front : List View = set views 1 (Device (returned_after v e)) in
      let late : 1 < other = (right_at views d (set_stage v device.Resting) other e seated at_other).0 in
      record {
        driver_at = set_else front other 0 Spent (λ same. omega arith) ∙ set_else views 1 0 (Device (returned_after v e)) (λ same. omega arith) ∙ seated.driver_at;
        device_at = set_else front other 1 Spent (λ same. omega arith) ∙ set_here views 1 (Device (returned_after v e)) (within views 1 (Device (set_stage v device.Resting)) seated.device_at);
        guests = λ i w past at. elim (at_set front other i Spent w at) [
          | inl same ↦ subst (λ (z : View). IsGuest wanted queue n d.published v.completed (without (head_of e) v.lent) z) same.1 tt
          | inr else_there ↦ guest_less i w past else_there.0 (sym (set_else views 1 i (Device (returned_after v e)) (λ same. omega arith)) ∙ else_there.1)
        ];
        apart = λ i j f g at at' same. seated.apart i j f g (still i f at) (still j g at') same;
      }
    where
      still : (i : ℕ) (f : Entry) → get_elem? (set (set views 1 (Device (returned_after v e))) other Spent) i ≡ some (Right f) → get_elem? views i ≡ some (Right f)
      still i f at = elim (at_set (set views 1 (Device (returned_after v e))) other i Spent (Right f) at) [ inl same ↦ absurd (cc) | inr else_there ↦ moved views (returned_after v e) i f else_there.1 ]

      guest_less : (i : ℕ) (w : View) → 1 < i → i ≢ other → get_elem? views i ≡ some w → IsGuest wanted queue n d.published v.completed (without (head_of e) v.lent) w
      guest_less i (Start q) past apart at = seated.guests i (Start q) past at
      guest_less i (Driver x) past apart at = seated.guests i (Driver x) past at
      guest_less i (Device x) past apart at = seated.guests i (Device x) past at
      guest_less i (Right f) past apart at = has_without f (head_of e) v.lent (λ same. apart (seated.apart i other f e at at_other same)) (seated.guests i (Right f) past at)
      guest_less i (Note fetched reaped) past apart at = seated.guests i (Note fetched reaped) past at
      guest_less i Spent past apart at = tt

  -- A right is taken in.
  pub joins_right : (id other : ℕ) (v : DeviceView) (e : Entry) → Joins (Ring wanted queue n) id (Device (set_stage v device.Resting)) other (Right e) (Device (returned_after v e)) Spent
  joins_right id other v e = λ s ring at apart at'.
      let w = at_device wanted queue n s id (set_stage v device.Resting) ring at in
      let r = w.ring in
      let back : get_elem? (set s.views 1 (Device (returned_after v e))) other ≡ some (Right e) = subst (λ (k : ℕ). get_elem? (set s.views k (Device (returned_after v e))) other ≡ some (Right e)) w.id_is at' in
      let there = moved s.views (returned_after v e) other e back in
      let next : IsRing wanted queue n (record { words = s.words; homes = s.homes; views = set (set s.views 1 (Device (returned_after v e))) other Spent }) w.driver (returned_after v e) w.coming w.going = record {
        words = r.words;
        homes = r.homes;
        sent = r.sent;
        back = r.back;
        ordered = r.ordered;
        queued = r.queued;
        bounded = r.bounded;
        device_queue = r.device_queue;
        shared = r.shared;
        once = r.once;
        below = r.below;
        room = r.room;
        come_heads = r.come_heads;
        held_heads = r.held_heads;
        go_heads = r.go_heads;
        available = r.available;
        used = r.used;
        offers = r.offers;
        returns = r.returns;
        come_stand = r.come_stand;
        held_stand = r.held_stand;
        go_stand = r.go_stand;
        wait = r.wait;
        lie = r.lie;
        vacant = r.vacant;
        driver_knows = r.driver_knows;
        device_knows = (right_at s.views w.driver (set_stage v device.Resting) other e r.seated there).1;
        matched = r.matched;
        lent_once = λ h. (let fewer = heads_without h (head_of e) v.lent in let old = r.lent_once h in omega (arith, fewer, old));
        seated = seated_back s.views w.driver v other e r.seated there;
      } in
      rw w.id_is (inr (w.driver, returned_after v e, w.coming, w.going, next))
