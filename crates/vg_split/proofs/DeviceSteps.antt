use Rattle.std.proofs.Common.{◌≡◌, ◌≢◌, ℕ, suc, ◌+◌, ◌*◌, ◌%◌, ◌<◌, ◌≤◌, Bool, true, false, Option, Some, None, List, [], ◌∷◌, ◌++◌, length, get_or, set, refl, sym, ap, subst, inl, inr, ◌∙◌, arith, cond, eqb, length-append, append_assoc}
use mathlib.Core.Option.{some, none}
use lib.ListN.{get_elem?}
use Rattle.std.proofs.lemmas.List.{get_or-set_same, length-set, set-get_or, append-nil}
use Rattle.std.proofs.Math.Nat.{mod-lt}
use Rattle.atomic_table.proofs.Lists.{set_else, set_here}
use Rattle.std.proofs.lemmas.Bool.{cases_eq, eq-eqb}
use Rattle.atomic_table.specs.Table.{State, Act, Allows, Valid, stepped, carried_after}
use Rattle.atomic_table.specs.Table.Act.{keeps, takes, gives}
use Rattle.vg_cargo.specs.declared.entries.Entry.{Entry}
use Rattle.vg_cargo.specs.declared.entries.Answer.{Answer}
use Rattle.vg_split.specs.declared.views.Stored.{Stored}
use Rattle.vg_split.specs.declared.views.DriverStage.{DriverStage}
use Rattle.vg_split.specs.declared.views.DriverStage.TheVariants as driver
use Rattle.vg_split.specs.declared.views.DeviceStage.{DeviceStage}
use Rattle.vg_split.specs.declared.views.DeviceStage.TheVariants as device
use Rattle.vg_split.specs.declared.views.DriverView.{DriverView}
use Rattle.vg_split.specs.declared.views.DeviceView.{DeviceView}
use Rattle.vg_split.specs.declared.views.View.{View}
use Rattle.vg_split.specs.declared.views.View.TheVariants.{Device}
use Rattle.vg_cargo.specs.Cargo.{CargoData}
use Rattle.vg_wire.specs.declared.request.Queue.{Queue}
use Rattle.vg_split.specs.Words.{addr_place, rest_place, available_place, used_place, used_word}
use Rattle.vg_cargo.specs.Entries.{head_of, times, uses_in, places_in, head_in, uses, heads, spread, entries, weigh, IsDone, InOrder, Has, AreOf, HaveHeads}
use Rattle.vg_split.specs.Rule.{stored_of, word_at, Offers, Stand, StandStored, places_of, DriverKnows, DeviceKnows, driver_hand, device_hand, IsRing, Ring, set_stage, fetched_after, completed_after, looked_by_device}
use Rattle.vg_split.specs.Tells.{IsTaken, IsIn, TellsWord}
use Rattle.vg_split.proofs.Frames.{word_else, stored_high, stand_high, stored_low, stand_low, stand_snoc, stand_append, stand_front, offers_high, returns_apart, returns_snoc, offers_kept, returns_kept}
use Rattle.vg_cargo.proofs.Counts.{heads_uses, length_spread, weigh-append, have-append, of-back, weigh-ones, in_order-front, head_in_places, heads_less, heads_length, length-entries, entries-append, have-front}
use Rattle.vg_cargo.proofs.Slots.{wait_kept, lie_kept, lie_snoc}
use Rattle.vg_history.proofs.ListLemmas.{prefix_self, prefix_more}
use Rattle.vg_split.proofs.Seats.{at_device, seated_device}

module _ {P : Type 0} (wanted : P → Bool) (queue : Queue) (n : ℕ) where
  -- the device's end comes to another stage, with the same lists
  pub moves : (s : State (Option (CargoData P)) View) (d : DriverView) (v : DeviceView) (looks seen : ℕ) (stage : DeviceStage) (coming : List Entry) (going : List Answer) (i : ℕ)
      → IsRing wanted queue n s d v coming going → ((h : ℕ) → device_hand wanted queue n v.stage h → device_hand wanted queue n stage h)
      → DeviceKnows wanted queue n s.words coming v.completed v.held v.lent stage
      → IsRing wanted queue n (record { words = set s.words i (get_or s.words i 0); homes = s.homes; views = set s.views 1 (Device (record v { looks = looks; seen = seen; stage = stage })) }) d (record v { looks = looks; seen = seen; stage = stage }) coming going
  moves s d v looks seen stage coming going i r hands knows =
      subst (λ (ws : List ℕ). IsRing wanted queue n (record { words = ws; homes = s.homes; views = set s.views 1 (Device (record v { looks = looks; seen = seen; stage = stage })) }) d (record v { looks = looks; seen = seen; stage = stage }) coming going)
      (sym (set-get_or s.words i 0)) (record {
        words = r.words;
        homes = r.homes;
        sent = r.sent;
        back = r.back;
        ordered = r.ordered;
        queued = r.queued;
        bounded = r.bounded;
        device_queue = r.device_queue;
        shared = r.shared;
        once = r.once;
        below = r.below;
        room = r.room;
        come_heads = r.come_heads;
        held_heads = r.held_heads;
        go_heads = r.go_heads;
        available = r.available;
        used = r.used;
        offers = r.offers;
        returns = r.returns;
        come_stand = r.come_stand;
        held_stand = r.held_stand;
        go_stand = r.go_stand;
        wait = r.wait;
        lie = r.lie;
        vacant = λ h below unused mine other. r.vacant h below unused mine (λ old. other (hands h old));
        driver_knows = r.driver_knows;
        device_knows = knows;
        matched = r.matched;
        lent_once = r.lent_once;
        seated = seated_device wanted queue n s.views d v (record v { looks = looks; seen = seen; stage = stage }) refl (prefix_self v.completed) r.seated;
      })

  newer : (ws : List ℕ) (d : DriverView) (v : DeviceView) (coming : List Entry) (found : ℕ) → d.published ≡ v.fetched ++ coming → found ≡ length d.published % 65536
      → DeviceKnows wanted queue n ws coming v.completed v.held v.lent (cond (eqb found (length v.fetched % 65536)) device.Resting device.Newer)
  newer ws d v [] found sent is = (let all : d.published ≡ v.fetched = sent ∙ append-nil v.fetched in let same : found ≡ length v.fetched % 65536 = is ∙ ap (λ (es : List Entry). length es % 65536) all in rw (eq-eqb found (length v.fetched % 65536) same) tt)
  newer ws d v (e ∷ coming) found sent is = go (eqb found (length v.fetched % 65536))
    where
      go : (b : Bool) → DeviceKnows wanted queue n ws (e ∷ coming) v.completed v.held v.lent (cond b device.Resting device.Newer)
      go true = tt
      go false = omega arith

  -- The available index is loaded.
  pub looks_at_available : (slots id : ℕ) (v : DeviceView)
      → Allows (Ring wanted queue n) slots id (Device (set_stage v device.Resting), []) 0 (λ k. k) (λ found me. me ≡ (Device (looked_by_device v found), []))
  looks_at_available slots id v = λ s ring many at bound.
      let w = at_device wanted queue n s id (set_stage v device.Resting) ring at in
      let found = get_or s.words 0 0 in
      let stage = cond (eqb found (length v.fetched % 65536)) device.Resting device.Newer in
      let next = moves s w.driver (set_stage v device.Resting) (v.looks + 1) found stage w.coming w.going 0 w.ring (λ h no. absurd no) (newer s.words w.driver v w.coming found w.ring.sent w.ring.available) in
      (Device (looked_by_device v found), keeps, tt, rw w.id_is (inr (w.driver, looked_by_device v found, w.coming, w.going, next)), refl)

  takes_first : (s : State (Option (CargoData P)) View) (id : ℕ) (d : DriverView) (v : DeviceView) (coming : List Entry) (going : List Answer)
      → id ≡ 1 → IsRing wanted queue n s d (set_stage v device.Newer) coming going
      → (w : View) × (a : Act (Option (CargoData P))) × Valid s.homes [] a × Ring wanted queue n (stepped s (available_place n (length v.fetched % n)) (get_or s.words (available_place n (length v.fetched % n)) 0) id [] w a)
      × IsTaken wanted n v (get_or s.words (available_place n (length v.fetched % n)) 0) (w, carried_after [] a)
  takes_first s id d v [] going id_is r = absurd (omega (arith, r.device_knows))
  takes_first s id d v (e ∷ coming) going id_is r =
      let h = head_of e in
      let i = available_place n (length v.fetched % n) in
      let cargo = r.wait.0.0 in
      let shared = r.shared (uses_in h) in
      let once = r.once h in
      let here : 1 ≤ times h e.places = head_in_places h e r.come_heads.0 refl in
      let no_come : heads h coming ≡ 0 = (let few = heads_uses h coming r.come_heads.1 in omega (arith, few, shared, once, here)) in
      let no_held : heads h v.held ≡ 0 = (let few = heads_uses h v.held r.held_heads in omega (arith, few, shared, once, here)) in
      let no_go : heads h (entries going) ≡ 0 = (let few = heads_uses h (entries going) r.go_heads in omega (arith, few, shared, once, here)) in
      let small : h < n = r.below h (omega (arith, shared, here)) in
      let mine : heads h (e ∷ v.held) ≡ 1 = rw (eq-eqb h h refl, no_held) refl in
      let all : d.published ≡ (v.fetched ++ e ∷ []) ++ coming = r.sent ∙ sym (append_assoc v.fetched (e ∷ []) coming) in
      let next : IsRing wanted queue n (record { words = s.words; homes = set s.homes h none; views = set s.views 1 (Device (fetched_after v e)) }) d (fetched_after v e) coming going = record {
        words = r.words;
        homes = length-set s.homes h none ∙ r.homes;
        sent = all;
        back = r.back;
        ordered = r.ordered;
        queued = r.queued;
        bounded = r.bounded;
        device_queue = r.device_queue;
        shared = λ f. (let old = r.shared f in omega (arith, old));
        once = r.once;
        below = r.below;
        room = r.room;
        come_heads = r.come_heads.1;
        held_heads = (r.come_heads.0, r.held_heads);
        go_heads = r.go_heads;
        available = r.available;
        used = r.used;
        offers = subst (λ (k : ℕ). Offers n s.words k coming) (let moved : suc (length v.fetched) ≡ length (v.fetched ++ e ∷ []) = omega (arith, length-append v.fetched (e ∷ [])) in moved) r.offers.1;
        returns = r.returns;
        come_stand = r.come_stand.1;
        held_stand = (r.come_stand.0, r.held_stand);
        go_stand = r.go_stand;
        wait = wait_kept wanted queue n s.homes h none coming no_come r.wait.1;
        lie = lie_kept wanted queue n s.homes h none going no_go r.lie;
        vacant = λ k below unused driver_apart apart. set_else s.homes h k none (λ same. apart (sym same)) ∙ r.vacant k below (heads_less k e coming (entries going) (λ same. apart same) unused) driver_apart (λ no. no);
        driver_knows = r.driver_knows;
        device_knows = mine;
        matched = λ f. (let old = r.matched f in let more = weigh-append f v.fetched (e ∷ []) in omega (arith, old, more));
        lent_once = r.lent_once;
        seated = seated_device wanted queue n s.views d (set_stage v device.Newer) (fetched_after v e) refl (prefix_self v.completed) r.seated;
      } in
      let back : IsRing wanted queue n (record { words = set s.words i (get_or s.words i 0); homes = set s.homes h none; views = set s.views 1 (Device (fetched_after v e)) }) d (fetched_after v e) coming going =
      subst (λ (ws : List ℕ). IsRing wanted queue n (record { words = ws; homes = set s.homes h none; views = set s.views 1 (Device (fetched_after v e)) }) d (fetched_after v e) coming going) (sym (set-get_or s.words i 0)) next in
      let few : spread (e ∷ v.held) ≤ n = (let total = r.shared places_in in let room = r.room in omega (arith, total, room)) in (
        Device (fetched_after v e),
        takes h (Some cargo),
        r.wait.0.1,
        rw id_is (inr (d, fetched_after v e, coming, going, back)),
        record {
          entry = e;
          cargo = cargo;
          after = refl;
          head = r.offers.0;
          small = rw r.offers.0 small;
          fresh = r.wait.0.2;
          ordered = in_order-front [] (v.fetched ++ e ∷ []) coming (subst (λ (es : List Entry). InOrder [] es) all r.ordered);
          of_queue = (of-back queue v.fetched (e ∷ coming) (subst (λ (es : List Entry). AreOf queue es) r.sent r.queued)).0 ∙ sym r.device_queue;
          some_place = r.come_heads.0;
          apart = λ p. (let all = r.shared (uses_in p) in let one = r.once p in omega (arith, all, one));
          below = λ p some. r.below p (let all = r.shared (uses_in p) in omega (arith, all, some));
          bounded = (let long = ap length all ∙ length-append (v.fetched ++ e ∷ []) coming in let one = length-append v.fetched (e ∷ []) in let old = r.bounded in omega (arith, long, one, old));
          most = (
              let ones = r.matched (λ _. 1) in
              let f1 = weigh-ones v.fetched in
              let f2 = weigh-ones (entries v.completed) in
              let f3 = weigh-ones v.held in
              let f4 = length-entries v.completed in
              let f5 = length_spread v.held r.held_heads in
              let f6 = r.come_heads.0 in
              omega (arith, ones, f1, f2, f3, f4, f5, f6, few));
          heads = mine;
        },
      )

  -- The available element is loaded, and the slot of its head is taken.
  pub takes_entry : (slots id : ℕ) (v : DeviceView)
      → Allows (Ring wanted queue n) slots id (Device (set_stage v device.Newer), []) (available_place n (length v.fetched % n)) (λ k. k) (IsTaken wanted n v)
  takes_entry slots id v = λ s ring many at bound.
      let w = at_device wanted queue n s id (set_stage v device.Newer) ring at in
      takes_first s id w.driver v w.coming w.going w.id_is w.ring

  -- Another load, at which the empty slot goes home.
  pub settles : (slots id i : ℕ) (v : DeviceView) (e : Entry)
      → Allows (Ring wanted queue n) slots id (Device (set_stage v (device.Taken e)), (head_of e, None) ∷ []) i (λ k. k) (λ found me. me ≡ (Device (set_stage v device.Resting), []))
  settles slots id i v e = λ s ring many at bound.
      let w = at_device wanted queue n s id (set_stage v (device.Taken e)) ring at in
      let r = w.ring in
      let h = head_of e in
      let shared = r.shared (uses_in h) in
      let once = r.once h in
      let held = heads_uses h v.held r.held_heads in
      let mine : heads h v.held ≡ 1 = r.device_knows in
      let no_come : heads h w.coming ≡ 0 = (let few = heads_uses h w.coming r.come_heads in omega (arith, few, shared, once, held, mine)) in
      let no_go : heads h (entries w.going) ≡ 0 = (let few = heads_uses h (entries w.going) r.go_heads in omega (arith, few, shared, once, held, mine)) in
      let small : h < n = r.below h (omega (arith, shared, held, mine)) in
      let next : IsRing wanted queue n (record { words = s.words; homes = set s.homes h (some None); views = set s.views 1 (Device (set_stage v device.Resting)) }) w.driver (set_stage v device.Resting) w.coming w.going = record {
        words = r.words;
        homes = length-set s.homes h (some None) ∙ r.homes;
        sent = r.sent;
        back = r.back;
        ordered = r.ordered;
        queued = r.queued;
        bounded = r.bounded;
        device_queue = r.device_queue;
        shared = r.shared;
        once = r.once;
        below = r.below;
        room = r.room;
        come_heads = r.come_heads;
        held_heads = r.held_heads;
        go_heads = r.go_heads;
        available = r.available;
        used = r.used;
        offers = r.offers;
        returns = r.returns;
        come_stand = r.come_stand;
        held_stand = r.held_stand;
        go_stand = r.go_stand;
        wait = wait_kept wanted queue n s.homes h (some None) w.coming no_come r.wait;
        lie = lie_kept wanted queue n s.homes h (some None) w.going no_go r.lie;
        vacant = λ k below unused driver_apart apart. elim (cases_eq k h) [
          | inl same ↦ rw same (set_here s.homes h (some None) (let all = r.homes in omega (arith, all)))
          | inr other ↦ set_else s.homes h k (some None) other ∙ r.vacant k below unused driver_apart (λ same. other (sym same))
        ];
        driver_knows = r.driver_knows;
        device_knows = tt;
        matched = r.matched;
        lent_once = r.lent_once;
        seated = seated_device wanted queue n s.views w.driver (set_stage v (device.Taken e)) (set_stage v device.Resting) refl (prefix_self v.completed) r.seated;
      } in
      let back = subst (λ (ws : List ℕ). IsRing wanted queue n (record { words = ws; homes = set s.homes h (some None); views = set s.views 1 (Device (set_stage v device.Resting)) }) w.driver (set_stage v device.Resting) w.coming w.going) (sym (set-get_or s.words i 0)) next in
      (Device (set_stage v device.Resting), gives, tt, rw w.id_is (inr (w.driver, set_stage v device.Resting, w.coming, w.going, back)), refl)

  -- the driver has no slot of an entry that is out, and what it knows stays where a used element is stored
  driver_apart : (ws : List ℕ) (published outs : List Entry) (going : List Answer) (stage : DriverStage) (h : ℕ) → 1 ≤ uses h outs → DriverKnows wanted queue n ws published outs going stage → driver_hand wanted queue n stage h → ⊥
  driver_apart ws published outs going driver.Resting h out knows hand = hand
  driver_apart ws published outs going (driver.Writing stored) h out knows hand = hand
  driver_apart ws published outs going (driver.Half stored p a) h out knows hand = hand
  driver_apart ws published outs going (driver.Offered []) h out knows hand = hand
  driver_apart ws published outs going (driver.Offered (first ∷ stored)) h out knows hand =
      let once = knows.0.once first.place in
      let one : times first.place (places_of (first ∷ stored)) ≡ 1 + times first.place (places_of stored) = rw (eq-eqb first.place first.place refl) refl in
      let same : uses first.place outs ≡ uses h outs = ap (λ (k : ℕ). uses k outs) hand in
      omega (arith, once, one, same)
  driver_apart ws published outs going driver.Newer h out knows hand = hand
  driver_apart ws published outs going (driver.Noted fetched) h out knows hand = hand
  driver_apart ws published outs going (driver.Taken a) h out knows hand = (let same : uses (head_of a.entry) outs ≡ uses h outs = ap (λ (k : ℕ). uses k outs) hand in omega (arith, knows, same))

  driver_high : (ws : List ℕ) (i x : ℕ) (published outs : List Entry) (going : List Answer) (stage : DriverStage) → 0 < n → 2 + 3 * n ≤ i
      → DriverKnows wanted queue n ws published outs going stage → DriverKnows wanted queue n (set ws i x) published outs going stage
  driver_high ws i x published outs going driver.Resting large high knows = knows
  driver_high ws i x published outs going (driver.Writing stored) large high knows = (knows.0, stored_high ws n i x stored (omega arith) knows.0.below knows.1)
  driver_high ws i x published outs going (driver.Half stored p a) large high knows =
      (knows.0, stored_high ws n i x stored (omega arith) knows.0.below knows.1, (let small = knows.3 in word_else ws i (addr_place p) x (λ same. omega (arith, small)) ∙ knows.2), knows.3)
  driver_high ws i x published outs going (driver.Offered stored) large high knows =
      let small = mod-lt (length published) large in
      (knows.0, stored_high ws n i x stored (omega arith) knows.0.below knows.1, knows.2, word_else ws i (available_place n (length published % n)) x (λ same. omega (arith, small)) ∙ knows.3)
  driver_high ws i x published outs going driver.Newer large high knows = knows
  driver_high ws i x published outs going (driver.Noted fetched) large high knows = knows
  driver_high ws i x published outs going (driver.Taken a) large high knows = knows

  -- The used element is stored, and the empty slot of the head is taken.
  pub answers_element : (slots id : ℕ) (v : DeviceView) (e : Entry) (len : ℕ) → heads (head_of e) v.held ≡ 1
      → Allows (Ring wanted queue n) slots id (Device (set_stage v device.Resting), []) (used_place n (length v.completed % n)) (λ _. used_word (head_of e) len)
      (λ _ me. me ≡ (Device (set_stage v (device.Answering e len)), (head_of e, None) ∷ []))
  answers_element slots id v e len mine = λ s ring many at bound.
      let w = at_device wanted queue n s id (set_stage v device.Resting) ring at in
      let r = w.ring in
      let h = head_of e in
      let x = used_word h len in
      let i = used_place n (length v.completed % n) in
      let shared = r.shared (uses_in h) in
      let once = r.once h in
      let held = heads_uses h v.held r.held_heads in
      let no_come : heads h w.coming ≡ 0 = (let few = heads_uses h w.coming r.come_heads in omega (arith, few, shared, once, held, mine)) in
      let no_go : heads h (entries w.going) ≡ 0 = (let few = heads_uses h (entries w.going) r.go_heads in omega (arith, few, shared, once, held, mine)) in
      let out : 1 ≤ uses h w.driver.outs = omega (arith, shared, held, mine) in
      let below : h < n = r.below h (omega (arith, out)) in
      let large : 0 < n = omega (arith, below) in
      let small : length v.completed % n < n = mod-lt (length v.completed) large in
      let empty : get_elem? s.homes h ≡ some (some None) = r.vacant h below (omega (arith, no_come, no_go)) (driver_apart s.words w.driver.published w.driver.outs w.going w.driver.stage h out r.driver_knows) (λ no. no) in
      let count : length v.completed ≡ length w.driver.reaped + length w.going = ap length r.back ∙ length-append w.driver.reaped w.going in
      let few : length (entries w.going) ≤ spread (entries w.going) = length_spread (entries w.going) r.go_heads in
      let some_held : length v.held ≤ spread v.held = length_spread v.held r.held_heads in
      let one_held : 1 ≤ length v.held = heads_length h v.held (omega (arith, mine)) in
      let total = r.shared places_in in
      let room = r.room in
      let as_many = length-entries w.going in
      let next : IsRing wanted queue n (record { words = set s.words i x; homes = set s.homes h none; views = set s.views 1 (Device (set_stage v (device.Answering e len))) }) w.driver (set_stage v (device.Answering e len)) w.coming w.going = record {
        words = length-set s.words i x ∙ r.words;
        homes = length-set s.homes h none ∙ r.homes;
        sent = r.sent;
        back = r.back;
        ordered = r.ordered;
        queued = r.queued;
        bounded = r.bounded;
        device_queue = r.device_queue;
        shared = r.shared;
        once = r.once;
        below = r.below;
        room = r.room;
        come_heads = r.come_heads;
        held_heads = r.held_heads;
        go_heads = r.go_heads;
        available = word_else s.words i 0 x (λ same. omega arith) ∙ r.available;
        used = word_else s.words i 1 x (λ same. omega arith) ∙ r.used;
        offers = offers_high n s.words (length v.fetched) i x w.coming large (omega arith) r.offers;
        returns = returns_apart n s.words (length w.driver.reaped) (length v.completed) x w.going (omega (arith, count)) (omega (arith, count, few, some_held, one_held, total, room, as_many)) r.returns;
        come_stand = stand_high n s.words i x w.coming (omega arith) (λ k is_there. r.below k (let all = r.shared (uses_in k) in omega (arith, all))) r.come_stand;
        held_stand = stand_high n s.words i x v.held (omega arith) (λ k is_there. r.below k (let all = r.shared (uses_in k) in omega (arith, all))) r.held_stand;
        go_stand = stand_high n s.words i x (entries w.going) (omega arith) (λ k is_there. r.below k (let all = r.shared (uses_in k) in omega (arith, all))) r.go_stand;
        wait = wait_kept wanted queue n s.homes h none w.coming no_come r.wait;
        lie = lie_kept wanted queue n s.homes h none w.going no_go r.lie;
        vacant = λ k below' unused theirs apart. set_else s.homes h k none (λ same. apart (sym same)) ∙ r.vacant k below' unused theirs (λ no. no);
        driver_knows = driver_high s.words i x w.driver.published w.driver.outs w.going w.driver.stage large (omega arith) r.driver_knows;
        device_knows = (mine, get_or-set_same s.words i x 0 (let all = r.words in omega (arith, all, small)));
        matched = r.matched;
        lent_once = r.lent_once;
        seated = seated_device wanted queue n s.views w.driver (set_stage v device.Resting) (set_stage v (device.Answering e len)) refl (prefix_self v.completed) r.seated;
      } in
      (Device (set_stage v (device.Answering e len)), takes h None, empty, rw w.id_is (inr (w.driver, set_stage v (device.Answering e len), w.coming, w.going, next)), refl)

  -- what the driver knows stays where words 0 and 1 are stored and more goes back
  driver_low : (ws : List ℕ) (i x : ℕ) (published outs : List Entry) (going : List Answer) (a : Answer) (stage : DriverStage) → i < 2
      → DriverKnows wanted queue n ws published outs going stage → DriverKnows wanted queue n (set ws i x) published outs (going ++ a ∷ []) stage
  driver_low ws i x published outs going a driver.Resting low knows = knows
  driver_low ws i x published outs going a (driver.Writing stored) low knows = (knows.0, stored_low ws i x stored low knows.1)
  driver_low ws i x published outs going a (driver.Half stored p b) low knows = (knows.0, stored_low ws i x stored low knows.1, word_else ws i (addr_place p) x (λ same. omega arith) ∙ knows.2, knows.3)
  driver_low ws i x published outs going a (driver.Offered stored) low knows = (knows.0, stored_low ws i x stored low knows.1, knows.2, word_else ws i (available_place n (length published % n)) x (λ same. omega arith) ∙ knows.3)
  driver_low ws i x published outs going a driver.Newer low knows = (let long = length-append going (a ∷ []) in omega (arith, long))
  driver_low ws i x published outs going a (driver.Taken b) low knows = knows
  driver_low ws i x published outs going a (driver.Noted fetched) low knows = knows

  -- The used index, and the slot goes home with the cargo.
  pub returns_cargo : (slots id : ℕ) (v : DeviceView) (xs ys : List Entry) (a : Answer) (cargo : CargoData P) → v.held ≡ xs ++ a.entry ∷ ys → IsDone wanted a cargo
      → Allows (Ring wanted queue n) slots id (Device (set_stage v (device.Answering a.entry a.len)), (head_of a.entry, Some cargo) ∷ []) 1 (λ _. (length v.completed + 1) % 65536)
      (λ _ me. me ≡ (Device (completed_after v a (xs ++ ys)), []))
  returns_cargo slots id v xs ys a cargo held_is done = λ s ring many at bound.
      let e = a.entry in
      let w = at_device wanted queue n s id (set_stage v (device.Answering e a.len)) ring at in
      let r = w.ring in
      let knows = r.device_knows in
      let h = head_of e in
      let x = (length v.completed + 1) % 65536 in
      let shared = r.shared (uses_in h) in
      let once = r.once h in
      let held = heads_uses h v.held r.held_heads in
      let mine : heads h v.held ≡ 1 = knows.0 in
      let no_come : heads h w.coming ≡ 0 = (let few = heads_uses h w.coming r.come_heads in omega (arith, few, shared, once, held, mine)) in
      let no_go : heads h (entries w.going) ≡ 0 = (let few = heads_uses h (entries w.going) r.go_heads in omega (arith, few, shared, once, held, mine)) in
      let below : h < n = r.below h (omega (arith, shared, held, mine)) in
      let cut : (f : Entry → ℕ) → weigh f v.held ≡ weigh f (xs ++ ys) + f e = λ f. (let all : weigh f v.held ≡ weigh f (xs ++ e ∷ ys) = ap (weigh f) held_is in let one = weigh-append f xs (e ∷ ys) in let two = weigh-append f xs ys in omega (arith, all, one, two)) in
      let more : (f : Entry → ℕ) → weigh f (entries (w.going ++ a ∷ [])) ≡ weigh f (entries w.going) + f e = λ f. (let all : weigh f (entries (w.going ++ a ∷ [])) ≡ weigh f (entries w.going ++ e ∷ []) = ap (weigh f) (entries-append w.going (a ∷ [])) in let one = weigh-append f (entries w.going) (e ∷ []) in omega (arith, all, one)) in
      let heads_are = have-front xs (e ∷ ys) (subst HaveHeads held_is r.held_heads) in
      let stands = stand_front n (set s.words 1 x) xs (e ∷ ys) (subst (λ (es : List Entry). Stand n (set s.words 1 x) es) held_is (stand_low n s.words 1 x v.held (omega arith) r.held_stand)) in
      let count : length v.completed ≡ length w.driver.reaped + length w.going = ap length r.back ∙ length-append w.driver.reaped w.going in
      let long : length (v.completed ++ a ∷ []) ≡ length v.completed + 1 = length-append v.completed (a ∷ []) in
      let element : word_at (set s.words 1 x) (used_place n ((length w.driver.reaped + length w.going) % n)) ≡ used_word h a.len =
      word_else s.words 1 (used_place n ((length w.driver.reaped + length w.going) % n)) x (λ same. omega arith) ∙ subst (λ (k : ℕ). word_at s.words (used_place n (k % n)) ≡ used_word h a.len) count knows.1 in
      let home : get_elem? (set s.homes h (some (Some cargo))) h ≡ some (some (Some cargo)) = set_here s.homes h (some (Some cargo)) (let all = r.homes in omega (arith, all, below)) in
      let v' = completed_after v a (xs ++ ys) in
      let next : IsRing wanted queue n (record { words = set s.words 1 x; homes = set s.homes h (some (Some cargo)); views = set s.views 1 (Device v') }) w.driver v' w.coming (w.going ++ a ∷ []) = record {
        words = length-set s.words 1 x ∙ r.words;
        homes = length-set s.homes h (some (Some cargo)) ∙ r.homes;
        sent = r.sent;
        back = ap (λ (as' : List Answer). as' ++ a ∷ []) r.back ∙ append_assoc w.driver.reaped w.going (a ∷ []);
        ordered = r.ordered;
        queued = r.queued;
        bounded = r.bounded;
        device_queue = r.device_queue;
        shared = λ f. (let old = r.shared f in let one = cut f in let two = more f in omega (arith, old, one, two));
        once = r.once;
        below = r.below;
        room = r.room;
        come_heads = r.come_heads;
        held_heads = have-append xs ys heads_are.0 heads_are.1.1;
        go_heads = subst HaveHeads (sym (entries-append w.going (a ∷ []))) (have-append (entries w.going) (e ∷ []) r.go_heads (heads_are.1.0, tt));
        available = word_else s.words 1 0 x (λ same. omega arith) ∙ r.available;
        used = get_or-set_same s.words 1 x 0 (let all = r.words in omega (arith, all)) ∙ ap (λ (k : ℕ). k % 65536) (sym long);
        offers = offers_kept n s.words (length v.fetched) 1 x w.coming (omega arith) r.offers;
        returns = returns_snoc n (set s.words 1 x) (length w.driver.reaped) w.going a (returns_kept n s.words (length w.driver.reaped) 1 x w.going (omega arith) r.returns) element;
        come_stand = stand_low n s.words 1 x w.coming (omega arith) r.come_stand;
        held_stand = stand_append n (set s.words 1 x) xs ys stands.0 stands.1.1;
        go_stand = subst (λ (es : List Entry). Stand n (set s.words 1 x) es) (sym (entries-append w.going (a ∷ []))) (stand_snoc n (set s.words 1 x) (entries w.going) e (stand_low n s.words 1 x (entries w.going) (omega arith) r.go_stand) stands.1.0);
        wait = wait_kept wanted queue n s.homes h (some (Some cargo)) w.coming no_come r.wait;
        lie = lie_snoc wanted queue n (set s.homes h (some (Some cargo))) w.going a cargo (lie_kept wanted queue n s.homes h (some (Some cargo)) w.going no_go r.lie) home done;
        vacant = λ k below' unused theirs apart.
            (let one = more (head_in k) in
            let away : k ≢ h = λ same. (let self : head_in k e ≡ 1 = rw (eq-eqb (head_of e) k (sym same)) refl in omega (arith, one, self, unused)) in
            set_else s.homes h k (some (Some cargo)) away ∙ r.vacant k below' (omega (arith, one, unused)) theirs (λ same. away (sym same)));
        driver_knows = driver_low s.words 1 x w.driver.published w.driver.outs w.going a w.driver.stage (omega arith) r.driver_knows;
        device_knows = tt;
        matched = λ f. (let old = r.matched f in let one = cut f in let all : weigh f (entries (v.completed ++ a ∷ [])) ≡ weigh f (entries v.completed ++ e ∷ []) = ap (weigh f) (entries-append v.completed (a ∷ [])) in let two = weigh-append f (entries v.completed) (e ∷ []) in omega (arith, old, one, all, two));
        lent_once = r.lent_once;
        seated = seated_device wanted queue n s.views w.driver (set_stage v (device.Answering e a.len)) v' refl (prefix_more v.completed v.completed (a ∷ []) (prefix_self v.completed)) r.seated;
      } in
      (Device v', gives, tt, rw w.id_is (inr (w.driver, v', w.coming, w.going ++ a ∷ [], next)), refl)

  stored_tells : (ws : List ℕ) (stored : List Stored) (d : Stored) → StandStored ws stored → IsIn d stored → (word_at ws (addr_place d.place) ≡ d.addr) × (word_at ws (rest_place d.place) ≡ d.rest)
  stored_tells ws [] d stand is_in = absurd is_in
  stored_tells ws (f ∷ more) d stand (inl same) = subst (λ (x : Stored). (word_at ws (addr_place x.place) ≡ x.addr) × (word_at ws (rest_place x.place) ≡ x.rest)) same (stand.0, stand.1)
  stored_tells ws (f ∷ more) d stand (inr is_in) = stored_tells ws more d stand.2 is_in

  stand_tells : (ws : List ℕ) (es : List Entry) (e : Entry) → Stand n ws es → Has e es → StandStored ws (stored_of n e)
  stand_tells ws [] e stand has = absurd has
  stand_tells ws (f ∷ es) e stand (inl same) = subst (λ (x : Entry). StandStored ws (stored_of n x)) same stand.0
  stand_tells ws (f ∷ es) e stand (inr has) = stand_tells ws es e stand.1 has

  -- A word of the ring is loaded.
  pub reads : (slots id i : ℕ) (v : DeviceView)
      → Allows (Ring wanted queue n) slots id (Device (set_stage v device.Resting), []) i (λ k. k) (λ found me. (me ≡ (Device (set_stage v device.Resting), [])) × TellsWord n i found v.held)
  reads slots id i v = λ s ring many at bound.
      let w = at_device wanted queue n s id (set_stage v device.Resting) ring at in
      let next = moves s w.driver (set_stage v device.Resting) v.looks v.seen device.Resting w.coming w.going i w.ring (λ h no. no) tt in
      let tells : TellsWord n i (get_or s.words i 0) v.held = λ e d has is_in.
      (let both = stored_tells s.words (stored_of n e) d (stand_tells s.words v.held e w.ring.held_stand has) is_in in
      (λ at_addr. ap (λ (k : ℕ). get_or s.words k 0) at_addr ∙ both.0, λ at_rest. ap (λ (k : ℕ). get_or s.words k 0) at_rest ∙ both.1)) in
      (Device (set_stage v device.Resting), keeps, tt, rw w.id_is (inr (w.driver, set_stage v device.Resting, w.coming, w.going, next)), (refl, tells))
