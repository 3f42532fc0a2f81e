use Rattle.std.proofs.Common.{◌≡◌, ◌≢◌, ℕ, suc, ◌+◌, ◌*◌, ◌%◌, ◌^◌, ◌<◌, ◌≤◌, Bool, true, false, Option, Some, None, List, [], ◌∷◌, ◌++◌, length, get_or, set, refl, sym, ap, subst, inl, inr, ◌∙◌, arith, cond, eqb, length-append, append_assoc}
use mathlib.Core.Option.{some, none}
use lib.ListN.{get_elem?}
use Rattle.std.proofs.lemmas.List.{get_or-set_same, length-set, set-get_or, append-nil}
use Rattle.std.proofs.Math.Nat.{mod-lt}
use Rattle.atomic_table.proofs.Lists.{set_else, set_here}
use Rattle.std.proofs.lemmas.Bool.{cases_lt, cases_eq, eq-eqb, ne_eqb}
use Rattle.std.proofs.lemmas.Bool.Decides.{eqb_tells}
use Rattle.atomic_table.specs.Table.{State, Act, Allows, Valid, stepped, carried_after}
use Rattle.atomic_table.specs.Table.Act.{keeps, takes, gives}
use Rattle.vg_cargo.specs.declared.entries.Entry.{Entry}
use Rattle.vg_cargo.specs.declared.entries.Answer.{Answer}
use Rattle.vg_split.specs.declared.views.Stored.{Stored}
use Rattle.vg_split.specs.declared.views.DriverStage.{DriverStage}
use Rattle.vg_split.specs.declared.views.DriverStage.TheVariants as driver
use Rattle.vg_split.specs.declared.views.DeviceStage.{DeviceStage}
use Rattle.vg_split.specs.declared.views.DeviceStage.TheVariants as device
use Rattle.vg_split.specs.declared.views.DriverView.{DriverView}
use Rattle.vg_split.specs.declared.views.DeviceView.{DeviceView}
use Rattle.vg_split.specs.declared.views.View.{View}
use Rattle.vg_split.specs.declared.views.View.TheVariants.{Driver}
use Rattle.vg_cargo.specs.Cargo.{CargoData}
use Rattle.vg_wire.specs.declared.request.Queue.{Queue}
use Rattle.vg_split.specs.Words.{addr_place, rest_place, available_place, used_place}
use Rattle.vg_cargo.specs.Entries.{head_of, times, uses_in, places_in, head_in, uses, heads, spread, entries, lane_count, weigh, without, IsFresh}
use Rattle.vg_split.specs.Rule.{stored_of, word_at, Returns, places_of, StandStored, AreFree, DriverKnows, DeviceKnows, driver_hand, device_hand, IsRing, Ring, staged, published_after, reaped_after, looked_by_driver}
use Rattle.vg_split.specs.Tells.{IsReaped}
use Rattle.vg_split.proofs.Frames.{word_else, stored_kept, stored_high, stand_kept, stand_high, stored_low, stand_low, stand_snoc, offers_kept, offers_apart, offers_snoc, returns_kept, IsWordOf, places-snoc, stored-snoc}
use Rattle.vg_cargo.proofs.Counts.{times-append, heads_uses, length_spread, weigh-append, weigh-ones, weigh_away, weigh_without, length-entries, head_in_places, have-append, of-append, in_order-snoc}
use Rattle.vg_cargo.proofs.Slots.{heads_here, wait_kept, wait_snoc, lie_kept}
use Rattle.vg_history.proofs.ListLemmas.{prefix_self, prefix_more}
use Rattle.vg_split.proofs.Seats.{at_driver, seated_driver}

module _ {P : Type 0} (wanted : P → Bool) (queue : Queue) (n : ℕ) where
  -- what the device's stage says of the words stays where another word is stored
  pub device_kept : (ws : List ℕ) (i x : ℕ) (coming : List Entry) (completed : List Answer) (held lent : List Entry) (stage : DeviceStage) → i < 2 + 3 * n
      → DeviceKnows wanted queue n ws coming completed held lent stage → DeviceKnows wanted queue n (set ws i x) coming completed held lent stage
  device_kept ws i x coming completed held lent device.Resting low knows = knows
  device_kept ws i x coming completed held lent device.Newer low knows = knows
  device_kept ws i x coming completed held lent (device.Taken e) low knows = knows
  device_kept ws i x coming completed held lent (device.Answering e len) low knows = (knows.0, word_else ws i (used_place n (length completed % n)) x (λ same. omega arith) ∙ knows.1)
  device_kept ws i x coming completed held lent (device.Naming e) low knows = knows
  device_kept ws i x coming completed held lent (device.Returned e old) low knows = knows
  device_kept ws i x coming completed held lent (device.Noted reaped) low knows = knows

  -- one entry more comes
  came : (ws : List ℕ) (coming : List Entry) (e : Entry) (completed : List Answer) (held lent : List Entry) (stage : DeviceStage)
      → DeviceKnows wanted queue n ws coming completed held lent stage → DeviceKnows wanted queue n ws (coming ++ e ∷ []) completed held lent stage
  came ws coming e completed held lent device.Resting knows = knows
  came ws coming e completed held lent device.Newer knows = (let long = length-append coming (e ∷ []) in omega (arith, long))
  came ws coming e completed held lent (device.Taken f) knows = knows
  came ws coming e completed held lent (device.Answering f len) knows = knows
  came ws coming e completed held lent (device.Naming f) knows = knows
  came ws coming e completed held lent (device.Returned f old) knows = knows
  came ws coming e completed held lent (device.Noted reaped) knows = knows

  -- a word of a place that no entry has is stored, and the driver's stage changes from one that holds no slot to another
  stores : (s : State (Option (CargoData P)) View) (d : DriverView) (stage : DriverStage) (v : DeviceView) (coming : List Entry) (going : List Answer) (p i x : ℕ)
      → IsRing wanted queue n s d v coming going → p < n → IsWordOf p i → uses p d.outs ≡ 0
      → ((h : ℕ) → driver_hand wanted queue n d.stage h → ⊥)
      → DriverKnows wanted queue n (set s.words i x) d.published d.outs going stage
      → IsRing wanted queue n (record { words = set s.words i x; homes = s.homes; views = set s.views 0 (Driver (staged d stage)) }) (staged d stage) v coming going
  stores s d stage v coming going p i x ring small is free unused knows =
      let low : i < 2 + 2 * n = elim is [ inl w ↦ omega arith | inr w ↦ omega arith ] in
      let high : 1 < i = elim is [ inl w ↦ omega arith | inr w ↦ omega arith ] in
      let shared = ring.shared (uses_in p) in
      record {
        words = length-set s.words i x ∙ ring.words;
        homes = ring.homes;
        sent = ring.sent;
        back = ring.back;
        ordered = ring.ordered;
        queued = ring.queued;
        bounded = ring.bounded;
        device_queue = ring.device_queue;
        shared = ring.shared;
        once = ring.once;
        below = ring.below;
        room = ring.room;
        come_heads = ring.come_heads;
        held_heads = ring.held_heads;
        go_heads = ring.go_heads;
        available = word_else s.words i 0 x (λ e. omega arith) ∙ ring.available;
        used = word_else s.words i 1 x (λ e. omega arith) ∙ ring.used;
        offers = offers_kept n s.words (length v.fetched) i x coming low ring.offers;
        returns = returns_kept n s.words (length d.reaped) i x going (omega arith) ring.returns;
        come_stand = stand_kept n s.words p i x coming is (omega arith) ring.come_stand;
        held_stand = stand_kept n s.words p i x v.held is (omega arith) ring.held_stand;
        go_stand = stand_kept n s.words p i x (entries going) is (omega arith) ring.go_stand;
        wait = ring.wait;
        lie = ring.lie;
        vacant = λ h below none_there apart apart'. ring.vacant h below none_there (unused h) apart';
        driver_knows = knows;
        device_knows = device_kept s.words i x coming v.completed v.held v.lent v.stage (omega arith) ring.device_knows;
        matched = ring.matched;
        lent_once = ring.lent_once;
        seated = seated_driver wanted queue n s.views d (staged d stage) v (prefix_self d.published) ring.seated;
      }

  -- The address of one more descriptor of a publication.
  pub stores_address : (slots id : ℕ) (d : DriverView) (stored : List Stored) (p a : ℕ) → p < n → uses p d.outs ≡ 0 → times p (places_of stored) ≡ 0
      → Allows (Ring wanted queue n) slots id (Driver (staged d (driver.Writing stored)), []) (addr_place p) (λ _. a) (λ r me. me ≡ (Driver (staged d (driver.Half stored p a)), []))
  stores_address slots id d stored p a small free apart = λ s ring many at bound.
      let w = at_driver wanted queue n s id (staged d (driver.Writing stored)) ring at in
      let knows = w.ring.driver_knows in
      let long = w.ring.words in
      let here : word_at (set s.words (addr_place p) a) (addr_place p) ≡ a = get_or-set_same s.words (addr_place p) a 0 (omega arith) in
      let next = stores s (staged d (driver.Writing stored)) (driver.Half stored p a) w.device w.coming w.going p (addr_place p) a w.ring small (inl refl) free (λ h no. no)
      (knows.0, stored_kept s.words p (addr_place p) a stored (inl refl) apart knows.1, here, small) in
      (Driver (staged d (driver.Half stored p a)), keeps, tt, rw w.id_is (inr (staged d (driver.Half stored p a), w.device, w.coming, w.going, next)), refl)

  -- The address of the first descriptor of a publication.
  pub stores_first : (slots id : ℕ) (d : DriverView) (p a : ℕ) → p < n → uses p d.outs ≡ 0
      → Allows (Ring wanted queue n) slots id (Driver (staged d driver.Resting), []) (addr_place p) (λ _. a) (λ r me. me ≡ (Driver (staged d (driver.Half [] p a)), []))
  stores_first slots id d p a small free = λ s ring many at bound.
      let w = at_driver wanted queue n s id (staged d driver.Resting) ring at in
      let long = w.ring.words in
      let here : word_at (set s.words (addr_place p) a) (addr_place p) ≡ a = get_or-set_same s.words (addr_place p) a 0 (omega arith) in
      let none_yet : AreFree wanted queue n [] d.outs = record { below = λ h some. absurd (omega arith); once = λ h. (let few = w.ring.once h in omega (arith, few)) } in
      let next = stores s (staged d driver.Resting) (driver.Half [] p a) w.device w.coming w.going p (addr_place p) a w.ring small (inl refl) free (λ h no. no) (none_yet, tt, here, small) in
      (Driver (staged d (driver.Half [] p a)), keeps, tt, rw w.id_is (inr (staged d (driver.Half [] p a), w.device, w.coming, w.going, next)), refl)

  twice : (h : ℕ) (stored : List Stored) (p a r : ℕ) → times h (places_of (stored ++ record { place = p; addr = a; rest = r } ∷ [])) ≡ times h (places_of stored) + times h (p ∷ [])
  twice h stored p a r = ap (times h) (places-snoc stored (record { place = p; addr = a; rest = r })) ∙ times-append h (places_of stored) (p ∷ [])

  one_place : (h p : ℕ) → 0 < times h (p ∷ []) → h ≡ p
  one_place h p is_there = elim (eqb_tells p h) [ inl w ↦ sym w.1 | inr w ↦ (let zero_there : times h (p ∷ []) ≡ 0 = rw w.0 refl in absurd (omega arith)) ]

  free_snoc : (stored : List Stored) (outs : List Entry) (p a r : ℕ) → p < n → uses p outs ≡ 0 → times p (places_of stored) ≡ 0 → AreFree wanted queue n stored outs
      → AreFree wanted queue n (stored ++ record { place = p; addr = a; rest = r } ∷ []) outs
  free_snoc stored outs p a r small free apart are = record {
    below = λ h is_there. (let both = twice h stored p a r in elim (cases_lt 0 (times h (p ∷ []))) [
      | inl here ↦ (let is = one_place h p here in omega (arith, is))
      | inr not_here ↦ are.below h (omega (arith, both))
    ]);
    once = λ h. (let both = twice h stored p a r in elim (cases_lt 0 (times h (p ∷ []))) [
      | inl here ↦ (
          let is = one_place h p here in
          let one : times p (p ∷ []) ≡ 1 = rw (eq-eqb p p refl) refl in
          rw is (let both' = twice p stored p a r in omega (arith, both'))
          )
      | inr not_here ↦ (let old = are.once h in omega (arith, both, old))
    ]);
  }

  -- The rest of that descriptor.
  pub stores_rest : (slots id : ℕ) (d : DriverView) (stored : List Stored) (p a r : ℕ) → p < n → uses p d.outs ≡ 0 → times p (places_of stored) ≡ 0
      → Allows (Ring wanted queue n) slots id (Driver (staged d (driver.Half stored p a)), []) (rest_place p) (λ _. r)
      (λ _ me. me ≡ (Driver (staged d (driver.Writing (stored ++ record { place = p; addr = a; rest = r } ∷ []))), []))
  stores_rest slots id d stored p a r small free apart = λ s ring many at bound.
      let w = at_driver wanted queue n s id (staged d (driver.Half stored p a)) ring at in
      let knows = w.ring.driver_knows in
      let long = w.ring.words in
      let new : Stored = record { place = p; addr = a; rest = r } in
      let here : word_at (set s.words (rest_place p) r) (rest_place p) ≡ r = get_or-set_same s.words (rest_place p) r 0 (omega arith) in
      let addr : word_at (set s.words (rest_place p) r) (addr_place p) ≡ a = word_else s.words (rest_place p) (addr_place p) r (λ e. omega arith) ∙ knows.2 in
      let next = stores s (staged d (driver.Half stored p a)) (driver.Writing (stored ++ new ∷ [])) w.device w.coming w.going p (rest_place p) r w.ring small (inr refl) free (λ h no. no)
      (free_snoc stored d.outs p a r small free apart knows.0, stored-snoc (set s.words (rest_place p) r) stored new (stored_kept s.words p (rest_place p) r stored (inr refl) apart knows.1) (addr, here, tt)) in
      (Driver (staged d (driver.Writing (stored ++ new ∷ []))), keeps, tt, rw w.id_is (inr (staged d (driver.Writing (stored ++ new ∷ [])), w.device, w.coming, w.going, next)), refl)

  -- a slot in which nothing waits or lies, and which no end has, is empty
  device_apart : (ws : List ℕ) (coming : List Entry) (completed : List Answer) (held lent : List Entry) (stage : DeviceStage) (h : ℕ) → heads h held ≡ 0
      → DeviceKnows wanted queue n ws coming completed held lent stage → device_hand wanted queue n stage h → ⊥
  device_apart ws coming completed held lent device.Resting h free knows hand = hand
  device_apart ws coming completed held lent device.Newer h free knows hand = hand
  device_apart ws coming completed held lent (device.Taken e) h free knows hand = (let same : heads (head_of e) held ≡ heads h held = ap (λ (k : ℕ). heads k held) hand in omega (arith, knows))
  device_apart ws coming completed held lent (device.Answering e len) h free knows hand = (let same : heads (head_of e) held ≡ heads h held = ap (λ (k : ℕ). heads k held) hand in omega (arith, knows.0))
  device_apart ws coming completed held lent (device.Naming e) h free knows hand = hand
  device_apart ws coming completed held lent (device.Returned e old) h free knows hand = hand
  device_apart ws coming completed held lent (device.Noted reaped) h free knows hand = hand

  -- The available element, and the empty slot of the head is taken.
  pub offers_element : (slots id : ℕ) (d : DriverView) (first : Stored) (stored : List Stored) → spread d.outs + length (first ∷ stored) ≤ n
      → Allows (Ring wanted queue n) slots id (Driver (staged d (driver.Writing (first ∷ stored))), []) (available_place n (length d.published % n)) (λ _. first.place)
      (λ _ me. me ≡ (Driver (staged d (driver.Offered (first ∷ stored))), (first.place, None) ∷ []))
  offers_element slots id d first stored room = λ s ring many at bound.
      let w = at_driver wanted queue n s id (staged d (driver.Writing (first ∷ stored))) ring at in
      let r = w.ring in
      let knows = r.driver_knows in
      let h = first.place in
      let i = available_place n (length d.published % n) in
      let large : 0 < n = omega arith in
      let small : length d.published % n < n = mod-lt (length d.published) large in
      let one : times h (places_of (first ∷ stored)) ≡ 1 + times h (places_of stored) = rw (eq-eqb h h refl) refl in
      let below : h < n = knows.0.below h (omega (arith, one)) in
      let free : uses h d.outs ≡ 0 = (let once = knows.0.once h in omega (arith, one, once)) in
      let shared = r.shared (uses_in h) in
      let no_come : heads h w.coming ≡ 0 = (let few = heads_uses h w.coming r.come_heads in omega (arith, few, shared)) in
      let no_held : heads h w.device.held ≡ 0 = (let few = heads_uses h w.device.held r.held_heads in omega (arith, few, shared)) in
      let no_go : heads h (entries w.going) ≡ 0 = (let few = heads_uses h (entries w.going) r.go_heads in omega (arith, few, shared)) in
      let empty : get_elem? s.homes h ≡ some (some None) = r.vacant h below (omega (arith, no_come, no_go)) (λ no. no) (device_apart s.words w.coming w.device.completed w.device.held w.device.lent w.device.stage h no_held r.device_knows) in
      let count : length d.published ≡ length w.device.fetched + length w.coming = ap length r.sent ∙ length-append w.device.fetched w.coming in
      let few : length w.coming ≤ spread w.coming = length_spread w.coming r.come_heads in
      let spread_is = r.shared places_in in
      let next : IsRing wanted queue n (record { words = set s.words i h; homes = set s.homes h none; views = set s.views 0 (Driver (staged d (driver.Offered (first ∷ stored)))) }) (staged d (driver.Offered (first ∷ stored))) w.device w.coming w.going = record {
        words = length-set s.words i h ∙ r.words;
        homes = length-set s.homes h none ∙ r.homes;
        sent = r.sent;
        back = r.back;
        ordered = r.ordered;
        queued = r.queued;
        bounded = r.bounded;
        device_queue = r.device_queue;
        shared = r.shared;
        once = r.once;
        below = r.below;
        room = r.room;
        come_heads = r.come_heads;
        held_heads = r.held_heads;
        go_heads = r.go_heads;
        available = word_else s.words i 0 h (λ e. omega arith) ∙ r.available;
        used = word_else s.words i 1 h (λ e. omega arith) ∙ r.used;
        offers = offers_apart n s.words (length w.device.fetched) (length d.published) h w.coming (omega (arith, count)) (omega (arith, count, few, spread_is)) r.offers;
        returns = returns_kept n s.words (length d.reaped) i h w.going (omega arith) r.returns;
        come_stand = stand_high n s.words i h w.coming (omega arith) (λ k is_there. r.below k (let all = r.shared (uses_in k) in omega (arith, all))) r.come_stand;
        held_stand = stand_high n s.words i h w.device.held (omega arith) (λ k is_there. r.below k (let all = r.shared (uses_in k) in omega (arith, all))) r.held_stand;
        go_stand = stand_high n s.words i h (entries w.going) (omega arith) (λ k is_there. r.below k (let all = r.shared (uses_in k) in omega (arith, all))) r.go_stand;
        wait = wait_kept wanted queue n s.homes h none w.coming no_come r.wait;
        lie = lie_kept wanted queue n s.homes h none w.going no_go r.lie;
        vacant = λ k below' unused mine other. set_else s.homes h k none (λ e. mine (sym e)) ∙ r.vacant k below' unused (λ no. no) other;
        driver_knows = (knows.0, stored_high s.words n i h (first ∷ stored) (omega arith) knows.0.below knows.1, omega arith, get_or-set_same s.words i h 0 (let all = r.words in omega (arith, all)));
        device_knows = device_kept s.words i h w.coming w.device.completed w.device.held w.device.lent w.device.stage (omega arith) r.device_knows;
        matched = r.matched;
        lent_once = r.lent_once;
        seated = seated_driver wanted queue n s.views (staged d (driver.Writing (first ∷ stored))) (staged d (driver.Offered (first ∷ stored))) w.device (prefix_self d.published) r.seated;
      } in
      (Driver (staged d (driver.Offered (first ∷ stored))), takes h None, empty, rw w.id_is (inr (staged d (driver.Offered (first ∷ stored)), w.device, w.coming, w.going, next)), refl)

  -- The available index, and the slot goes home with the cargo.
  pub publishes : (slots id : ℕ) (d : DriverView) (first : Stored) (stored : List Stored) (e : Entry) (cargo : CargoData P)
      → first ∷ stored ≡ stored_of n e → places_of (first ∷ stored) ≡ e.places → spread d.outs + length e.places ≤ n
      → IsFresh wanted n e cargo → e.ordinal ≡ lane_count e.lane d.published + 1 → e.queue ≡ queue → length d.published + 1 < 2 ^ 63
      → Allows (Ring wanted queue n) slots id (Driver (staged d (driver.Offered (first ∷ stored))), (first.place, Some cargo) ∷ []) 0 (λ _. (length d.published + 1) % 65536)
      (λ _ me. me ≡ (Driver (published_after d e), []))
  publishes slots id d first stored e cargo made_is places_are room fresh ordinal of_queue few_sent = λ s ring many at bound.
      let w = at_driver wanted queue n s id (staged d (driver.Offered (first ∷ stored))) ring at in
      let r = w.ring in
      let knows = r.driver_knows in
      let h = first.place in
      let x = (length d.published + 1) % 65536 in
      let head : head_of e ≡ h = ap (λ (ps : List ℕ). get_or ps 0 0) (sym places_are) in
      let some_place : 0 < length e.places = subst (λ (ps : List ℕ). 0 < length ps) places_are (omega arith) in
      let free : (k : ℕ) → times k e.places + uses k d.outs ≤ 1 = subst (λ (ps : List ℕ). (k : ℕ) → times k ps + uses k d.outs ≤ 1) places_are knows.0.once in
      let small : (k : ℕ) → 0 < times k e.places → k < n = subst (λ (ps : List ℕ). (k : ℕ) → 0 < times k ps → k < n) places_are knows.0.below in
      let one : times h (places_of (first ∷ stored)) ≡ 1 + times h (places_of stored) = rw (eq-eqb h h refl) refl in
      let below : h < n = knows.0.below h (omega (arith, one)) in
      let unused : uses h d.outs ≡ 0 = (let once = knows.0.once h in omega (arith, one, once)) in
      let shared = r.shared (uses_in h) in
      let no_come : heads h w.coming ≡ 0 = (let few = heads_uses h w.coming r.come_heads in omega (arith, few, shared)) in
      let no_go : heads h (entries w.going) ≡ 0 = (let few = heads_uses h (entries w.going) r.go_heads in omega (arith, few, shared)) in
      let count : length d.published ≡ length w.device.fetched + length w.coming = ap length r.sent ∙ length-append w.device.fetched w.coming in
      let long : length (d.published ++ e ∷ []) ≡ length d.published + 1 = length-append d.published (e ∷ []) in
      let element : word_at (set s.words 0 x) (available_place n ((length w.device.fetched + length w.coming) % n)) ≡ head_of e =
      word_else s.words 0 (available_place n ((length w.device.fetched + length w.coming) % n)) x (λ same. omega arith) ∙ subst (λ (k : ℕ). word_at s.words (available_place n (k % n)) ≡ h) count knows.3 ∙ sym head in
      let stands : StandStored (set s.words 0 x) (stored_of n e) = subst (λ (ds : List Stored). StandStored (set s.words 0 x) ds) made_is (stored_low s.words 0 x (first ∷ stored) (omega arith) knows.1) in
      let home : get_elem? (set s.homes h (some (Some cargo))) (head_of e) ≡ some (some (Some cargo)) = rw head (set_here s.homes h (some (Some cargo)) (let all = r.homes in omega (arith, all))) in
      let next : IsRing wanted queue n (record { words = set s.words 0 x; homes = set s.homes h (some (Some cargo)); views = set s.views 0 (Driver (published_after d e)) }) (published_after d e) w.device (w.coming ++ e ∷ []) w.going = record {
        words = length-set s.words 0 x ∙ r.words;
        homes = length-set s.homes h (some (Some cargo)) ∙ r.homes;
        sent = ap (λ (es : List Entry). es ++ e ∷ []) r.sent ∙ append_assoc w.device.fetched w.coming (e ∷ []);
        back = r.back;
        ordered = in_order-snoc [] d.published e r.ordered ordinal;
        queued = of-append queue d.published (e ∷ []) r.queued (of_queue, tt);
        bounded = omega (arith, long, few_sent);
        device_queue = r.device_queue;
        shared = λ f. (let old = r.shared f in let more = weigh-append f w.coming (e ∷ []) in omega (arith, old, more));
        once = λ k. (let old = free k in omega (arith, old));
        below = λ k is_there. elim (cases_lt 0 (times k e.places)) [ inl here ↦ small k here | inr gone ↦ r.below k (omega arith) ];
        room = omega (arith, room);
        come_heads = have-append w.coming (e ∷ []) r.come_heads (some_place, tt);
        held_heads = r.held_heads;
        go_heads = r.go_heads;
        available = get_or-set_same s.words 0 x 0 (let all = r.words in omega (arith, all)) ∙ ap (λ (k : ℕ). k % 65536) (sym long);
        used = word_else s.words 0 1 x (λ same. omega arith) ∙ r.used;
        offers = offers_snoc n (set s.words 0 x) (length w.device.fetched) w.coming e (offers_kept n s.words (length w.device.fetched) 0 x w.coming (omega arith) r.offers) element;
        returns = returns_kept n s.words (length d.reaped) 0 x w.going (omega arith) r.returns;
        come_stand = stand_snoc n (set s.words 0 x) w.coming e (stand_low n s.words 0 x w.coming (omega arith) r.come_stand) stands;
        held_stand = stand_low n s.words 0 x w.device.held (omega arith) r.held_stand;
        go_stand = stand_low n s.words 0 x (entries w.going) (omega arith) r.go_stand;
        wait = wait_snoc wanted queue n (set s.homes h (some (Some cargo))) w.coming e cargo (wait_kept wanted queue n s.homes h (some (Some cargo)) w.coming no_come r.wait) home fresh;
        lie = lie_kept wanted queue n s.homes h (some (Some cargo)) w.going no_go r.lie;
        vacant = λ k below' empty mine other.
            (let more = weigh-append (head_in k) w.coming (e ∷ []) in
            let apart = heads_here k e [] (omega (arith, more)) in
            let away : k ≢ h = λ same. apart.0 (head ∙ sym same) in
            set_else s.homes h k (some (Some cargo)) away ∙ r.vacant k below' (omega (arith, more)) (λ same. away (sym same)) other);
        driver_knows = tt;
        device_knows = came (set s.words 0 x) w.coming e w.device.completed w.device.held w.device.lent w.device.stage (device_kept s.words 0 x w.coming w.device.completed w.device.held w.device.lent w.device.stage (omega arith) r.device_knows);
        matched = r.matched;
        lent_once = r.lent_once;
        seated = seated_driver wanted queue n s.views (staged d (driver.Offered (first ∷ stored))) (published_after d e) w.device (prefix_more d.published d.published (e ∷ []) (prefix_self d.published)) r.seated;
      } in
      (Driver (published_after d e), gives, tt, rw w.id_is (inr (published_after d e, w.device, w.coming ++ e ∷ [], w.going, next)), refl)

  -- the driver's end comes to another stage, with the same lists
  pub moves : (s : State (Option (CargoData P)) View) (d : DriverView) (v : DeviceView) (looks seen : ℕ) (stage : DriverStage) (coming : List Entry) (going : List Answer) (i : ℕ)
      → IsRing wanted queue n s d v coming going → ((h : ℕ) → driver_hand wanted queue n d.stage h → driver_hand wanted queue n stage h)
      → DriverKnows wanted queue n s.words d.published d.outs going stage
      → IsRing wanted queue n (record { words = set s.words i (get_or s.words i 0); homes = s.homes; views = set s.views 0 (Driver (record d { looks = looks; seen = seen; stage = stage })) }) (record d { looks = looks; seen = seen; stage = stage }) v coming going
  moves s d v looks seen stage coming going i r hands knows =
      subst (λ (ws : List ℕ). IsRing wanted queue n (record { words = ws; homes = s.homes; views = set s.views 0 (Driver (record d { looks = looks; seen = seen; stage = stage })) }) (record d { looks = looks; seen = seen; stage = stage }) v coming going)
      (sym (set-get_or s.words i 0)) (record {
        words = r.words;
        homes = r.homes;
        sent = r.sent;
        back = r.back;
        ordered = r.ordered;
        queued = r.queued;
        bounded = r.bounded;
        device_queue = r.device_queue;
        shared = r.shared;
        once = r.once;
        below = r.below;
        room = r.room;
        come_heads = r.come_heads;
        held_heads = r.held_heads;
        go_heads = r.go_heads;
        available = r.available;
        used = r.used;
        offers = r.offers;
        returns = r.returns;
        come_stand = r.come_stand;
        held_stand = r.held_stand;
        go_stand = r.go_stand;
        wait = r.wait;
        lie = r.lie;
        vacant = λ h below unused mine other. r.vacant h below unused (λ old. mine (hands h old)) other;
        driver_knows = knows;
        device_knows = r.device_knows;
        matched = r.matched;
        lent_once = r.lent_once;
        seated = seated_driver wanted queue n s.views d (record d { looks = looks; seen = seen; stage = stage }) v (prefix_self d.published) r.seated;
      })

  newer : (ws : List ℕ) (d : DriverView) (v : DeviceView) (going : List Answer) (found : ℕ) → v.completed ≡ d.reaped ++ going → found ≡ length v.completed % 65536
      → DriverKnows wanted queue n ws d.published d.outs going (cond (eqb found (length d.reaped % 65536)) driver.Resting driver.Newer)
  newer ws d v [] found back is = (let all : v.completed ≡ d.reaped = back ∙ append-nil d.reaped in let same : found ≡ length d.reaped % 65536 = is ∙ ap (λ (es : List Answer). length es % 65536) all in rw (eq-eqb found (length d.reaped % 65536) same) tt)
  newer ws d v (a ∷ going) found back is = go (eqb found (length d.reaped % 65536))
    where
      go : (b : Bool) → DriverKnows wanted queue n ws d.published d.outs (a ∷ going) (cond b driver.Resting driver.Newer)
      go true = tt
      go false = omega arith

  -- The used index is loaded.
  pub looks_at_used : (slots id : ℕ) (d : DriverView)
      → Allows (Ring wanted queue n) slots id (Driver (staged d driver.Resting), []) 1 (λ k. k) (λ found me. me ≡ (Driver (looked_by_driver d found), []))
  looks_at_used slots id d = λ s ring many at bound.
      let w = at_driver wanted queue n s id (staged d driver.Resting) ring at in
      let found = get_or s.words 1 0 in
      let stage = cond (eqb found (length d.reaped % 65536)) driver.Resting driver.Newer in
      let next = moves s (staged d driver.Resting) w.device (d.looks + 1) found stage w.coming w.going 1 w.ring (λ h no. absurd no) (newer s.words d w.device w.going found w.ring.back w.ring.used) in
      (Driver (looked_by_driver d found), keeps, tt, rw w.id_is (inr (looked_by_driver d found, w.device, w.coming, w.going, next)), refl)

  takes_back : (s : State (Option (CargoData P)) View) (id : ℕ) (d : DriverView) (v : DeviceView) (coming : List Entry) (going : List Answer)
      → id ≡ 0 → IsRing wanted queue n s (staged d driver.Newer) v coming going
      → (w : View) × (a : Act (Option (CargoData P))) × Valid s.homes [] a × Ring wanted queue n (stepped s (used_place n (length d.reaped % n)) (get_or s.words (used_place n (length d.reaped % n)) 0) id [] w a)
      × IsReaped wanted n d (get_or s.words (used_place n (length d.reaped % n)) 0) (w, carried_after [] a)
  takes_back s id d v coming [] id_is r = absurd (omega (arith, r.driver_knows))
  takes_back s id d v coming (a ∷ going) id_is r =
      let e = a.entry in
      let h = head_of e in
      let i = used_place n (length d.reaped % n) in
      let cargo = r.lie.0.0 in
      let shared = r.shared (uses_in h) in
      let once = r.once h in
      let here : 1 ≤ times h e.places = head_in_places h e r.go_heads.0 refl in
      let self : head_in h e ≡ 1 = rw (eq-eqb h h refl) refl in
      let no_come : heads h coming ≡ 0 = (let few = heads_uses h coming r.come_heads in omega (arith, few, shared, once, here)) in
      let no_held : heads h v.held ≡ 0 = (let few = heads_uses h v.held r.held_heads in omega (arith, few, shared, once, here)) in
      let no_go : heads h (entries going) ≡ 0 = (let few = heads_uses h (entries going) r.go_heads.1 in omega (arith, few, shared, once, here)) in
      let small : h < n = r.below h (omega (arith, shared, here)) in
      let head_once : heads h d.outs ≡ 1 = (let all = r.shared (head_in h) in omega (arith, all, self, no_come, no_held, no_go)) in
      let cut : (f : Entry → ℕ) → weigh f d.outs ≡ weigh f (without h d.outs) + f e = λ f.
      (let all = weigh_without f h d.outs head_once in
      let only = r.shared (λ x. f x * head_in h x) in
      let a1 = weigh_away f h coming no_come in
      let a2 = weigh_away f h v.held no_held in
      let a3 = weigh_away f h (entries going) no_go in
      let product : f e * head_in h e ≡ f e = rw self (omega arith) in
      omega (arith, all, only, a1, a2, a3, product)) in
      let d' = reaped_after d a in
      let gone : uses h (without h d.outs) ≡ 0 = (let one = cut (uses_in h) in omega (arith, one, once, here)) in
      let next : IsRing wanted queue n (record { words = s.words; homes = set s.homes h none; views = set s.views 0 (Driver d') }) d' v coming going = record {
        words = r.words;
        homes = length-set s.homes h none ∙ r.homes;
        sent = r.sent;
        back = r.back ∙ sym (append_assoc d.reaped (a ∷ []) going);
        ordered = r.ordered;
        queued = r.queued;
        bounded = r.bounded;
        device_queue = r.device_queue;
        shared = λ f. (let old = r.shared f in let one = cut f in omega (arith, old, one));
        once = λ k. (let old = r.once k in let one = cut (uses_in k) in omega (arith, old, one));
        below = λ k is_there. r.below k (let one = cut (uses_in k) in omega (arith, one));
        room = (let one = cut places_in in let old = r.room in omega (arith, one, old));
        come_heads = r.come_heads;
        held_heads = r.held_heads;
        go_heads = r.go_heads.1;
        available = r.available;
        used = r.used;
        offers = r.offers;
        returns = subst (λ (k : ℕ). Returns n s.words k going) (let moved : suc (length d.reaped) ≡ length (d.reaped ++ a ∷ []) = omega (arith, length-append d.reaped (a ∷ [])) in moved) r.returns.1;
        come_stand = r.come_stand;
        held_stand = r.held_stand;
        go_stand = r.go_stand.1;
        wait = wait_kept wanted queue n s.homes h none coming no_come r.wait;
        lie = lie_kept wanted queue n s.homes h none going no_go r.lie.1;
        vacant = λ k below unused mine theirs. set_else s.homes h k none (λ same. mine (sym same)) ∙ r.vacant k below (let away : head_in k e ≡ 0 = rw (ne_eqb h k mine) refl in omega (arith, unused, away)) (λ no. no) theirs;
        driver_knows = gone;
        device_knows = r.device_knows;
        matched = r.matched;
        lent_once = r.lent_once;
        seated = seated_driver wanted queue n s.views (staged d driver.Newer) d' v (prefix_self d.published) r.seated;
      } in
      let back = subst (λ (ws : List ℕ). IsRing wanted queue n (record { words = ws; homes = set s.homes h none; views = set s.views 0 (Driver d') }) d' v coming going) (sym (set-get_or s.words i 0)) next in
      let fewer : length d.reaped < length d.published =
      (let ones = r.matched (λ _. 1) in
      let f1 = weigh-ones v.fetched in
      let f2 = weigh-ones (entries v.completed) in
      let f3 = length-entries v.completed in
      let sent : length d.published ≡ length v.fetched + length coming = ap length r.sent ∙ length-append v.fetched coming in
      let came_back : length v.completed ≡ length d.reaped + length (a ∷ going) = ap length r.back ∙ length-append d.reaped (a ∷ going) in
      omega (arith, ones, f1, f2, f3, sent, came_back)) in (
        Driver d',
        takes h (Some cargo),
        r.lie.0.1,
        rw id_is (inr (d', v, coming, going, back)),
        record {
          answer = a;
          cargo = cargo;
          after = refl;
          found_is = r.returns.0;
          small = small;
          done = r.lie.0.2;
          fewer = fewer;
          some_place = r.go_heads.0;
          outs = cut;
        },
      )

  -- The used element is loaded, and the slot of its head is taken.
  pub takes_answer : (slots id : ℕ) (d : DriverView)
      → Allows (Ring wanted queue n) slots id (Driver (staged d driver.Newer), []) (used_place n (length d.reaped % n)) (λ k. k) (IsReaped wanted n d)
  takes_answer slots id d = λ s ring many at bound.
      let w = at_driver wanted queue n s id (staged d driver.Newer) ring at in
      takes_back s id d w.device w.coming w.going w.id_is w.ring

  -- Another load, at which the empty slot goes home.
  pub settles_driver : (slots id i : ℕ) (d : DriverView) (a : Answer) → head_of a.entry < n
      → Allows (Ring wanted queue n) slots id (Driver (staged d (driver.Taken a)), (head_of a.entry, None) ∷ []) i (λ k. k) (λ found me. me ≡ (Driver (staged d driver.Resting), []))
  settles_driver slots id i d a small = λ s ring many at bound.
      let w = at_driver wanted queue n s id (staged d (driver.Taken a)) ring at in
      let r = w.ring in
      let h = head_of a.entry in
      let shared = r.shared (uses_in h) in
      let gone : uses h d.outs ≡ 0 = r.driver_knows in
      let no_come : heads h w.coming ≡ 0 = (let few = heads_uses h w.coming r.come_heads in omega (arith, few, shared, gone)) in
      let no_go : heads h (entries w.going) ≡ 0 = (let few = heads_uses h (entries w.going) r.go_heads in omega (arith, few, shared, gone)) in
      let next : IsRing wanted queue n (record { words = s.words; homes = set s.homes h (some None); views = set s.views 0 (Driver (staged d driver.Resting)) }) (staged d driver.Resting) w.device w.coming w.going = record {
        words = r.words;
        homes = length-set s.homes h (some None) ∙ r.homes;
        sent = r.sent;
        back = r.back;
        ordered = r.ordered;
        queued = r.queued;
        bounded = r.bounded;
        device_queue = r.device_queue;
        shared = r.shared;
        once = r.once;
        below = r.below;
        room = r.room;
        come_heads = r.come_heads;
        held_heads = r.held_heads;
        go_heads = r.go_heads;
        available = r.available;
        used = r.used;
        offers = r.offers;
        returns = r.returns;
        come_stand = r.come_stand;
        held_stand = r.held_stand;
        go_stand = r.go_stand;
        wait = wait_kept wanted queue n s.homes h (some None) w.coming no_come r.wait;
        lie = lie_kept wanted queue n s.homes h (some None) w.going no_go r.lie;
        vacant = λ k below unused mine theirs. elim (cases_eq k h) [
          | inl same ↦ rw same (set_here s.homes h (some None) (let all = r.homes in omega (arith, all, small)))
          | inr other ↦ set_else s.homes h k (some None) other ∙ r.vacant k below unused (λ same. other (sym same)) theirs
        ];
        driver_knows = tt;
        device_knows = r.device_knows;
        matched = r.matched;
        lent_once = r.lent_once;
        seated = seated_driver wanted queue n s.views (staged d (driver.Taken a)) (staged d driver.Resting) w.device (prefix_self d.published) r.seated;
      } in
      let back = subst (λ (ws : List ℕ). IsRing wanted queue n (record { words = ws; homes = set s.homes h (some None); views = set s.views 0 (Driver (staged d driver.Resting)) }) (staged d driver.Resting) w.device w.coming w.going) (sym (set-get_or s.words i 0)) next in
      (Driver (staged d driver.Resting), gives, tt, rw w.id_is (inr (staged d driver.Resting, w.device, w.coming, w.going, back)), refl)
