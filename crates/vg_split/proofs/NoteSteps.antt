-- An end takes in a note of what the other one has, and is told that it has come from itself.
use Rattle.std.proofs.Common.{◌≡◌, ℕ, zero, suc, ◌<◌, Bool, Option, List, [], ◌∷◌, ◌++◌, set, refl, sym, ap, subst, inl, inr, ◌∙◌, arith}
use mathlib.Core.List.{IsPrefix}
use mathlib.Core.Option.{some}
use lib.ListN.{get_elem?}
use Rattle.atomic_table.proofs.Lists.{at_set, at_longer, set_else}
use Rattle.atomic_table.specs.Table.{State, Allows, Splits, Joins, Me}
use Rattle.atomic_table.specs.Table.Act.{keeps}
use Rattle.vg_history.proofs.ListLemmas.{prefix_self, prefix_none}
use Rattle.vg_wire.specs.declared.request.Queue.{Queue}
use Rattle.vg_cargo.specs.declared.entries.Entry.{Entry}
use Rattle.vg_cargo.specs.declared.entries.Answer.{Answer}
use Rattle.vg_split.specs.declared.views.DriverStage.{DriverStage}
use Rattle.vg_split.specs.declared.views.DriverStage.TheVariants as driver
use Rattle.vg_split.specs.declared.views.DeviceStage.{DeviceStage}
use Rattle.vg_split.specs.declared.views.DeviceStage.TheVariants as device
use Rattle.vg_split.specs.declared.views.DriverView.{DriverView}
use Rattle.vg_split.specs.declared.views.DeviceView.{DeviceView}
use Rattle.vg_split.specs.declared.views.View.{View}
use Rattle.vg_split.specs.declared.views.View.TheVariants.{Driver, Device, Right, Note, Spent}
use Rattle.vg_cargo.specs.Cargo.{CargoData}
use Rattle.vg_split.specs.Rule.{IsGuest, AreSeated, IsRing, Ring, DriverKnows, DeviceKnows, driver_hand, device_hand, staged, set_stage}
use Rattle.vg_split.specs.Plays.{driver_of, device_of, rested, noted_by_driver, noted_by_device, fetched_noted, reaped_noted}
use Rattle.vg_split.proofs.Seats.{at_driver, at_device, seated_driver, seated_device}
use Rattle.vg_split.proofs.DriverSteps as drivers
use Rattle.vg_split.proofs.DeviceSteps as devices
use Rattle.vg_split.proofs.RightSteps.{snoc_cases}
use Rattle.vg_split.proofs.Told.{allows_as}

module _ {P : Type 0} (wanted : P → Bool) (queue : Queue) (n : ℕ) where
  abbrev My : Type 0
  My = Me (Option (CargoData P)) View

  -- the seats change, and with them what the ends are about to do
  restaged : (s : State (Option (CargoData P)) View) (d : DriverView) (a : DriverStage) (v : DeviceView) (b : DeviceStage) (coming : List Entry) (going : List Answer) (views : List View)
      → IsRing wanted queue n s d v coming going
      → ((h : ℕ) → driver_hand wanted queue n d.stage h → driver_hand wanted queue n a h)
      → ((h : ℕ) → device_hand wanted queue n v.stage h → device_hand wanted queue n b h)
      → DriverKnows wanted queue n s.words d.published d.outs going a
      → DeviceKnows wanted queue n s.words coming v.completed v.held v.lent b
      → AreSeated wanted queue n views (staged d a) (set_stage v b)
      → IsRing wanted queue n (record { words = s.words; homes = s.homes; views = views }) (staged d a) (set_stage v b) coming going
  restaged s d a v b coming going views r hands hands' knows knows' seated = record {
    words = r.words;
    homes = r.homes;
    sent = r.sent;
    back = r.back;
    ordered = r.ordered;
    queued = r.queued;
    bounded = r.bounded;
    device_queue = r.device_queue;
    shared = r.shared;
    once = r.once;
    below = r.below;
    room = r.room;
    come_heads = r.come_heads;
    held_heads = r.held_heads;
    go_heads = r.go_heads;
    available = r.available;
    used = r.used;
    offers = r.offers;
    returns = r.returns;
    come_stand = r.come_stand;
    held_stand = r.held_stand;
    go_stand = r.go_stand;
    wait = r.wait;
    lie = r.lie;
    vacant = λ h below unused mine other. r.vacant h below unused (λ old. mine (hands h old)) (λ old. other (hands' h old));
    driver_knows = knows;
    device_knows = knows';
    matched = r.matched;
    lent_once = r.lent_once;
    seated = seated;
  }

  -- a seat with a note is added
  seated_note : (views : List View) (d : DriverView) (v : DeviceView) (fetched : List Entry) (reaped : List Answer) → IsPrefix fetched d.published → IsPrefix reaped v.completed
      → AreSeated wanted queue n views d v → AreSeated wanted queue n (views ++ Note fetched reaped ∷ []) d v
  seated_note views d v fetched reaped up back seated = record {
    driver_at = at_longer views (Note fetched reaped ∷ []) 0 (Driver d) seated.driver_at;
    device_at = at_longer views (Note fetched reaped ∷ []) 1 (Device v) seated.device_at;
    guests = λ i w late at. elim (snoc_cases views (Note fetched reaped) i w at) [
      | inl old ↦ seated.guests i w late old
      | inr new ↦ subst (λ (z : View). IsGuest wanted queue n d.published v.completed v.lent z) new.1 (up, back)
    ];
    apart = λ i j e f at at' same. seated.apart i j e f (still i e at) (still j f at') same;
  }
    where
      still : (i : ℕ) (e : Entry) → get_elem? (views ++ Note fetched reaped ∷ []) i ≡ some (Right e) → get_elem? views i ≡ some (Right e)
      still i e at = elim (snoc_cases views (Note fetched reaped) i (Right e) at) [ inl old ↦ old | inr new ↦ (let both : Note fetched reaped ≡ Right e = new.1 in absurd (cc)) ]

  -- where the seat with a note is, and what is known of it
  noted_at : (views : List View) (d : DriverView) (v : DeviceView) (i : ℕ) (fetched : List Entry) (reaped : List Answer) → AreSeated wanted queue n views d v → get_elem? views i ≡ some (Note fetched reaped)
      → (1 < i) × IsPrefix fetched d.published × IsPrefix reaped v.completed
  noted_at views d v zero fetched reaped seated at = (let both : some (Driver d) ≡ some (Note fetched reaped) = sym seated.driver_at ∙ at in absurd (cc))
  noted_at views d v (suc zero) fetched reaped seated at = (let both : some (Device v) ≡ some (Note fetched reaped) = sym seated.device_at ∙ at in absurd (cc))
  noted_at views d v (suc (suc i)) fetched reaped seated at = (let guest = seated.guests (suc (suc i)) (Note fetched reaped) (omega arith) at in (omega arith, guest.0, guest.1))

  -- that seat is spent
  seated_spent : (views : List View) (d : DriverView) (v : DeviceView) (other : ℕ) → 1 < other → AreSeated wanted queue n views d v → AreSeated wanted queue n (set views other Spent) d v
  seated_spent views d v other late seated = record {
    driver_at = set_else views other 0 Spent (λ same. omega arith) ∙ seated.driver_at;
    device_at = set_else views other 1 Spent (λ same. omega arith) ∙ seated.device_at;
    guests = λ i w past at. elim (at_set views other i Spent w at) [
      | inl same ↦ subst (λ (z : View). IsGuest wanted queue n d.published v.completed v.lent z) same.1 tt
      | inr else_there ↦ seated.guests i w past else_there.1
    ];
    apart = λ i j e f at at' same. seated.apart i j e f (still i e at) (still j f at') same;
  }
    where
      still : (i : ℕ) (e : Entry) → get_elem? (set views other Spent) i ≡ some (Right e) → get_elem? views i ≡ some (Right e)
      still i e at = elim (at_set views other i Spent (Right e) at) [ inl same ↦ (let both : Spent ≡ Right e = same.1 in absurd (cc)) | inr else_there ↦ else_there.1 ]

  -- The device's end writes a note.
  notes_fetched : (id : ℕ) (v : DeviceView) → Splits (Ring wanted queue n) id (Device (set_stage v device.Resting)) (Device (set_stage v device.Resting)) (Note v.fetched [])
  notes_fetched id v = λ s ring at.
      let v' : DeviceView = set_stage v device.Resting in
      let w = at_device wanted queue n s id v' ring at in
      let seated = seated_note (set s.views 1 (Device v')) w.driver v' v.fetched [] (w.coming, sym w.ring.sent) (prefix_none v.completed) (seated_device wanted queue n s.views w.driver v' v' refl (prefix_self v.completed) w.ring.seated) in
      let next = restaged s w.driver w.driver.stage v' device.Resting w.coming w.going (set s.views 1 (Device v') ++ Note v.fetched [] ∷ []) w.ring (λ h is. is) (λ h no. no) w.ring.driver_knows tt seated in
      rw w.id_is (inr (w.driver, v', w.coming, w.going, next))

  -- The driver's end takes it in.
  takes_fetched : (id other : ℕ) (d : DriverView) (fetched : List Entry) (reaped : List Answer) → Joins (Ring wanted queue n) id (Driver (staged d driver.Resting)) other (Note fetched reaped) (Driver (staged d (driver.Noted fetched))) Spent
  takes_fetched id other d fetched reaped = λ s ring at apart at'.
      let d' : DriverView = staged d (driver.Noted fetched) in
      let w = at_driver wanted queue n s id (staged d driver.Resting) ring at in
      let there : get_elem? (set s.views 0 (Driver d')) other ≡ some (Note fetched reaped) = subst (λ (k : ℕ). get_elem? (set s.views k (Driver d')) other ≡ some (Note fetched reaped)) w.id_is at' in
      let seated = seated_driver wanted queue n s.views (staged d driver.Resting) d' w.device (prefix_self d.published) w.ring.seated in
      let noted = noted_at (set s.views 0 (Driver d')) d' w.device other fetched reaped seated there in
      let next = restaged s (staged d driver.Resting) (driver.Noted fetched) w.device w.device.stage w.coming w.going (set (set s.views 0 (Driver d')) other Spent) w.ring (λ h no. no) (λ h is. is) noted.1 w.ring.device_knows (seated_spent (set s.views 0 (Driver d')) d' w.device other noted.0 seated) in
      rw w.id_is (inr (d', w.device, w.coming, w.going, next))

  -- A load tells it what was published.
  tells_fetched : (slots id i : ℕ) (d : DriverView) (fetched : List Entry)
      → Allows (Ring wanted queue n) slots id (Driver (staged d (driver.Noted fetched)), []) i (λ k. k) (λ found me. (me ≡ (Driver (staged d driver.Resting), [])) × IsPrefix fetched d.published)
  tells_fetched slots id i d fetched = λ s ring many at bound.
      let w = at_driver wanted queue n s id (staged d (driver.Noted fetched)) ring at in
      let next = drivers.moves wanted queue n s (staged d (driver.Noted fetched)) w.device d.looks d.seen driver.Resting w.coming w.going i w.ring (λ h no. no) tt in
      (Driver (staged d driver.Resting), keeps, tt, rw w.id_is (inr (staged d driver.Resting, w.device, w.coming, w.going, next)), (refl, w.ring.driver_knows))

  -- The driver's end writes a note, the device's end takes it in, and a load tells it what was completed.
  notes_reaped : (id : ℕ) (d : DriverView) → Splits (Ring wanted queue n) id (Driver (staged d driver.Resting)) (Driver (staged d driver.Resting)) (Note [] d.reaped)
  notes_reaped id d = λ s ring at.
      let d' : DriverView = staged d driver.Resting in
      let w = at_driver wanted queue n s id d' ring at in
      let seated = seated_note (set s.views 0 (Driver d')) d' w.device [] d.reaped (prefix_none d.published) (w.going, sym w.ring.back) (seated_driver wanted queue n s.views d' d' w.device (prefix_self d.published) w.ring.seated) in
      let next = restaged s d' driver.Resting w.device w.device.stage w.coming w.going (set s.views 0 (Driver d') ++ Note [] d.reaped ∷ []) w.ring (λ h no. no) (λ h is. is) tt w.ring.device_knows seated in
      rw w.id_is (inr (d', w.device, w.coming, w.going, next))

  takes_reaped : (id other : ℕ) (v : DeviceView) (fetched : List Entry) (reaped : List Answer) → Joins (Ring wanted queue n) id (Device (set_stage v device.Resting)) other (Note fetched reaped) (Device (set_stage v (device.Noted reaped))) Spent
  takes_reaped id other v fetched reaped = λ s ring at apart at'.
      let v' : DeviceView = set_stage v (device.Noted reaped) in
      let w = at_device wanted queue n s id (set_stage v device.Resting) ring at in
      let there : get_elem? (set s.views 1 (Device v')) other ≡ some (Note fetched reaped) = subst (λ (k : ℕ). get_elem? (set s.views k (Device v')) other ≡ some (Note fetched reaped)) w.id_is at' in
      let seated = seated_device wanted queue n s.views w.driver (set_stage v device.Resting) v' refl (prefix_self v.completed) w.ring.seated in
      let noted = noted_at (set s.views 1 (Device v')) w.driver v' other fetched reaped seated there in
      let next = restaged s w.driver w.driver.stage (set_stage v device.Resting) (device.Noted reaped) w.coming w.going (set (set s.views 1 (Device v')) other Spent) w.ring (λ h is. is) (λ h no. no) w.ring.driver_knows noted.2 (seated_spent (set s.views 1 (Device v')) w.driver v' other noted.0 seated) in
      rw w.id_is (inr (w.driver, v', w.coming, w.going, next))

  tells_reaped : (slots id i : ℕ) (v : DeviceView) (reaped : List Answer)
      → Allows (Ring wanted queue n) slots id (Device (set_stage v (device.Noted reaped)), []) i (λ k. k) (λ found me. (me ≡ (Device (set_stage v device.Resting), [])) × IsPrefix reaped v.completed)
  tells_reaped slots id i v reaped = λ s ring many at bound.
      let w = at_device wanted queue n s id (set_stage v (device.Noted reaped)) ring at in
      let next = devices.moves wanted queue n s w.driver (set_stage v (device.Noted reaped)) v.looks v.seen device.Resting w.coming w.going i w.ring (λ h no. no) tt in
      (Device (set_stage v device.Resting), keeps, tt, rw w.id_is (inr (w.driver, set_stage v device.Resting, w.coming, w.going, next)), (refl, w.ring.device_knows))

  -- The same at a seat that is known by an equation.
  pub note_fetched_step : (id : ℕ) (me : My) (v : DeviceView) → me ≡ (Device (set_stage v device.Resting), []) → Splits (Ring wanted queue n) id me.0 me.0 (Note (device_of me.0).fetched [])
  note_fetched_step id me v e = subst (λ (w : View). Splits (Ring wanted queue n) id w w (Note (device_of w).fetched [])) (sym (ap {B = View} (λ (m : My). m.0) e)) (notes_fetched id v)

  pub note_reaped_step : (id : ℕ) (me : My) (d : DriverView) → me ≡ (Driver (staged d driver.Resting), []) → Splits (Ring wanted queue n) id me.0 me.0 (Note [] (driver_of me.0).reaped)
  note_reaped_step id me d e = subst (λ (w : View). Splits (Ring wanted queue n) id w w (Note [] (driver_of w).reaped)) (sym (ap {B = View} (λ (m : My). m.0) e)) (notes_reaped id d)

  pub take_fetched_step : (id other : ℕ) (me note : My) (d : DriverView) (fetched : List Entry) (reaped : List Answer) → me ≡ (Driver (staged d driver.Resting), []) → note ≡ (Note fetched reaped, [])
      → Joins (Ring wanted queue n) id me.0 other note.0 (noted_by_driver me.0 note.0) Spent
  take_fetched_step id other me note d fetched reaped e e' =
      subst (λ (w : View). Joins (Ring wanted queue n) id w other note.0 (noted_by_driver w note.0) Spent) (sym (ap {B = View} (λ (m : My). m.0) e))
      (subst (λ (w : View). Joins (Ring wanted queue n) id (Driver (staged d driver.Resting)) other w (noted_by_driver (Driver (staged d driver.Resting)) w) Spent) (sym (ap {B = View} (λ (m : My). m.0) e')) (takes_fetched id other d fetched reaped))

  pub take_reaped_step : (id other : ℕ) (me note : My) (v : DeviceView) (fetched : List Entry) (reaped : List Answer) → me ≡ (Device (set_stage v device.Resting), []) → note ≡ (Note fetched reaped, [])
      → Joins (Ring wanted queue n) id me.0 other note.0 (noted_by_device me.0 note.0) Spent
  take_reaped_step id other me note v fetched reaped e e' =
      subst (λ (w : View). Joins (Ring wanted queue n) id w other note.0 (noted_by_device w note.0) Spent) (sym (ap {B = View} (λ (m : My). m.0) e))
      (subst (λ (w : View). Joins (Ring wanted queue n) id (Device (set_stage v device.Resting)) other w (noted_by_device (Device (set_stage v device.Resting)) w) Spent) (sym (ap {B = View} (λ (m : My). m.0) e')) (takes_reaped id other v fetched reaped))

  pub tell_fetched_step : (slots id i : ℕ) (me : My) (d : DriverView) (fetched : List Entry) → me ≡ (Driver (staged d (driver.Noted fetched)), [])
      → Allows (Ring wanted queue n) slots id me i (λ k. k) (λ found after. (after ≡ (rested me.0, [])) × IsPrefix (fetched_noted (driver_of me.0).stage) (driver_of me.0).published)
  tell_fetched_step slots id i me d fetched e =
      allows_as (Ring wanted queue n) slots id me (Driver (staged d (driver.Noted fetched)), []) i i (λ k. k) (λ found after. (after ≡ (Driver (staged d driver.Resting), [])) × IsPrefix fetched d.published) (λ found after. (after ≡ (rested me.0, [])) × IsPrefix (fetched_noted (driver_of me.0).stage) (driver_of me.0).published)
      e refl (tells_fetched slots id i d fetched)
      (λ r m told. (told.0 ∙ sym (ap {B = My} (λ (m : My). (rested m.0, [])) e), subst (λ (w : View). IsPrefix (fetched_noted (driver_of w).stage) (driver_of w).published) (sym (ap {B = View} (λ (m : My). m.0) e)) told.1))

  pub tell_reaped_step : (slots id i : ℕ) (me : My) (v : DeviceView) (reaped : List Answer) → me ≡ (Device (set_stage v (device.Noted reaped)), [])
      → Allows (Ring wanted queue n) slots id me i (λ k. k) (λ found after. (after ≡ (rested me.0, [])) × IsPrefix (reaped_noted (device_of me.0).stage) (device_of me.0).completed)
  tell_reaped_step slots id i me v reaped e =
      allows_as (Ring wanted queue n) slots id me (Device (set_stage v (device.Noted reaped)), []) i i (λ k. k) (λ found after. (after ≡ (Device (set_stage v device.Resting), [])) × IsPrefix reaped v.completed) (λ found after. (after ≡ (rested me.0, [])) × IsPrefix (reaped_noted (device_of me.0).stage) (device_of me.0).completed)
      e refl (tells_reaped slots id i v reaped)
      (λ r m told. (told.0 ∙ sym (ap {B = My} (λ (m : My). (rested m.0, [])) e), subst (λ (w : View). IsPrefix (reaped_noted (device_of w).stage) (device_of w).completed) (sym (ap {B = View} (λ (m : My). m.0) e)) told.1))
