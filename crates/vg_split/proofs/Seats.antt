use Rattle.std.proofs.Common.{◌≡◌, ℕ, zero, suc, ◌<◌, Bool, Option, List, [], ◌∷◌, length, set, refl, sym, subst, inl, inr, ◌∙◌, arith}
use mathlib.Core.List.{IsPrefix}
use mathlib.Core.Option.{some, some-injective, some-ne-none}
use lib.ListN.{get_elem?}
use Rattle.atomic_table.specs.Table.{State}
use Rattle.atomic_table.proofs.Lists.{at_set, set_here, set_else}
use Rattle.vg_cargo.specs.declared.entries.Entry.{Entry}
use Rattle.vg_cargo.specs.declared.entries.Answer.{Answer}
use Rattle.vg_split.specs.declared.views.DriverView.{DriverView}
use Rattle.vg_split.specs.declared.views.DeviceView.{DeviceView}
use Rattle.vg_split.specs.declared.views.View.{View}
use Rattle.vg_split.specs.declared.views.View.TheVariants.{Start, Driver, Device, Right, Note, Spent}
use Rattle.vg_cargo.specs.Cargo.{CargoData}
use Rattle.vg_wire.specs.declared.request.Queue.{Queue}
use Rattle.vg_history.proofs.ListLemmas.{prefix_self, prefix_trans}
use Rattle.vg_split.specs.Rule.{IsGuest, AreSeated, IsRing, Ring}

-- some seat is there
pub within : {A : Type 0} (xs : List A) (i : ℕ) (a : A) → get_elem? xs i ≡ some a → i < length xs
within [] i a e = absurd (some-ne-none a (sym e))
within (x ∷ xs) zero a e = omega arith
within (x ∷ xs) (suc i) a e = let rest = within xs i a e in omega (arith, rest)

module _ {P : Type 0} (wanted : P → Bool) (queue : Queue) (n : ℕ) where
  new_start : (views : List View) (id : ℕ) (w : View) → views ≡ Start queue ∷ [] → get_elem? views id ≡ some w → w ≡ Start queue
  new_start views id w e at = go id (subst (λ (vs : List View). get_elem? vs id ≡ some w) e at)
    where
      go : (id : ℕ) → get_elem? (Start queue ∷ []) id ≡ some w → w ≡ Start queue
      go zero here = sym (some-injective (Start queue) w here)
      go (suc i) here = absurd (some-ne-none w (sym here))

  -- a seat with a driver's view is the driver's
  pub record IsAtDriver (s : State (Option (CargoData P)) View) (id : ℕ) (d : DriverView) : Type 0 where
    pub id_is : id ≡ 0
    pub device : DeviceView
    pub coming : List Entry
    pub going : List Answer
    pub ring : IsRing wanted queue n s d device coming going

  pub at_driver : (s : State (Option (CargoData P)) View) (id : ℕ) (d : DriverView) → Ring wanted queue n s → get_elem? s.views id ≡ some (Driver d) → IsAtDriver s id d
  at_driver s id d (inl fresh) at = (let same = new_start s.views id (Driver d) fresh.views at in absurd (cc))
  at_driver s zero d (inr r) at =
      let both : some (Driver r.0) ≡ some (Driver d) = sym r.4.seated.driver_at ∙ at in
      let same : r.0 ≡ d = cc in
      record { id_is = refl; device = r.1; coming = r.2; going = r.3; ring = subst (λ (z : DriverView). IsRing wanted queue n s z r.1 r.2 r.3) same r.4 }
  at_driver s (suc zero) d (inr r) at = (let both : some (Device r.1) ≡ some (Driver d) = sym r.4.seated.device_at ∙ at in absurd (cc))
  at_driver s (suc (suc i)) d (inr r) at = absurd (r.4.seated.guests (suc (suc i)) (Driver d) (omega arith) at)

  -- more was published and completed
  guest_grown : (published more : List Entry) (completed done : List Answer) (lent : List Entry) (w : View) → IsPrefix published more → IsPrefix completed done → IsGuest wanted queue n published completed lent w → IsGuest wanted queue n more done lent w
  guest_grown published more completed done lent (Start q) up back guest = guest
  guest_grown published more completed done lent (Driver d) up back guest = guest
  guest_grown published more completed done lent (Device v) up back guest = guest
  guest_grown published more completed done lent (Right e) up back guest = guest
  guest_grown published more completed done lent (Note fetched reaped) up back guest = (prefix_trans fetched published more guest.0 up, prefix_trans reaped completed done guest.1 back)
  guest_grown published more completed done lent Spent up back guest = guest

  -- the driver's seat has another view, and no fewer were published
  pub seated_driver : (views : List View) (d d' : DriverView) (v : DeviceView) → IsPrefix d.published d'.published → AreSeated wanted queue n views d v → AreSeated wanted queue n (set views 0 (Driver d')) d' v
  seated_driver views d d' v up seated = record {
    driver_at = set_here views 0 (Driver d') (within views 0 (Driver d) seated.driver_at);
    device_at = set_else views 0 1 (Driver d') (λ e. omega arith) ∙ seated.device_at;
    guests = λ i w late at. guest_grown d.published d'.published v.completed v.completed v.lent w up (prefix_self v.completed) (seated.guests i w late (sym (set_else views 0 i (Driver d') (λ e. omega arith)) ∙ at));
    apart = λ i j e f at at' same. seated.apart i j e f (moved i e at) (moved j f at') same;
  }
    where
      moved : (i : ℕ) (e : Entry) → get_elem? (set views 0 (Driver d')) i ≡ some (Right e) → get_elem? views i ≡ some (Right e)
      moved i e at = elim (at_set views 0 i (Driver d') (Right e) at) [ inl w ↦ absurd (cc) | inr w ↦ w.1 ]

  -- a seat with a device's view is the device's
  pub record IsAtDevice (s : State (Option (CargoData P)) View) (id : ℕ) (v : DeviceView) : Type 0 where
    pub id_is : id ≡ 1
    pub driver : DriverView
    pub coming : List Entry
    pub going : List Answer
    pub ring : IsRing wanted queue n s driver v coming going

  pub at_device : (s : State (Option (CargoData P)) View) (id : ℕ) (v : DeviceView) → Ring wanted queue n s → get_elem? s.views id ≡ some (Device v) → IsAtDevice s id v
  at_device s id v (inl fresh) at = (let same = new_start s.views id (Device v) fresh.views at in absurd (cc))
  at_device s zero v (inr r) at = (let both : some (Driver r.0) ≡ some (Device v) = sym r.4.seated.driver_at ∙ at in absurd (cc))
  at_device s (suc zero) v (inr r) at =
      let both : some (Device r.1) ≡ some (Device v) = sym r.4.seated.device_at ∙ at in
      let same : r.1 ≡ v = cc in
      record { id_is = refl; driver = r.0; coming = r.2; going = r.3; ring = subst (λ (z : DeviceView). IsRing wanted queue n s r.0 z r.2 r.3) same r.4 }
  at_device s (suc (suc i)) v (inr r) at = absurd (r.4.seated.guests (suc (suc i)) (Device v) (omega arith) at)

  -- the device's seat has another view, with the same rights outside, and no fewer were completed
  pub seated_device : (views : List View) (d : DriverView) (v v' : DeviceView) → v'.lent ≡ v.lent → IsPrefix v.completed v'.completed → AreSeated wanted queue n views d v → AreSeated wanted queue n (set views 1 (Device v')) d v'
  seated_device views d v v' lent back seated = record {
    driver_at = set_else views 1 0 (Device v') (λ e. omega arith) ∙ seated.driver_at;
    device_at = set_here views 1 (Device v') (within views 1 (Device v) seated.device_at);
    guests = λ i w late at. subst (λ (es : List Entry). IsGuest wanted queue n d.published v'.completed es w) (sym lent) (guest_grown d.published d.published v.completed v'.completed v.lent w (prefix_self d.published) back (seated.guests i w late (sym (set_else views 1 i (Device v') (λ e. omega arith)) ∙ at)));
    apart = λ i j e f at at' same. seated.apart i j e f (moved i e at) (moved j f at') same;
  }
    where
      moved : (i : ℕ) (e : Entry) → get_elem? (set views 1 (Device v')) i ≡ some (Right e) → get_elem? views i ≡ some (Right e)
      moved i e at = elim (at_set views 1 i (Device v') (Right e) at) [ inl w ↦ absurd (cc) | inr w ↦ w.1 ]
