use Rattle.std.proofs.Common.{◌≡◌, ℕ, ◌+◌, ◌*◌, ◌%◌, ◌<◌, ◌≤◌, Bool, List, [], ◌∷◌, ◌++◌, length, refl, sym, ap, subst, ◌∙◌, arith}
use Rattle.std.specs.Prelude.{Option, Some, None, slice_index}
use Rattle.std.proofs.lemmas.List.{length-map}
use Rattle.atomic_table.specs.Table.{State, Allows, Me, rest}
use Rattle.vg_chain.specs.Made.{IsNeeded}
use Rattle.vg_split.specs.declared.views.Stored.{Stored}
use Rattle.vg_split.specs.declared.views.DriverStage.TheVariants as driver
use Rattle.vg_split.specs.declared.views.DriverView.{DriverView}
use Rattle.vg_split.specs.declared.views.View.{View}
use Rattle.vg_split.specs.declared.views.View.TheVariants.{Driver}
use Rattle.vg_cargo.specs.Cargo.{CargoData}
use Rattle.vg_wire.specs.declared.request.Queue.{Queue}
use Rattle.vg_cargo.specs.declared.entries.Entry.{Entry}
use Rattle.vg_cargo.specs.declared.entries.Answer.{Answer}
use Rattle.vg_split.specs.Words.{addr_place, rest_place, available_place, used_place, used_word}
use Rattle.vg_cargo.specs.Entries.{head_of, times, uses, spread, published_as}
use Rattle.vg_split.specs.Rule.{Ring, staged, place_of, places_of, published_after, looked_by_driver}
use Rattle.vg_split.specs.Plays.{driver_of, laid, place_at, with_half, with_rest, offered, sent_with, rested}
use Rattle.vg_split.specs.Tells.{IsOffer, IsReaped}
use Rattle.vg_split.proofs.DriverSteps.{stores_first, stores_address, stores_rest, offers_element, publishes, looks_at_used, takes_answer, settles_driver}

-- a step at a seat that is known by an equation, and which tells something else
pub allows_as : {S V : Type 0} (holds : State S V → Type 0) (slots id : ℕ) (me me' : Me S V) (i i' : ℕ) (f : ℕ → ℕ) (then then' : ℕ → Me S V → Type 0)
    → me ≡ me' → i ≡ i' → Allows holds slots id me' i' f then → ((r : ℕ) (m : Me S V) → then r m → then' r m) → Allows holds slots id me i f then'
allows_as holds slots id me me' i i' f then then' e e' allows tells =
    subst (λ (j : ℕ). Allows holds slots id me j f then') (sym e')
    (subst (λ (m : Me _ _). Allows holds slots id m i' f then') (sym e)
    (λ s ring many at bound. (let step = allows s ring many at bound in (step.0, step.1, step.2, step.3, tells _ _ step.4))))

-- what a seat has after an exchange of the one slot that it holds
pub exchanged : {S V : Type 0} (old now : Me S V) (view : V) (k at : ℕ) (was new : S) → ◌≡◌ {A = Me S V} old (view, (k, was) ∷ []) → ◌≡◌ {A = Me S V} now (old.0, (at, new) ∷ rest old.1) → ◌≡◌ {A = Me S V} now (view, (at, new) ∷ [])
exchanged old now view k at was new e is = is ∙ ap {B = Me _ _} (λ (m : Me _ _). (m.0, (at, new) ∷ rest m.1)) e

-- the same of a ring whose size is known by an equation
pub allows_size : {P : Type 0} (wanted : P → Bool) (queue : Queue) (k n slots id : ℕ) (me : Me (Option (CargoData P)) View) (i : ℕ) (f : ℕ → ℕ) (then : ℕ → Me (Option (CargoData P)) View → Type 0) → k ≡ n
    → Allows (Ring wanted queue n) slots id me i f then → Allows (Ring wanted queue k) slots id me i f then
allows_size wanted queue k n slots id me i f then e allows = subst (λ (m : ℕ). Allows (Ring wanted queue m) slots id me i f then) (sym e) allows

pub holds_one : {S V : Type 0} (me : Me S V) (view : V) (k at : ℕ) (x : S) → ◌≡◌ {A = Me S V} me (view, (k, x) ∷ []) → at ≡ k → ◌≡◌ {A = List (ℕ × S)} me.1 ((at, x) ∷ rest me.1)
holds_one me view k at x e is =
    let one = ap {B = List (ℕ × _)} (λ (m : Me _ _). m.1) e in
    one ∙ (ap {B = List (ℕ × _)} (λ (a : ℕ). (a, x) ∷ []) (sym is) ∙ ap {B = List (ℕ × _)} (λ (zs : List (ℕ × _)). (at, x) ∷ rest zs) (sym one))

-- the head and the length of a used element that was loaded
pub head_found : {P : Type 0} (wanted : P → Bool) (n : ℕ) (d : DriverView) (found : ℕ) (me : Me (Option (CargoData P)) View) (t : IsReaped wanted n d found me) (head len : ℕ) → used_word head len ≡ found → head < 65536 → n < 65536
    → (head ≡ head_of t.answer.entry) × (len ≡ t.answer.len)
head_found wanted n d found me t head len same small few =
    let is = same ∙ t.found_is in
    let less = t.small in
    (omega (arith, is, less, small, few), omega (arith, is, less, small, few))

module _ {P : Type 0} (wanted : P → Bool) (queue : Queue) (n : ℕ) where
  told_half : (me : Me (Option (CargoData P)) View) (d : DriverView) (stored : List Stored) (p a : ℕ) → me ≡ (Driver (staged d (laid stored)), []) → ◌≡◌ {A = Me (Option (CargoData P)) View} (with_half me.0 (2 + 2 * p) a, me.1) (Driver (staged d (driver.Half stored p a)), [])
  told_half me d [] p a e =
      let place : place_at (2 + 2 * p) ≡ p = omega arith in
      ap {B = Me (Option (CargoData P)) View} (λ (m : Me (Option (CargoData P)) View). (with_half m.0 (2 + 2 * p) a, m.1)) e ∙ ap {B = Me (Option (CargoData P)) View} (λ (q : ℕ). (Driver (staged d (driver.Half [] q a)), [])) place
  told_half me d (s ∷ more) p a e =
      let place : place_at (2 + 2 * p) ≡ p = omega arith in
      ap {B = Me (Option (CargoData P)) View} (λ (m : Me (Option (CargoData P)) View). (with_half m.0 (2 + 2 * p) a, m.1)) e ∙ ap {B = Me (Option (CargoData P)) View} (λ (q : ℕ). (Driver (staged d (driver.Half (s ∷ more) q a)), [])) place

  told_rest : (me : Me (Option (CargoData P)) View) (d : DriverView) (stored : List Stored) (p a x : ℕ) → me ≡ (Driver (staged d (driver.Half stored p a)), [])
      → ◌≡◌ {A = Me (Option (CargoData P)) View} (with_rest me.0 x, me.1) (Driver (staged d (driver.Writing (stored ++ record { place = p; addr = a; rest = x } ∷ []))), [])
  told_rest me d stored p a x e = ap {B = Me (Option (CargoData P)) View} (λ (m : Me (Option (CargoData P)) View). (with_rest m.0 x, m.1)) e

  pub address_step : (slots id : ℕ) (me : Me (Option (CargoData P)) View) (d : DriverView) (stored : List Stored) (p a : ℕ) → me ≡ (Driver (staged d (laid stored)), []) → p < n → uses p d.outs ≡ 0 → times p (places_of stored) ≡ 0
      → Allows (Ring wanted queue n) slots id me (2 + 2 * p) (λ _. a) (λ _ after. after ≡ (with_half me.0 (2 + 2 * p) a, me.1))
  address_step slots id me d [] p a e small free apart =
      allows_as (Ring wanted queue n) slots id me (Driver (staged d driver.Resting), []) (2 + 2 * p) (addr_place p) (λ _. a) (λ _ after. after ≡ (Driver (staged d (driver.Half [] p a)), [])) (λ _ after. after ≡ (with_half me.0 (2 + 2 * p) a, me.1))
      e refl (stores_first wanted queue n slots id d p a small free) (λ r m is. is ∙ sym (told_half me d [] p a e))
  address_step slots id me d (s ∷ more) p a e small free apart =
      allows_as (Ring wanted queue n) slots id me (Driver (staged d (driver.Writing (s ∷ more))), []) (2 + 2 * p) (addr_place p) (λ _. a) (λ _ after. after ≡ (Driver (staged d (driver.Half (s ∷ more) p a)), [])) (λ _ after. after ≡ (with_half me.0 (2 + 2 * p) a, me.1))
      e refl (stores_address wanted queue n slots id d (s ∷ more) p a small free apart) (λ r m is. is ∙ sym (told_half me d (s ∷ more) p a e))

  pub rest_step : (slots id : ℕ) (me : Me (Option (CargoData P)) View) (d : DriverView) (stored : List Stored) (p a x : ℕ) → me ≡ (Driver (staged d (driver.Half stored p a)), []) → p < n → uses p d.outs ≡ 0 → times p (places_of stored) ≡ 0
      → Allows (Ring wanted queue n) slots id me (2 + 2 * p + 1) (λ _. x) (λ _ after. after ≡ (with_rest me.0 x, me.1))
  rest_step slots id me d stored p a x e small free apart =
      allows_as (Ring wanted queue n) slots id me (Driver (staged d (driver.Half stored p a)), []) (2 + 2 * p + 1) (rest_place p) (λ _. x) (λ _ after. after ≡ (Driver (staged d (driver.Writing (stored ++ record { place = p; addr = a; rest = x } ∷ []))), [])) (λ _ after. after ≡ (with_rest me.0 x, me.1))
      e (omega arith) (stores_rest wanted queue n slots id d stored p a x small free apart) (λ r m is. is ∙ sym (told_rest me d stored p a x e))

  pub half_is : (me after : Me (Option (CargoData P)) View) (d : DriverView) (stored : List Stored) (p a : ℕ) → me ≡ (Driver (staged d (laid stored)), []) → after ≡ (with_half me.0 (2 + 2 * p) a, me.1) → after ≡ (Driver (staged d (driver.Half stored p a)), [])
  half_is me after d stored p a e is = is ∙ told_half me d stored p a e

  -- The available element of a cargo whose descriptors were stored.
  pub offer_step : (slots id : ℕ) (me : Me (Option (CargoData P)) View) (d : DriverView) (stored : List Stored) (i head : ℕ) → me ≡ (Driver (staged d (driver.Writing stored)), []) → i ≡ available_place n (length d.published % n)
      → 0 < length stored → slice_index (places_of stored) 0 ≡ head → spread d.outs + length stored ≤ n
      → Allows (Ring wanted queue n) slots id me i (λ _. head) (λ _ after. after ≡ (offered me.0, (head, None) ∷ me.1))
  offer_step slots id me d [] i head e place some is room = absurd (omega arith)
  offer_step slots id me d (first ∷ more) i head e place some is room =
      subst (λ (h : ℕ). Allows (Ring wanted queue n) slots id me i (λ _. h) (λ _ after. after ≡ (offered me.0, (h, None) ∷ me.1))) is
      (allows_as (Ring wanted queue n) slots id me (Driver (staged d (driver.Writing (first ∷ more))), []) i (available_place n (length d.published % n)) (λ _. first.place)
      (λ _ after. after ≡ (Driver (staged d (driver.Offered (first ∷ more))), (first.place, None) ∷ [])) (λ _ after. after ≡ (offered me.0, (first.place, None) ∷ me.1))
      e place (offers_element wanted queue n slots id d first more room)
      (λ r m told. told ∙ sym (ap {B = Me (Option (CargoData P)) View} (λ (m : Me (Option (CargoData P)) View). (offered m.0, (first.place, None) ∷ m.1)) e)))

  -- The available index of a cargo whose element was stored.
  pub publish_step : (slots id : ℕ) (me : Me (Option (CargoData P)) View) (d : DriverView) (stored : List Stored) (x head : ℕ) (cargo : CargoData P) → me ≡ (Driver (staged d (driver.Offered stored)), (head, Some cargo) ∷ [])
      → x ≡ (length d.published + 1) % 65536 → IsOffer wanted queue n d stored head cargo
      → Allows (Ring wanted queue n) slots id me 0 (λ _. x) (λ _ after. after ≡ (sent_with me.0 me.1, []))
  publish_step slots id me d [] x head cargo e count offer = absurd (let some = offer.some in omega (arith, some))
  publish_step slots id me d (first ∷ more) x head cargo e count offer =
      let e' : me ≡ (Driver (staged d (driver.Offered (first ∷ more))), (first.place, Some cargo) ∷ []) = e ∙ ap {B = Me (Option (CargoData P)) View} (λ (h : ℕ). (Driver (staged d (driver.Offered (first ∷ more))), (h, Some cargo) ∷ [])) (sym offer.first) in
      let entry : Entry = published_as (places_of (first ∷ more)) cargo in
      let long : (stored : List Stored) → length (places_of stored) ≡ length stored = λ stored. length-map stored place_of in
      let room : spread d.outs + length (places_of (first ∷ more)) ≤ n = (let same = long (first ∷ more) in let old = offer.room in omega (arith, same, old)) in
      subst (λ (y : ℕ). Allows (Ring wanted queue n) slots id me 0 (λ _. y) (λ _ after. after ≡ (sent_with me.0 me.1, []))) (sym count)
      (allows_as (Ring wanted queue n) slots id me (Driver (staged d (driver.Offered (first ∷ more))), (first.place, Some cargo) ∷ []) 0 0 (λ _. (length d.published + 1) % 65536)
      (λ _ after. after ≡ (Driver (published_after d entry), [])) (λ _ after. after ≡ (sent_with me.0 me.1, []))
      e' refl (publishes wanted queue n slots id d first more entry cargo offer.stored_is refl room (record { entry = refl; head_is = offer.head_is ∙ sym offer.first; wanted_is = offer.wanted_is; whole = record { count = offer.count; needed = subst (λ (m : ℕ). IsNeeded cargo.parcel.shape (length cargo.parcel.request) cargo.parcel.room m) (sym (long (first ∷ more))) offer.needed; back = offer.back } }) offer.ordinal offer.queue_is offer.few)
      (λ r m told. told ∙ sym (ap {B = Me (Option (CargoData P)) View} (λ (m : Me (Option (CargoData P)) View). (sent_with m.0 m.1, [])) e')))

  -- The used element.
  pub take_step : (slots id : ℕ) (me : Me (Option (CargoData P)) View) (d : DriverView) (i : ℕ) → me ≡ (Driver (staged d driver.Newer), []) → i ≡ used_place n (length d.reaped % n) → slots ≡ n
      → Allows (Ring wanted queue n) slots id me i (λ k. k) (λ found after. IsReaped wanted slots (driver_of me.0) found after)
  take_step slots id me d i e place count =
      let d' : DriverView = staged d driver.Newer in
      allows_as (Ring wanted queue n) slots id me (Driver (staged d' driver.Newer), []) i (used_place n (length d'.reaped % n)) (λ k. k) (IsReaped wanted n d') (λ found after. IsReaped wanted slots (driver_of me.0) found after)
      e place (takes_answer wanted queue n slots id d')
      (λ r m told. subst (λ (x : DriverView). IsReaped wanted slots x r m) (sym (ap {B = DriverView} (λ (m : Me (Option (CargoData P)) View). driver_of m.0) e)) (subst (λ (k : ℕ). IsReaped wanted k d' r m) (sym count) told))

  -- The empty slot of an answer goes home.
  pub settle_driver_step : (slots id i : ℕ) (me : Me (Option (CargoData P)) View) (d : DriverView) (a : Answer) (h : ℕ) → me ≡ (Driver (staged d (driver.Taken a)), (h, None) ∷ []) → h ≡ head_of a.entry → h < n
      → Allows (Ring wanted queue n) slots id me i (λ k. k) (λ found after. after ≡ (rested me.0, []))
  settle_driver_step slots id i me d a h e head small =
      let e' : me ≡ (Driver (staged d (driver.Taken a)), (head_of a.entry, None) ∷ []) = e ∙ ap {B = Me (Option (CargoData P)) View} (λ (k : ℕ). (Driver (staged d (driver.Taken a)), (k, None) ∷ [])) head in
      allows_as (Ring wanted queue n) slots id me (Driver (staged d (driver.Taken a)), (head_of a.entry, None) ∷ []) i i (λ k. k) (λ found after. after ≡ (Driver (staged d driver.Resting), [])) (λ found after. after ≡ (rested me.0, []))
      e' refl (settles_driver wanted queue n slots id i d a (subst (λ (k : ℕ). k < n) head small))
      (λ r m told. told ∙ sym (ap {B = Me (Option (CargoData P)) View} (λ (m : Me (Option (CargoData P)) View). (rested m.0, [])) e'))

  pub look_step : (slots id : ℕ) (me : Me (Option (CargoData P)) View) (d : DriverView) → me ≡ (Driver (staged d driver.Resting), [])
      → Allows (Ring wanted queue n) slots id me 1 (λ k. k) (λ found after. after ≡ (Driver (looked_by_driver (driver_of me.0) found), []))
  look_step slots id me d e =
      allows_as (Ring wanted queue n) slots id me (Driver (staged d driver.Resting), []) 1 1 (λ k. k) (λ found after. after ≡ (Driver (looked_by_driver d found), [])) (λ found after. after ≡ (Driver (looked_by_driver (driver_of me.0) found), []))
      e refl (looks_at_used wanted queue n slots id d)
      (λ r m told. told ∙ sym (ap {B = Me (Option (CargoData P)) View} (λ (m : Me (Option (CargoData P)) View). (Driver (looked_by_driver (driver_of m.0) r), [])) e))
