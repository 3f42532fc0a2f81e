use Rattle.std.proofs.Common.{◌≡◌, ℕ, ◌+◌, ◌*◌, ◌/◌, ◌%◌, ◌^◌, ◌<◌, Bool, List, [], ◌∷◌, ◌++◌, length, refl, sym, ap, subst, ◌∙◌, arith}
use Rattle.std.specs.Prelude.{Option, Some, None}
use Rattle.atomic_table.specs.Table.{Allows, Splits, Joins, Me}
use Rattle.vg_wire.specs.declared.request.Queue.{Queue}
use Rattle.vg_cargo.specs.declared.entries.Entry.{Entry}
use Rattle.vg_cargo.specs.declared.entries.Answer.{Answer}
use Rattle.vg_split.specs.declared.views.DeviceStage.TheVariants as device
use Rattle.vg_split.specs.declared.views.DeviceView.{DeviceView}
use Rattle.vg_split.specs.declared.views.View.{View}
use Rattle.vg_split.specs.declared.views.View.TheVariants.{Device, Right, Spent}
use Rattle.vg_cargo.specs.Cargo.{CargoData}
use Rattle.vg_split.specs.Words.{available_place, used_place, used_word}
use Rattle.vg_cargo.specs.Entries.{head_of, heads, held_at, answer_with, without, Has, IsDone}
use Rattle.vg_split.specs.Rule.{Ring, set_stage, completed_after, lent_after, returned_after, looked_by_device}
use Rattle.vg_split.specs.Plays.{device_of, place_at, rested, answering, answered_with, naming, named_by, lent_by, right_of}
use Rattle.vg_split.specs.Tells.{IsTaken, TellsWord}
use Rattle.vg_cargo.proofs.Heads.{held_there, held_cut}
use Rattle.vg_split.proofs.DeviceSteps.{looks_at_available, takes_entry, settles, answers_element, returns_cargo, reads}
use Rattle.vg_split.proofs.RightSteps.{names, splits_right, joins_right, settles_returned}
use Rattle.vg_split.proofs.Told.{allows_as}

module _ {P : Type 0} (wanted : P → Bool) (queue : Queue) (n : ℕ) where
  abbrev My : Type 0
  My = Me (Option (CargoData P)) View

  pub look_available_step : (slots id : ℕ) (me : My) (v : DeviceView) → me ≡ (Device (set_stage v device.Resting), [])
      → Allows (Ring wanted queue n) slots id me 0 (λ k. k) (λ found after. after ≡ (Device (looked_by_device (device_of me.0) found), []))
  look_available_step slots id me v e =
      allows_as (Ring wanted queue n) slots id me (Device (set_stage v device.Resting), []) 0 0 (λ k. k) (λ found after. after ≡ (Device (looked_by_device v found), [])) (λ found after. after ≡ (Device (looked_by_device (device_of me.0) found), []))
      e refl (looks_at_available wanted queue n slots id v)
      (λ r m told. told ∙ sym (ap {B = My} (λ (m : My). (Device (looked_by_device (device_of m.0) r), [])) e))

  pub fetch_step : (slots id : ℕ) (me : My) (v : DeviceView) (i : ℕ) → me ≡ (Device (set_stage v device.Newer), []) → i ≡ available_place n (length v.fetched % n) → slots ≡ n
      → Allows (Ring wanted queue n) slots id me i (λ k. k) (λ found after. IsTaken wanted slots (device_of me.0) found after)
  fetch_step slots id me v i e place count =
      let v' : DeviceView = set_stage v device.Newer in
      allows_as (Ring wanted queue n) slots id me (Device (set_stage v' device.Newer), []) i (available_place n (length v'.fetched % n)) (λ k. k) (IsTaken wanted n v') (λ found after. IsTaken wanted slots (device_of me.0) found after)
      e place (takes_entry wanted queue n slots id v')
      (λ r m told. subst (λ (x : DeviceView). IsTaken wanted slots x r m) (sym (ap {B = DeviceView} (λ (m : My). device_of m.0) e)) (subst (λ (k : ℕ). IsTaken wanted k v' r m) (sym count) told))

  pub settle_device_step : (slots id i : ℕ) (me : My) (v : DeviceView) (f : Entry) (h : ℕ) → me ≡ (Device (set_stage v (device.Taken f)), (h, None) ∷ []) → h ≡ head_of f
      → Allows (Ring wanted queue n) slots id me i (λ k. k) (λ found after. after ≡ (rested me.0, []))
  settle_device_step slots id i me v f h e head =
      let e' : me ≡ (Device (set_stage v (device.Taken f)), (head_of f, None) ∷ []) = e ∙ ap {B = My} (λ (k : ℕ). (Device (set_stage v (device.Taken f)), (k, None) ∷ [])) head in
      allows_as (Ring wanted queue n) slots id me (Device (set_stage v (device.Taken f)), (head_of f, None) ∷ []) i i (λ k. k) (λ found after. after ≡ (Device (set_stage v device.Resting), [])) (λ found after. after ≡ (rested me.0, []))
      e' refl (settles wanted queue n slots id i v f)
      (λ r m told. told ∙ sym (ap {B = My} (λ (m : My). (rested m.0, [])) e'))

  -- where the used element of a held entry was stored
  answered : (v : DeviceView) (h len x : ℕ) → x ≡ used_word h len → h < 65536
      → ◌≡◌ {A = My} (Device (set_stage v (device.Answering (held_at (x % 2 ^ 32) v.held) (x / 2 ^ 32))), (x % 2 ^ 32, None) ∷ []) (Device (set_stage v (device.Answering (held_at h v.held) len)), (h, None) ∷ [])
  answered v h len x is small =
      let low : x % 2 ^ 32 ≡ h = omega (arith, is, small) in
      let high : x / 2 ^ 32 ≡ len = omega (arith, is, small) in
      ap {B = My} (λ (k : ℕ). (Device (set_stage v (device.Answering (held_at k v.held) (x / 2 ^ 32))), (k, None) ∷ [])) low ∙ ap {B = My} (λ (l : ℕ). (Device (set_stage v (device.Answering (held_at h v.held) l)), (h, None) ∷ [])) high

  pub answered_is : (me after : My) (v : DeviceView) (h len x : ℕ) → me ≡ (Device (set_stage v device.Resting), []) → after ≡ (answering me.0 x, (x % 2 ^ 32, None) ∷ me.1) → x ≡ used_word h len → h < 65536
      → after ≡ (Device (set_stage v (device.Answering (held_at h v.held) len)), (h, None) ∷ [])
  answered_is me after v h len x e told is small = told ∙ (ap {B = My} (λ (m : My). (answering m.0 x, (x % 2 ^ 32, None) ∷ m.1)) e ∙ answered v h len x is small)

  pub answer_step : (slots id : ℕ) (me : My) (v : DeviceView) (i h len x : ℕ) → me ≡ (Device (set_stage v device.Resting), []) → i ≡ used_place n (length v.completed % n) → heads h v.held ≡ 1 → x ≡ used_word h len → h < 65536
      → Allows (Ring wanted queue n) slots id me i (λ _. x) (λ _ after. after ≡ (answering me.0 x, (x % 2 ^ 32, None) ∷ me.1))
  answer_step slots id me v i h len x e place one is small =
      let f : Entry = held_at h v.held in
      let there = held_there h v.held one in
      let is' : x ≡ used_word (head_of f) len = is ∙ ap (λ (k : ℕ). used_word k len) (sym there.1) in
      subst (λ (y : ℕ). Allows (Ring wanted queue n) slots id me i (λ _. y) (λ _ after. after ≡ (answering me.0 x, (x % 2 ^ 32, None) ∷ me.1))) (sym is')
      (allows_as (Ring wanted queue n) slots id me (Device (set_stage v device.Resting), []) i (used_place n (length v.completed % n)) (λ _. used_word (head_of f) len)
      (λ _ after. after ≡ (Device (set_stage v (device.Answering f len)), (head_of f, None) ∷ [])) (λ _ after. after ≡ (answering me.0 x, (x % 2 ^ 32, None) ∷ me.1))
      e place (answers_element wanted queue n slots id v f len (subst (λ (k : ℕ). heads k v.held ≡ 1) (sym there.1) one))
      (λ r m told. told ∙ (ap {B = My} (λ (k : ℕ). (Device (set_stage v (device.Answering f len)), (k, None) ∷ [])) there.1 ∙ sym (ap {B = My} (λ (m : My). (answering m.0 x, (x % 2 ^ 32, None) ∷ m.1)) e ∙ answered v h len x is small))))

  pub complete_step : (slots id : ℕ) (me : My) (v : DeviceView) (h len x : ℕ) (cargo : CargoData P) → me ≡ (Device (set_stage v (device.Answering (held_at h v.held) len)), (h, Some cargo) ∷ [])
      → heads h v.held ≡ 1 → x ≡ (length v.completed + 1) % 65536 → IsDone wanted (answer_with (held_at h v.held) len cargo) cargo
      → Allows (Ring wanted queue n) slots id me 1 (λ _. x) (λ _ after. after ≡ (answered_with me.0 me.1, []))
  complete_step slots id me v h len x cargo e one count done =
      let f : Entry = held_at h v.held in
      let there = held_there h v.held one in
      let cut = held_cut h v.held one in
      let a : Answer = answer_with f len cargo in
      let e' : me ≡ (Device (set_stage v (device.Answering f len)), (head_of f, Some cargo) ∷ []) = e ∙ ap {B = My} (λ (k : ℕ). (Device (set_stage v (device.Answering f len)), (k, Some cargo) ∷ [])) (sym there.1) in
      let left : cut.0 ++ cut.1 ≡ without (head_of f) v.held = sym cut.3 ∙ ap (λ (k : ℕ). without k v.held) (sym there.1) in
      subst (λ (y : ℕ). Allows (Ring wanted queue n) slots id me 1 (λ _. y) (λ _ after. after ≡ (answered_with me.0 me.1, []))) (sym count)
      (allows_as (Ring wanted queue n) slots id me (Device (set_stage v (device.Answering f len)), (head_of f, Some cargo) ∷ []) 1 1 (λ _. (length v.completed + 1) % 65536)
      (λ _ after. after ≡ (Device (completed_after v a (cut.0 ++ cut.1)), [])) (λ _ after. after ≡ (answered_with me.0 me.1, []))
      e' refl (returns_cargo wanted queue n slots id v cut.0 cut.1 a cargo cut.2 done)
      (λ r m told. told ∙ (ap {B = My} (λ (es : List Entry). (Device (completed_after v a es), [])) left ∙ sym (ap {B = My} (λ (m : My). (answered_with m.0 m.1, [])) e'))))

  pub completed_is : (me after : My) (v : DeviceView) (h len : ℕ) (cargo : CargoData P) → me ≡ (Device (set_stage v (device.Answering (held_at h v.held) len)), (h, Some cargo) ∷ []) → heads h v.held ≡ 1
      → after ≡ (answered_with me.0 me.1, []) → after ≡ (Device (completed_after v (answer_with (held_at h v.held) len cargo) (without h v.held)), [])
  completed_is me after v h len cargo e one told =
      let there = held_there h v.held one in
      told ∙ (ap {B = My} (λ (m : My). (answered_with m.0 m.1, [])) e ∙ ap {B = My} (λ (k : ℕ). (Device (completed_after v (answer_with (held_at h v.held) len cargo) (without k v.held)), [])) there.1)

  pub name_step : (slots id : ℕ) (me : My) (v : DeviceView) (i h : ℕ) → me ≡ (Device (set_stage v device.Resting), []) → i ≡ 2 + 2 * h → heads h v.held ≡ 1 → heads h v.lent ≡ 0
      → Allows (Ring wanted queue n) slots id me i (λ k. k) (λ found after. after ≡ (naming me.0 (place_at i), me.1))
  name_step slots id me v i h e place one unlent =
      let there = held_there h v.held one in
      let same : place_at i ≡ h = omega (arith, place) in
      allows_as (Ring wanted queue n) slots id me (Device (set_stage v device.Resting), []) i i (λ k. k) (λ found after. after ≡ (Device (set_stage v (device.Naming (held_at h v.held))), [])) (λ found after. after ≡ (naming me.0 (place_at i), me.1))
      e refl (names wanted queue n slots id i v (held_at h v.held) (subst (λ (k : ℕ). heads k v.held ≡ 1) (sym there.1) one) (subst (λ (k : ℕ). heads k v.lent ≡ 0) (sym there.1) unlent))
      (λ r m told. told ∙ sym (ap {B = My} (λ (m : My). (naming m.0 (place_at i), m.1)) e ∙ ap {B = My} (λ (k : ℕ). (Device (set_stage v (device.Naming (held_at k v.held))), [])) same))

  pub named_is : (me after : My) (v : DeviceView) (i h : ℕ) → me ≡ (Device (set_stage v device.Resting), []) → i ≡ 2 + 2 * h → after ≡ (naming me.0 (place_at i), me.1) → after ≡ (Device (set_stage v (device.Naming (held_at h v.held))), [])
  named_is me after v i h e place told =
      let same : place_at i ≡ h = omega (arith, place) in
      told ∙ (ap {B = My} (λ (m : My). (naming m.0 (place_at i), m.1)) e ∙ ap {B = My} (λ (k : ℕ). (Device (set_stage v (device.Naming (held_at k v.held))), [])) same)

  pub cut_step : (id : ℕ) (me : My) (v : DeviceView) (f : Entry) → me ≡ (Device (set_stage v (device.Naming f)), []) → Splits (Ring wanted queue n) id me.0 (Device (lent_after (device_of me.0) (named_by me.0))) (Right (named_by me.0))
  cut_step id me v f e = subst (λ (w : View). Splits (Ring wanted queue n) id w (Device (lent_after (device_of w) (named_by w))) (Right (named_by w))) (sym (ap {B = View} (λ (m : My). m.0) e)) (splits_right wanted queue n id v f)

  pub join_step : (id other : ℕ) (me right : My) (v : DeviceView) (f : Entry) → me ≡ (Device (set_stage v device.Resting), []) → right ≡ (Right f, [])
      → Joins (Ring wanted queue n) id me.0 other right.0 (Device (returned_after (device_of me.0) (right_of right.0))) Spent
  join_step id other me right v f e e' =
      subst (λ (w : View). Joins (Ring wanted queue n) id w other right.0 (Device (returned_after (device_of w) (right_of right.0))) Spent) (sym (ap {B = View} (λ (m : My). m.0) e))
      (subst (λ (w : View). Joins (Ring wanted queue n) id (Device (set_stage v device.Resting)) other w (Device (returned_after v (right_of w))) Spent) (sym (ap {B = View} (λ (m : My). m.0) e')) (joins_right wanted queue n id other v f))

  pub lent_step : (slots id i : ℕ) (me : My) (v : DeviceView) (f : Entry) (old : List Entry) → me ≡ (Device (set_stage v (device.Returned f old)), [])
      → Allows (Ring wanted queue n) slots id me i (λ k. k) (λ found after. (after ≡ (rested me.0, [])) × Has (named_by me.0) (lent_by me.0))
  lent_step slots id i me v f old e =
      allows_as (Ring wanted queue n) slots id me (Device (set_stage v (device.Returned f old)), []) i i (λ k. k) (λ found after. (after ≡ (Device (set_stage v device.Resting), [])) × Has f old) (λ found after. (after ≡ (rested me.0, [])) × Has (named_by me.0) (lent_by me.0))
      e refl (settles_returned wanted queue n slots id i v f old)
      (λ r m told. (told.0 ∙ sym (ap {B = My} (λ (m : My). (rested m.0, [])) e), subst (λ (w : View). Has (named_by w) (lent_by w)) (sym (ap {B = View} (λ (m : My). m.0) e)) told.1))

  pub read_step : (slots id i : ℕ) (me : My) (v : DeviceView) → me ≡ (Device (set_stage v device.Resting), []) → slots ≡ n
      → Allows (Ring wanted queue n) slots id me i (λ k. k) (λ found after. (after ≡ me) × TellsWord slots i found (device_of me.0).held)
  read_step slots id i me v e count =
      allows_as (Ring wanted queue n) slots id me (Device (set_stage v device.Resting), []) i i (λ k. k) (λ found after. (after ≡ (Device (set_stage v device.Resting), [])) × TellsWord n i found v.held) (λ found after. (after ≡ me) × TellsWord slots i found (device_of me.0).held)
      e refl (reads wanted queue n slots id i v)
      (λ r m told. (told.0 ∙ sym e, subst (λ (k : ℕ). TellsWord k i r (device_of me.0).held) (sym count) (subst (λ (es : List Entry). TellsWord n i r es) (sym (ap {B = List Entry} (λ (m : My). (device_of m.0).held) e)) told.1)))
