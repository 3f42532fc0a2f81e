-- In a sound history scanouts show resources of clients that have their buffers.
use Rattle.std.proofs.Common.{◌≡◌, ◌≢◌, inl, inr, ◌≤◌, ◌<◌, ◌^◌, ℕ, zero, suc, ◌==◌, ◌||◌, ◌&&◌, not, Bool, true, false, List, [], ◌∷◌, ◌++◌, length, take, replicate, nat_le, nat_lt, slice_get, Option, Some, None, refl, ap, ap₂, sym, subst, ◌∙◌, arith, eq-eqb, ne_eqb}
use Rattle.std.specs.Prelude.{is_none, is_some, if◌then◌else◌}
use Rattle.std.proofs.lemmas.Bool.Decides.{nat_tests}
use Rattle.std.proofs.lemmas.Option.{slice_get_within}
use Rattle.vg_laws.proofs.Numbers.{same-number}
use Rattle.vg_laws.proofs.Bools.{not-both}
use Rattle.vg_refusals.specs.Refusals.{refusal_of}
use Rattle.vg_resource.specs.declared.resource.Resource.{Resource}
use Rattle.vg_resource.specs.Resource.{height_of, resource_at, width_of}
use Rattle.vg_scanout.specs.declared.scanout.Binding.{Binding}
use Rattle.vg_scanout.specs.Scanout.{ScanoutState, Screen, binding_at, binding_of_screen, is_past_limit}
use Rattle.vg_share.specs.declared.share.Buffer.{Buffer}
use Rattle.vg_share.specs.Share.{ShareState, buffer_at}
use Rattle.vg_wire.specs.Header.{header_of}
use Rattle.vg_wire.specs.Kinds.{ERR_INVALID_PARAMETER, ERR_INVALID_RESOURCE_ID, ERR_INVALID_SCANOUT_ID, ERR_OUT_OF_MEMORY}
use Rattle.vg_wire_ext.specs.declared.command.Command.{Command}
use Rattle.vg_wire_ext.specs.declared.command.Command.TheVariants.{UpdateCursor}
use Rattle.vg_client_holds.specs.declared.setup.Setup.{Setup}
use Rattle.vg_client_holds.specs.Holds.{denied_request}
use Rattle.vg_history.specs.declared.entry.Entry.TheVariants as entries
use Rattle.vg_device.specs.ActStep.{is_in_use, shows_key}
use Rattle.vg_device.specs.State.{State, counted, has_resource, is_blob, start}
use Rattle.vg_device.specs.Step.{image_refusals}
use Rattle.vg_machine.proofs.LeaveLemmas.{read-of}
use Rattle.vg_machine.specs.Entries.{Entry}
use Rattle.vg_machine.specs.Order.{Sound, holds_of}
use Rattle.vg_machine.specs.Replay.{after, replay}
use Rattle.vg_linked.proofs.EntryLemmas.{each-weaker, none-found}
use Rattle.vg_linked.proofs.FitLemmas.{none-first, none-rest}
use Rattle.vg_linked.proofs.HeldLemmas.{ShareStands}
use Rattle.vg_linked.proofs.HoldsLemmas.{holds-of}
use Rattle.vg_linked.proofs.IdLemmas.{ids-stand}
use Rattle.vg_linked.proofs.LinkHistory.{holds-linked, stands}
use Rattle.vg_linked.proofs.MoveLemmas.{effect-kept}
use Rattle.vg_linked.proofs.ScreenLemmas.{bound-there, shows}
use Rattle.vg_linked.proofs.SizeLemmas.{as-many, counts-within}
use Rattle.vg_linked.proofs.SoundLemmas.{of-buffers}
use Rattle.vg_origin.specs.Origin.{state_at}
use Rattle.vg_origin.specs.Shown.{AreFair, IsBoundTo, IsFair, Updates}
use Rattle.vg_origin.proofs.BackedLemmas.{are-backed}
use Rattle.vg_origin.proofs.BindLemmas.{Bound, shaped-backs}
use Rattle.vg_origin.proofs.EntryLemmas.{effect-same}
use Rattle.vg_origin.proofs.KeepLemmas.{Had, Keeps, keep_acts}
use Rattle.vg_origin.proofs.KeptLemmas.{shaped-beside}
use Rattle.vg_origin.proofs.LeaseLemmas.{lease-kept}
use Rattle.vg_origin.proofs.MayLemmas.{allowed-at, fair, may-bind, may-point, named}
use Rattle.vg_origin.proofs.MemoryLemmas.{Next, entries-from, next-moment}

-- ---- what a binding tells

bound-of : (s : State) (scanout key : ℕ) → IsBoundTo s scanout key → Bound scanout key s
bound-of s scanout key is = ap (λ (o : Option (Option Screen)). shows_key key (binding_of_screen o)) is.there ∙ eq-eqb is.screen.binding.resource key is.resource

bound-within : (s : State) (scanout key : ℕ) → Bound scanout key s → scanout < length s.scanouts.screens
bound-within s scanout key is = by (slice_get s.scanouts.screens scanout) refl is
  where
    by : (found : Option (Option Screen)) → slice_get s.scanouts.screens scanout ≡ found → shows_key key (binding_of_screen found) ≡ true → scanout < length s.scanouts.screens
    by None at is = cc
    by (Some screen) at is = slice_get_within s.scanouts.screens scanout screen at

bound-used : (s : State) (scanout key : ℕ) → Bound scanout key s → is_in_use s scanout ≡ true
bound-used s scanout key is = by (binding_at scanout s.scanouts) refl is
  where
    by : (found : Option Binding) → binding_at scanout s.scanouts ≡ found → shows_key key found ≡ true → is_in_use s scanout ≡ true
    by None at is = cc
    by (Some binding) at is = cc

bound-resource : (setup : Setup) (H : List Entry) (scanout key : ℕ) → Bound scanout key (replay setup H) → has_resource (replay setup H) key ≡ true
bound-resource setup H scanout key is = by (binding_at scanout (replay setup H).scanouts) refl is
  where
    by : (found : Option Binding) → binding_at scanout (replay setup H).scanouts ≡ found → shows_key key found ≡ true → has_resource (replay setup H) key ≡ true
    by None at is = cc
    by (Some binding) at is = subst (λ n. has_resource (replay setup H) n ≡ true) (same-number binding.resource key is) (bound-there (replay setup H) scanout binding at (shows setup H))

none-bound : {R : Type 0} (n scanout key : ℕ) → shows_key key (binding_of_screen (slice_get (replicate n None) scanout)) ≡ true → R
none-bound zero scanout key is = cc
none-bound (suc n) zero key is = cc
none-bound (suc n) (suc scanout) key is = none-bound n scanout key is

-- ---- numbers

low-key : (share : ShareState) (key : ℕ) → ShareStands share → is_some (buffer_at key share) ≡ true → key ≤ share.reserved
low-key share key stand there = by (nat_le key share.reserved) refl
  where
    by : (b : Bool) → nat_le key share.reserved ≡ b → key ≤ share.reserved
    by true is = grind (arith, nat_tests, is)
    by false is =
        let high : share.reserved < key = grind (arith, nat_tests, is) in
        not-both (is_some (buffer_at key share)) there
        (ap is_some (none-found key share.buffers
        (each-weaker (λ (entry : ℕ × Buffer). entry.0 ≤ share.reserved) (λ (entry : ℕ × Buffer). entry.0 ≢ key) (λ entry low same. omega (arith, low, same, high)) share.buffers stand.given)))

not-0 : (setup : Setup) (H : List Entry) (key : ℕ) → has_resource (replay setup H) key ≡ true → key ≢ 0
not-0 setup H key there none =
    let ids = ids-stand setup H in
    not-both (has_resource (replay setup H) key) there (ap (has_resource (replay setup H)) none ∙ ap₂ (λ blob found. is_some blob || is_some found) ids.no_blob ids.no_resource)

small : (setup : Setup) (H : List Entry) (i key : ℕ) → (state_at setup H i).entries ≡ i → i < length H → length H < 2 ^ 31 → is_some (buffer_at key (state_at setup H i).share) ≡ true → key < 2 ^ 31
small setup H i key count place long there =
    let low = low-key (state_at setup H i).share key (stands setup (take i H)) there in
    let counts = counts-within setup (take i H) in
    omega (arith, low, counts.reserved_is, count, place, long)

-- ---- an entry

abbrev AllFair : State → Type 0
AllFair s = (scanout key : ℕ) → Bound scanout key s → IsFair s.share scanout key

module _ (setup : Setup) (H : List Entry) (sound : Sound setup H) (long : length H < 2 ^ 31) where
  within-setup : (i scanout key : ℕ) → Bound scanout key (state_at setup H i) → scanout < length setup.displays
  within-setup i scanout key is = subst (λ n. scanout < n) (as-many setup (take i H)).screens_are (bound-within (state_at setup H i) scanout key is)

  entry-fair : (i : ℕ) (entry : Entry) → Next setup H i entry → AllFair (state_at setup H i) → AllFair (after (state_at setup H i) entry)
  entry-fair i (entries.Act client call act reply) next was scanout key is =
      let s = state_at setup H i in
      let before : Bound scanout key s = ap (λ (all : ScanoutState). shows_key key (binding_at scanout all)) (sym (effect-same (counted s) client act).scanouts) ∙ is in
      let had = was scanout key before in
      let displays : length setup.displays ≡ length s.setup.displays = ap (λ (now : Setup). length now.displays) (sym (as-many setup (take i H)).setup_is) in
      record {
        client = had.client;
        leased = lease-kept s (entries.Act client call act reply) had.client scanout (bound-used s scanout key before) had.leased;
        keeps = effect-kept (Had had.client scanout key) (Keeps had.client key) (keep_acts had.client scanout key) (counted s) client act (record {
          stand = stands setup (take i H);
          there = bound-resource setup (take i H) scanout key before;
          within = subst (λ n. scanout < n) displays (within-setup i scanout key before);
          shows = before;
          leased = had.leased;
          keeps = had.keeps;
        });
      }
  entry-fair i (entries.Command client call request reply) next was scanout key is =
      let s = state_at setup H i in
      let entry : Entry = entries.Command client call request reply in
      let same : (after s entry).share ≡ s.share = (shaped-beside request.shape s request).share in
      subst (λ (share : ShareState). IsFair share scanout key) (sym same)
      (elim (shaped-backs scanout key s request request.shape is) [
        | inl before ↦ was scanout key before
        | inr asked ↦
            let holds = holds_of setup client (take i H) in
            let now : Bound scanout key (state_at setup H (suc i)) = subst (Bound scanout key) (sym next.state) is in
            let there = bound-resource setup (take (suc i) H) scanout key now in
            let buffer : is_some (buffer_at key s.share) ≡ true =
            subst (λ (share : ShareState). is_some (buffer_at key share) ≡ true) (ap (λ (state : State). state.share) next.state ∙ same) ((of-buffers setup H (suc i) sound).live key there)
            in
            let read = read-of (counted s) request.queue request.bytes asked.command asked.let_in asked.reads in
            let may = (allowed-at setup [] H i entry next.there sound.allowed).0 in
            fair client scanout key (length setup.displays) holds s.share (holds-linked setup H i client sound.agrees) (holds-of setup (take i H) client).1
            (within-setup (suc i) scanout key now) (not-0 setup (take (suc i) H) key there)
            (small setup H i key next.count (slice_get_within H i entry next.there) long buffer)
            (may-bind holds scanout key asked.command asked.binds (named holds (header_of request.bytes) asked.command (sym (ap (denied_request holds) read) ∙ may)))
      ])

  all-fair : (i : ℕ) → AllFair (state_at setup H i)
  all-fair zero = λ scanout key is. none-bound (length setup.displays) scanout key is
  all-fair (suc i) =
      elim (next-moment setup H i) [
        | inl same ↦ subst (λ (es : List Entry). AllFair (replay setup es)) (sym same) (all-fair i)
        | inr (entry, next) ↦ subst AllFair (sym next.state) (entry-fair i entry next (all-fair i))
      ]

  -- ---- cursors

  image-there : (blob missing odd past : Bool) (a b c d : ℕ) → refusal_of ((blob, a) ∷ (missing, b) ∷ (odd, c) ∷ (past, d) ∷ []) ≡ None → missing ≡ false
  image-there true missing odd past a b c d none = cc
  image-there false true odd past a b c d none = cc
  image-there false false odd past a b c d none = refl

  either-list : (b : Bool) (xs last : List (Bool × ℕ)) → b ≡ false → refusal_of ((if b then [] else xs) ++ last) ≡ None → refusal_of (xs ++ last) ≡ None
  either-list true xs last isnt none = cc
  either-list false xs last isnt none = none

  is-below : (n m : ℕ) → nat_le n m ≡ false → m < n
  is-below n m is = grind (arith, nat_tests)

  resource-there : (blob : Bool) (found : Option Resource) → is_none found ≡ false → (blob || is_some found) ≡ true
  resource-there true found isnt = refl
  resource-there false (Some resource) isnt = refl
  resource-there false None isnt = cc

  longer : (es : List Entry) (i : ℕ) (entry : Entry) → slice_get es i ≡ Some entry → length (take i es) ≡ i
  longer [] i entry there = cc
  longer (e ∷ es) zero entry there = refl
  longer (e ∷ es) (suc i) entry there = ap suc (longer es i entry there)

  count-at : (i : ℕ) (entry : Entry) → slice_get H i ≡ Some entry → (state_at setup H i).entries ≡ i
  count-at i entry there = let all = entries-from (take i H) (start setup) in let many = longer H i entry there in omega (arith, all, many)

  update-fair : (i : ℕ) (entry : Entry) → slice_get H i ≡ Some entry → (scanout key : ℕ) → Updates (state_at setup H i) entry scanout key → IsFair (state_at setup H i).share scanout key
  update-fair i entry there scanout key updates =
      let s = state_at setup H i in
      let request = updates.request in
      let client = updates.client in
      let points = updates.points in
      let holds = holds_of setup client (take i H) in
      let command : Command = UpdateCursor scanout points.x points.y key points.hot_x points.hot_y in
      let found = resource_at key s.resources in
      let image = (is_blob s key, ERR_INVALID_PARAMETER) ∷ image_refusals found points.hot_x points.hot_y in
      let last = (is_past_limit scanout s.scanouts, ERR_OUT_OF_MEMORY) ∷ [] in
      let rest = (if key == 0 then [] else image) ++ last in
      let outside = nat_le (length s.setup.displays) scanout in
      let inside : outside ≡ false = none-first outside ERR_INVALID_SCANOUT_ID rest points.accepted in
      let shown = either-list (key == 0) image last (ne_eqb key 0 points.some) (none-rest outside ERR_INVALID_SCANOUT_ID rest points.accepted) in
      let some = image-there (is_blob s key) (is_none found) (not (width_of found == 64 && height_of found == 64 && nat_lt points.hot_x 64 && nat_lt points.hot_y 64)) (is_past_limit scanout s.scanouts)
      ERR_INVALID_PARAMETER ERR_INVALID_RESOURCE_ID ERR_INVALID_PARAMETER ERR_OUT_OF_MEMORY shown
      in
      let buffer = (of-buffers setup H i sound).live key (resource-there (is_blob s key) found some) in
      let displays : length s.setup.displays ≡ length setup.displays = ap (λ (now : Setup). length now.displays) (as-many setup (take i H)).setup_is in
      let within : scanout < length setup.displays = subst (λ n. scanout < n) displays (is-below (length s.setup.displays) scanout inside) in
      let read = read-of (counted s) request.queue request.bytes command updates.let_in (updates.reads ∙ ap Some points.is) in
      let may = (allowed-at setup [] H i (entries.Command client updates.call request updates.reply) (there ∙ ap Some updates.is) sound.allowed).0 in
      fair client scanout key (length setup.displays) holds s.share (holds-linked setup H i client sound.agrees) (holds-of setup (take i H) client).1 within points.some
      (small setup H i key (count-at i entry there) (slice_get_within H i entry there) long buffer)
      (may-point holds scanout key points.hot_x points.hot_y points.x points.y (named holds (header_of request.bytes) command (sym (ap (denied_request holds) read) ∙ may)))

  pub are-fair : AreFair setup H
  are-fair = record {
    backed = λ i. are-backed setup H i sound;
    bindings = λ i scanout key is. all-fair i scanout key (bound-of (state_at setup H i) scanout key is);
    updates = update-fair;
  }
