-- A scanout that shows something stays leased to its client, whatever is done.
use Rattle.std.proofs.Common.{◌≡◌, ◌≢◌, inl, inr, ℕ, zero, suc, ◌*◌, Bool, true, false, not, List, [], ◌∷◌, length, slice_get, slice_set, Option, Some, None, refl, ap, sym, subst, ◌∙◌}
use Rattle.std.proofs.lemmas.Bool.{cases_eq}
use Rattle.vg_refusals.specs.Refusals.{refusal_of}
use Rattle.vg_share.specs.declared.share.ShareRefusal.{ShareRefusal}
use Rattle.vg_share.specs.declared.share.ShareRefusal.TheVariants.{InUse, NotHeld}
use Rattle.vg_share.specs.Share.{ShareState, drop_refusal, export_refusal, free_refusal, import_refusal, is_lease_of, is_leased, leased, place_refusal, refused_lease, release_refusal, reserve_refusal, take_refusal, unleased}
use Rattle.vg_client_holds.specs.declared.act.Act.{Act}
use Rattle.vg_client_holds.specs.declared.act.Act.TheVariants.{Enter, Reserve, Store, Load, Export, Import, Release, Free, Take, Drop, Await, Denied, Mode, Unplug, Sync, Events, Ack, Leave}
use Rattle.vg_client_holds.specs.declared.act.ActReply.{ActReply}
use Rattle.vg_client_holds.specs.declared.act.ActReply.TheVariants as act_replies
use Rattle.vg_history.specs.declared.entry.Entry.TheVariants as entries
use Rattle.vg_device.specs.ActStep.{effect_of, is_in_use, replied_by, shown_at}
use Rattle.vg_device.specs.State.{State, counted, has_resource}
use Rattle.vg_machine.specs.Entries.{Entry}
use Rattle.vg_machine.specs.Replay.{after}
use Rattle.vg_origin.proofs.KeptLemmas.{shaped-beside}

record HasLeases (old new : State) : Type 0 where
  leases : new.share.leases ≡ old.share.leases

set-other : (xs : List (Option ℕ)) (n k : ℕ) (v : Option ℕ) → k ≢ n → slice_get (slice_set xs n v) k ≡ slice_get xs k
set-other [] n k v apart = refl
set-other (x ∷ xs) zero zero v apart = absurd (apart refl)
set-other (x ∷ xs) zero (suc k) v apart = refl
set-other (x ∷ xs) (suc n) zero v apart = refl
set-other (x ∷ xs) (suc n) (suc k) v apart = set-other xs n k v (λ same. apart (ap suc same))

free-lease : (client : ℕ) (found : Option (Option ℕ)) → refused_lease found ≡ None → is_lease_of client found ≡ true → ⊥
free-lease client None none is = cc
free-lease client (Some None) none is = cc
free-lease client (Some (Some other)) none is = cc

take-kept : (refusal : Option ShareRefusal) (state : State) (client taker scanout taken : ℕ) → take_refusal taken state.share ≡ refusal → is_leased client scanout state.share ≡ true
    → is_leased client scanout (replied_by refusal state (record state { share = leased taker taken state.share }) act_replies.Ok).0.share ≡ true
take-kept (Some refusal) state client taker scanout taken is had = had
take-kept None state client taker scanout taken is had =
    elim (cases_eq scanout taken) [
      | inl same ↦ absurd (free-lease client (slice_get state.share.leases taken) is (subst (λ (n : ℕ). is_leased client n state.share ≡ true) same had))
      | inr apart ↦ ap (is_lease_of client) (set-other state.share.leases taken scanout (Some taker) apart) ∙ had
    ]

dropped-unused : (first : Bool) (used : Bool) (scanout : ℕ) → refusal_of ((first, NotHeld) ∷ (used, InUse scanout) ∷ []) ≡ None → used ≡ false
dropped-unused true used scanout none = cc
dropped-unused false true scanout none = cc
dropped-unused false false scanout none = refl

drop-kept : (refusal : Option ShareRefusal) (state : State) (client dropper scanout dropped : ℕ) → drop_refusal dropper dropped (is_in_use state dropped) state.share ≡ refusal → is_in_use state scanout ≡ true
    → is_leased client scanout state.share ≡ true → is_leased client scanout (replied_by refusal state (record state { share = unleased dropped state.share }) act_replies.Ok).0.share ≡ true
drop-kept (Some refusal) state client dropper scanout dropped is used had = had
drop-kept None state client dropper scanout dropped is used had =
    elim (cases_eq scanout dropped) [
      | inl same ↦ clash (sym (dropped-unused (not (is_leased dropper dropped state.share)) (is_in_use state dropped) dropped is) ∙ subst (λ (n : ℕ). is_in_use state n ≡ true) same used)
      | inr apart ↦ ap (is_lease_of client) (set-other state.share.leases dropped scanout None apart) ∙ had
    ]
  where
    clash : {P : Type 0} → false ≡ true → P
    clash eq = cc

replied-kept : (refusal : Option ShareRefusal) (state next : State) (reply : ActReply) (client scanout : ℕ) → HasLeases state next → is_leased client scanout state.share ≡ true
    → is_leased client scanout (replied_by refusal state next reply).0.share ≡ true
replied-kept (Some refusal) state next reply client scanout is had = had
replied-kept None state next reply client scanout is had = ap (λ (leases : List (Option ℕ)). is_lease_of client (slice_get leases scanout)) is.leases ∙ had

effect-kept : (state : State) (actor : ℕ) (act : Act) (client scanout : ℕ) → is_in_use state scanout ≡ true → is_leased client scanout state.share ≡ true → is_leased client scanout (effect_of state actor act).0.share ≡ true
effect-kept state actor Enter client scanout used had = had
effect-kept state actor (Reserve width height format bytes) client scanout used had =
    replied-kept (reserve_refusal bytes state.memory) state _ _ client scanout (record { leases = refl }) had
effect-kept state actor (Store key offset bytes times) client scanout used had =
    replied-kept (place_refusal actor key offset (length bytes * times) state.share) state _ _ client scanout (record { leases = refl }) had
effect-kept state actor (Load key offset n) client scanout used had = replied-kept (place_refusal actor key offset n state.share) state _ _ client scanout (record { leases = refl }) had
effect-kept state actor (Export key) client scanout used had = replied-kept (export_refusal actor key state.share) state _ _ client scanout (record { leases = refl }) had
effect-kept state actor (Import token) client scanout used had = replied-kept (import_refusal token state.share) state _ _ client scanout (record { leases = refl }) had
effect-kept state actor (Release key) client scanout used had =
    replied-kept (release_refusal actor key (shown_at actor key state) state.share) state _ _ client scanout (record { leases = refl }) had
effect-kept state actor (Free key) client scanout used had =
    replied-kept (free_refusal actor key (has_resource state key) state.share) state _ _ client scanout (record { leases = refl }) had
effect-kept state actor (Take taken) client scanout used had = take-kept (take_refusal taken state.share) state client actor scanout taken refl had
effect-kept state actor (Drop dropped) client scanout used had = drop-kept (drop_refusal actor dropped (is_in_use state dropped) state.share) state client actor scanout dropped refl used had
effect-kept state actor (Await lane ordinal) client scanout used had = had
effect-kept state actor (Denied what) client scanout used had = had
effect-kept state actor (Mode plugged width height) client scanout used had = had
effect-kept state actor (Unplug unplugged) client scanout used had = had
effect-kept state actor (Sync number) client scanout used had = had
effect-kept state actor Events client scanout used had = had
effect-kept state actor Ack client scanout used had = had
effect-kept state actor Leave client scanout used had = had

pub lease-kept : (state : State) (entry : Entry) (client scanout : ℕ) → is_in_use state scanout ≡ true → is_leased client scanout state.share ≡ true → is_leased client scanout (after state entry).share ≡ true
lease-kept state (entries.Act actor call act reply) client scanout used had = effect-kept (counted state) actor act client scanout used had
lease-kept state (entries.Command actor call request reply) client scanout used had =
    subst (λ (share : ShareState). is_leased client scanout share ≡ true) (sym (shaped-beside request.shape state request).share) had
