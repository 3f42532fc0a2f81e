-- Acts with which displays are plugged, and who waits for them.
use Rattle.std.proofs.Common.{◌≡◌, ◌⊎◌, inl, inr, ◌+◌, ◌==◌, ◌&&◌, ◌∙◌, sym, ap, refl, subst, arith, ℕ, Bool, true, false, cond, List, [], ◌∷◌, ◌++◌, append_assoc, append-nil}
use Rattle.std.proofs.lemmas.Bool.Decides.{nat_tests}
use Rattle.vg_laws.proofs.Bools.{and-both}
use Rattle.vg_history.specs.History as history
use Rattle.vg_history.specs.Lists.{Has}
use Rattle.vg_history.specs.declared.entry.Entry.TheVariants as entries
use Rattle.vg_history.proofs.ListLemmas.{has_left, has_right}
use Rattle.vg_client_holds.specs.declared.act.Act.TheVariants as acts
use Rattle.vg_client_holds.specs.declared.act.ActReply.{ActReply}
use Rattle.vg_client_holds.specs.declared.holds.Holds.{Holds}
use Rattle.vg_client_holds.specs.declared.setup.Setup.{Setup}
use Rattle.vg_client_holds.specs.Holds.{first_holds, update}
use Rattle.vg_client_holds.proofs.GrowingLemmas.{host-stays}
use Rattle.vg_machine.specs.Entries.{Entry}
use Rattle.vg_machine.specs.Order.{AreAllowed, AreInOrder, HasPlug, IsAllowed, IsInOrder, IsPlug, Sound, client_of, holds_of}
use Rattle.vg_machine.specs.Replay.{display}

-- ---- among entries

pub plug-left : (n : ℕ) (es more : List Entry) → HasPlug n es → HasPlug n (es ++ more)
plug-left n es more has = (has.0, has_left es more has.0 has.1, has.2)

pub plug-here : (n : ℕ) (es : List Entry) (entry : Entry) → IsPlug n entry → HasPlug n (es ++ entry ∷ [])
plug-here n es entry is = (entry, has_right es (entry ∷ []) entry (inl refl), is)

has-either : (es : List Entry) (entry e : Entry) → Has (es ++ entry ∷ []) e → Has es e ⊎ (entry ≡ e)
has-either [] entry e (inl is) = inr is
has-either [] entry e (inr none) = absurd none
has-either (x ∷ es) entry e (inl is) = inl (inl is)
has-either (x ∷ es) entry e (inr has) = more (has-either es entry e has)
  where
    more : Has es e ⊎ (entry ≡ e) → Has (x ∷ es) e ⊎ (entry ≡ e)
    more (inl there) = inl (inr there)
    more (inr is) = inr is

pub plug-one : (n : ℕ) (es : List Entry) (entry : Entry) → HasPlug n (es ++ entry ∷ []) → HasPlug n es ⊎ IsPlug n entry
plug-one n es entry has = by (has-either es entry has.0 has.1)
  where
    by : Has es has.0 ⊎ (entry ≡ has.0) → HasPlug n es ⊎ IsPlug n entry
    by (inl there) = inl (has.0, there, has.2)
    by (inr is) = inr (subst (IsPlug n) (sym is) has.2)

split-has : (es : List Entry) (e : Entry) → Has es e → (xs : List Entry) × (ys : List Entry) × (es ≡ xs ++ e ∷ ys)
split-has [] e has = absurd has
split-has (x ∷ es) e (inl is) = ([], es, ap (λ (f : Entry). f ∷ es) is)
split-has (x ∷ es) e (inr has) = let s = split-has es e has in (x ∷ s.0, s.1, ap (λ (l : List Entry). x ∷ l) s.2)

-- ---- at its place

order-at : (before xs ys : List Entry) (e : Entry) → AreInOrder before (xs ++ e ∷ ys) → IsInOrder (before ++ xs) e
order-at before [] ys e order = subst (λ (es : List Entry). IsInOrder es e) (sym (append-nil before)) order.0
order-at before (x ∷ xs) ys e order = subst (λ (es : List Entry). IsInOrder es e) (append_assoc before (x ∷ []) xs) (order-at (before ++ x ∷ []) xs ys e order.1)

allowed-at : (setup : Setup) (before xs ys : List Entry) (e : Entry) → AreAllowed setup before (xs ++ e ∷ ys) → IsAllowed (holds_of setup (client_of e) (before ++ xs)) e
allowed-at setup before [] ys e may = subst (λ (es : List Entry). IsAllowed (holds_of setup (client_of e) es) e) (sym (append-nil before)) may.0
allowed-at setup before (x ∷ xs) ys e may =
    subst (λ (es : List Entry). IsAllowed (holds_of setup (client_of e) es) e) (append_assoc before (x ∷ []) xs) (allowed-at setup (before ++ x ∷ []) xs ys e may.1)

-- ---- who plugs

-- a history doesn't change who a client is
host-after : (client : ℕ) (holds : Holds) (H : List Entry) → (history.holds_after display client holds H).host ≡ holds.host
host-after client holds [] = refl
host-after client holds (entries.Act other call act reply ∷ rest) =
    host-after client (cond (other == client) (update holds act reply) holds) rest ∙ by_test (other == client)
  where
    by_test : (b : Bool) → (cond b (update holds act reply) holds).host ≡ holds.host
    by_test true = host-stays holds act reply
    by_test false = refl
host-after client holds (entries.Command other call request reply ∷ rest) = host-after client holds rest

plugger : (holds : Holds) (n : ℕ) (entry : Entry) → IsPlug n entry → IsAllowed holds entry → holds.host ≡ true
plugger holds n (entries.Act client call (acts.Mode scanout width height) reply) is may = may.1.0
plugger holds n (entries.Act client call (acts.Unplug scanout) reply) is may = may.1.0
plugger holds n (entries.Act client call act reply) is may = absurd is
plugger holds n (entries.Command client call request reply) is may = absurd is

pub sync-behind : (setup : Setup) (H before after : List Entry) (client call n : ℕ) (reply : ActReply) → Sound setup H → H ≡ before ++ entries.Act client call (acts.Sync n) reply ∷ after
    → (plug : Entry) × Has before plug × IsPlug n plug × (client_of plug ≡ setup.clients + 1) × (setup.host ≡ true)
sync-behind setup H before after client call n reply sound is =
    let entry : Entry = entries.Act client call (acts.Sync n) reply in
    let found : HasPlug n before = (order-at [] before after entry (subst (λ (es : List Entry). AreInOrder [] es) is sound.order)).sync in
    let plug : Entry = found.0 in
    let place = split-has before plug found.1 in
    let whole : H ≡ place.0 ++ plug ∷ (place.1 ++ entry ∷ after) =
    is ∙ ap (λ (es : List Entry). es ++ entry ∷ after) place.2 ∙ append_assoc place.0 (plug ∷ place.1) (entry ∷ after) in
    let may = allowed-at setup [] place.0 (place.1 ++ entry ∷ after) plug (subst (λ (es : List Entry). AreAllowed setup [] es) whole sound.allowed) in
    let host : (setup.host && client_of plug == setup.clients + 1) ≡ true =
    sym (host-after (client_of plug) (first_holds setup (client_of plug)) place.0) ∙ plugger (holds_of setup (client_of plug) place.0) n plug found.2 may in
    let both = and-both setup.host (client_of plug == setup.clients + 1) host in
    (plug, found.1, found.2, grind (arith, nat_tests, both.1), both.0)
