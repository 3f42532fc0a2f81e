-- The numbers at which displays were plugged or unplugged, and those that are kept.
use Rattle.std.proofs.Common.{◌≡◌, ◌≢◌, ⊎_elim, ◌∙◌, sym, ap, refl, subst, arith, ℕ, true, false, cond, List, [], ◌∷◌, ◌++◌}
use Rattle.std.specs.Prelude.{◌↔◌}
use Rattle.std.specs.BTreeMap.{is_at}
use Rattle.std.specs.BTreeSet.{BTreeSet, Updates, contains}
use Rattle.std.specs.Ordering.{nat_cmp}
use Rattle.std.proofs.lemmas.Bool.Decides.{nat_tests}
use mathlib.Core.Logic.{dite}
use native.Mathlib.Decide.{ℕ_discrete}
use Rattle.vg_client_holds.specs.declared.act.Act.{Act}
use Rattle.vg_client_holds.specs.declared.act.Act.TheVariants as acts
use Rattle.vg_client_holds.specs.declared.act.ActReply.{ActReply}
use Rattle.vg_history.specs.declared.entry.Entry.TheVariants as entries
use Rattle.vg_machine.specs.Entries.{Entry}
use Rattle.vg_machine.specs.Order.{HasPlug, IsPlug, SyncOrder}
use Rattle.vg_machine.proofs.PlugLemmas.{plug-here, plug-left, plug-one}
use Rattle.vg_check.specs.TestsWithin.{KeepsPlug, is_met}

-- What is kept of the numbers.
abbrev pub AreKept : BTreeSet ℕ → List Entry → Type 0
AreKept plugs H = (n : ℕ) → (contains nat_cmp plugs n ≡ true) ↔ HasPlug n H

at-itself : (k n : ℕ) → k ≡ n → is_at (nat_cmp k) n ≡ true
at-itself k n same = grind (arith, nat_tests)

at-another : (k n : ℕ) → k ≢ n → is_at (nat_cmp k) n ≡ false
at-another k n other = grind (arith, nat_tests)

-- no entry but an act that plugs adds a number
kept-else : (plugs : BTreeSet ℕ) (H : List Entry) (entry : Entry) → ((n : ℕ) → IsPlug n entry → ⊥) → AreKept plugs H → AreKept plugs (H ++ entry ∷ [])
kept-else plugs H entry none kept n = (
  (λ has. plug-left n H (entry ∷ []) ((kept n).0 has)),
  (λ has. ⊎_elim (kept n).1 (λ (is : IsPlug n entry). absurd (none n is)) (plug-one n H entry has)),
)

kept-with : (old new : BTreeSet ℕ) (H : List Entry) (entry : Entry) (call : ℕ) → ((n : ℕ) → (call ≡ n) → IsPlug n entry) → ((n : ℕ) → IsPlug n entry → call ≡ n) → Updates nat_cmp old new call true
    → AreKept old H → AreKept new (H ++ entry ∷ [])
kept-with old new H entry call is_plug plug_is updates kept n = dite (ℕ_discrete call n)
    (λ same. (
      (λ has. plug-here n H entry (is_plug n same)),
      (λ has. updates.0 n ∙ ap (λ b. cond b true (contains nat_cmp old n)) (at-itself call n same)),
    ))
    (λ other.
    let stays : contains nat_cmp new n ≡ contains nat_cmp old n = updates.0 n ∙ ap (λ b. cond b true (contains nat_cmp old n)) (at-another call n other) in (
      (λ has. plug-left n H (entry ∷ []) ((kept n).0 (sym stays ∙ has))),
      (λ has. ⊎_elim (λ (was : HasPlug n H). stays ∙ (kept n).1 was) (λ (is : IsPlug n entry). absurd (other (plug_is n is))) (plug-one n H entry has)),
    ))

-- one act more
pub kept-act : (old new : BTreeSet ℕ) (H : List Entry) (client call : ℕ) (act : Act) (reply : ActReply) → KeepsPlug old call act new → AreKept old H → AreKept new (H ++ entries.Act client call act reply ∷ [])
kept-act old new H client call (acts.Mode scanout width height) reply keeps kept =
    kept-with old new H (entries.Act client call (acts.Mode scanout width height) reply) call (λ n same. same) (λ n same. same) keeps kept
kept-act old new H client call (acts.Unplug scanout) reply keeps kept =
    kept-with old new H (entries.Act client call (acts.Unplug scanout) reply) call (λ n same. same) (λ n same. same) keeps kept
kept-act old new H client call act reply keeps kept =
    subst (λ (plugs : BTreeSet ℕ). AreKept plugs (H ++ entries.Act client call act reply ∷ [])) (sym keeps) (kept-else old H (entries.Act client call act reply) (λ n is. is) kept)

-- one command more
pub kept-command : (old new : BTreeSet ℕ) (H : List Entry) (entry : Entry) → ((n : ℕ) → IsPlug n entry → ⊥) → new ≡ old → AreKept old H → AreKept new (H ++ entry ∷ [])
kept-command old new H entry none same kept = subst (λ (plugs : BTreeSet ℕ). AreKept plugs (H ++ entry ∷ [])) (sym same) (kept-else old H entry none kept)

-- a wait for the host is met
pub met-is : (plugs : BTreeSet ℕ) (H : List Entry) (client call : ℕ) (act : Act) (reply : ActReply) → AreKept plugs H → is_met plugs act ≡ true → SyncOrder H (entries.Act client call act reply)
met-is plugs H client call (acts.Sync n) reply kept met = (kept n).0 met
met-is plugs H client call act reply kept met = tt

pub is-met : (plugs : BTreeSet ℕ) (H : List Entry) (client call : ℕ) (act : Act) (reply : ActReply) → AreKept plugs H → SyncOrder H (entries.Act client call act reply) → is_met plugs act ≡ true
is-met plugs H client call (acts.Sync n) reply kept order = (kept n).1 order
is-met plugs H client call act reply kept order = refl
