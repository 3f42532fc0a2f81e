-- The checker over whole histories.
use Rattle.std.proofs.Common.{◌≡◌, ◌≢◌, ◌≤◌, ◌<◌, ◌+◌, ◌-◌, ◌^◌, ℕ, Bool, true, false, cond, not, List, [], ◌∷◌, ◌++◌, inl, inr, length, get_or, set, replicate, refl, ap, sym, subst, ◌∙◌, arith, length-append, length-set}
use Rattle.std.specs.Prelude.{Some, Result, Ok, Err, IfOk}
use Rattle.std.specs.declared.alloc.AllocError.{AllocError}
use Rattle.std.specs.BTreeMap.{is_at}
use Rattle.std.specs.Ordering.{nat_cmp}
use Rattle.std.specs.List.{count_by, list_any, slice_get}
use Rattle.std.proofs.lemmas.List.{get_or-set_other, get_or-set_same}
use Rattle.std.proofs.lemmas.List.Sums.{count_by-le-length}
use mathlib.Core.Logic.{dite}
use native.Mathlib.Decide.{ℕ_discrete}
use Rattle.vg_laws.proofs.Lists.{zeros-at}
use Rattle.vg_call_numbers.specs.Taken.{IsUsedBy}
use Rattle.vg_client_holds.specs.declared.act.Act.{Act}
use Rattle.vg_client_holds.specs.declared.act.ActReply.{ActReply}
use Rattle.vg_client_holds.specs.declared.setup.Setup.{Setup}
use Rattle.vg_client_holds.specs.Setup.{parties}
use Rattle.vg_history.specs.declared.entry.Entry.TheVariants as entries
use Rattle.vg_history.specs.Lines.{is_on_first, is_on_second}
use Rattle.vg_history.proofs.HistoryLemmas.{count_replay}
use Rattle.vg_machine.specs.CountedWithin.{act-counts, request-counts}
use Rattle.vg_machine.specs.Entries.{Entry}
use Rattle.vg_machine.specs.Order.{client_of, is_of_lane}
use Rattle.vg_machine.specs.Replay as machine
use Rattle.vg_machine.specs.Replay.{after, replay}
use Rattle.vg_machine.proofs.ReplayLemmas.{replay-more}
use Rattle.vg_device.specs.State.{State, start}
use Rattle.vg_device.specs.declared.request.Request.{Request}
use Rattle.vg_device.specs.declared.request.Reply.{Reply}
use Rattle.vg_wire.specs.Queues.{is_control}
use Rattle.vg_check.specs.declared.checker.Checker.{Checker}
use Rattle.vg_check.specs.declared.seen.Seen.{Seen}
use Rattle.vg_check.specs.Checked.{HasChecked, HasGoneOn, HasSeen, TellsRight, TellsWrong, entries_of}
use Rattle.vg_check.specs.Right.{IsRightly}
use Rattle.vg_check.specs.StepWithin.{AreNew, FailsAct, FailsCommand, IsSeenOf, KeepsAct, KeepsCommand, counted_up}
use Rattle.vg_check.specs.TestsWithin.{IsNew}
use Rattle.vg_check.proofs.ActLemmas as acting
use Rattle.vg_check.proofs.ActLemmas.{above-unused, below-test}
use Rattle.vg_check.proofs.CommandLemmas as asking
use Rattle.vg_check.proofs.CommandLemmas.{lane-low}
use Rattle.vg_check.proofs.EntryLemmas.{counted-more, counted-no, counted-yes, order-more}
use Rattle.vg_check.proofs.PlugLemmas.{is-met, kept-act, kept-command, met-is}
use Rattle.vg_check.proofs.PlaceLemmas.{get-none, get-pushed, get-set, get-some}
use Rattle.vg_check.proofs.SeenLemmas.{NumberLaws, seen-act, seen-command, seen-none, seen-other}

-- ---- a new checker

-- of so many clients
pub record IsMaking (setup : Setup) (all : List Seen) (place : ℕ) : Type 0 where
  pub count : length all ≡ place
  pub new : AreNew setup all

pub making-none : (setup : Setup) → IsMaking setup [] 0
making-none setup = record { count = refl; new = λ place seen is. absurd (get-none place seen is) }

pub making-more : (setup : Setup) (all : List Seen) (place : ℕ) (seen : Seen) → IsMaking setup all place → IsNew setup (place + 1) seen → IsMaking setup (all ++ seen ∷ []) (place + 1)
making-more setup all place seen is new = record {
  count = let count = is.count in let more : length (all ++ seen ∷ []) ≡ length all + 1 = length-append all (seen ∷ []) in omega (arith, count, more);
  new = λ k one at. elim (get-pushed all seen k one at) [
    | inl p ↦ subst (IsNew setup (k + 1)) p.same (subst (λ (n : ℕ). IsNew setup (n + 1) seen) (sym (p.place ∙ is.count)) new)
    | inr was ↦ is.new k one was
  ];
}

pub checked-none : (setup : Setup) (checker : Checker) → IsUsedBy (record { top = 0; gaps = [] }) [] → checker.display ≡ start setup → checker.control ≡ 0 → checker.cursor ≡ 0
    → checker.lanes.items ≡ replicate 66 0 → checker.plugs.keys ≡ [] → length checker.clients.items ≡ parties setup.clients setup.host → AreNew setup checker.clients.items
    → HasChecked setup [] checker
checked-none setup checker none display control cursor lanes plugs clients new = record {
  display = display;
  control = control;
  cursor = cursor;
  lanes = ap (λ (ns : List ℕ). length ns) lanes;
  counts = λ lane. ap (λ (ns : List ℕ). get_or ns lane 0) lanes ∙ zeros-at 66 lane;
  order = tt;
  plugs = λ n. (
    (λ has. let none : list_any (is_at (nat_cmp n)) [] ≡ true = ap (λ ks. list_any (is_at (nat_cmp n)) ks) (sym plugs) ∙ has in absurd cc),
    (λ has. absurd has.1),
  );
  clients = clients;
  seen = λ place seen at. seen-none setup (place + 1) seen none (new place seen at);
}

-- ---- the client of an entry

pub its : (setup : Setup) (H : List Entry) (checker : Checker) (client : ℕ) (seen : Seen) → HasChecked setup H checker → 1 ≤ client → IsSeenOf checker client seen → HasSeen setup client H seen
its setup H checker client seen is some at =
    let number : (client - 1) + 1 ≡ client = omega (arith, some) in
    subst (λ (n : ℕ). HasSeen setup n H seen) number (is.seen (client - 1) seen at)

seen-all : (setup : Setup) (H : List Entry) (entry : Entry) (old new : Checker) (after : Seen) → HasChecked setup H old → 1 ≤ client_of entry
    → new.clients.items ≡ set old.clients.items (client_of entry - 1) after → HasSeen setup (client_of entry) (H ++ entry ∷ []) after
    → (place : ℕ) (seen : Seen) → slice_get new.clients.items place ≡ Some seen → HasSeen setup (place + 1) (H ++ entry ∷ []) seen
seen-all setup H entry old new after is some clients kept place seen at =
    elim (get-set old.clients.items (client_of entry - 1) after place seen (subst (λ (all : List Seen). slice_get all place ≡ Some seen) clients at)) [
      | inl p ↦ (let here = p.place in let number : client_of entry ≡ place + 1 = omega (arith, some, here) in
          subst (HasSeen setup (place + 1) (H ++ entry ∷ [])) p.same (subst (λ (n : ℕ). HasSeen setup n (H ++ entry ∷ []) after) number kept))
      | inr o ↦ (let apart = o.apart in let other : client_of entry ≢ place + 1 = (λ e. apart (omega (arith, some, e))) in
          seen-other setup (place + 1) H entry seen other (is.seen place seen o.was))
    ]

-- ---- an act

pub act-goes : NumberLaws → (setup : Setup) (H : List Entry) (old : Checker) (client call : ℕ) (act : Act) (reply : ActReply) (new : Checker) → 1 ≤ client → HasChecked setup H old
    → KeepsAct old client call act reply new → HasGoneOn setup H (entries.Act client call act reply) new
act-goes laws setup H old client call act reply new some is kept =
    let entry : Entry = entries.Act client call act reply in
    let seen : HasSeen setup client H kept.seen = its setup H old client kept.seen is some kept.was in
    let right = acting.passes-right laws setup H kept.seen client call act reply seen old.display old.lanes.items is.display is.order is.counts
    (met-is old.plugs H client call act reply is.plugs kept.met) kept.done.passes in
    let above : kept.seen.numbers.top < call = acting.is-above kept.seen call act kept.done.passes.may.next in
    let counted : 1 ≤ call = omega (arith, above) in
    let after : HasSeen setup client (H ++ entry ∷ []) kept.after =
    seen-act laws setup client H call act reply kept.seen kept.after counted (above-unused kept.seen.numbers call above) kept.done.kept seen in
    record {
      right = right;
      checked = record {
        display = kept.done.display ∙ ap (λ (s : State). machine.after s entry) is.display ∙ sym (replay-more setup H entry);
        control = kept.control ∙ is.control ∙ sym (counted-no (is_on_first machine.display) H entry refl);
        cursor = kept.cursor ∙ is.cursor ∙ sym (counted-no (is_on_second machine.display) H entry refl);
        lanes = ap (λ (ns : List ℕ). length ns) kept.lanes ∙ is.lanes;
        counts = λ lane. ap (λ (ns : List ℕ). get_or ns lane 0) kept.lanes ∙ is.counts lane ∙ sym (counted-no (is_of_lane lane) H entry refl);
        plugs = kept-act old.plugs new.plugs H client call act reply kept.plugs is.plugs;
        order = order-more [] H entry is.order right.order;
        clients = ap (λ (all : List Seen). length all) kept.clients ∙ length-set old.clients.items (client - 1) kept.after ∙ is.clients;
        seen = seen-all setup H entry old new kept.after is some kept.clients after;
      };
    }

pub some-client : (client count clients : ℕ) → 1 ≤ client → client ≤ count → clients ≡ count → client - 1 < clients
some-client client count clients some most is = omega (arith, some, most, is)

pub act-fails : NumberLaws → (setup : Setup) (H : List Entry) (old : Checker) (client call : ℕ) (act : Act) (reply : ActReply) → 1 ≤ client → HasChecked setup H old
    → client ≤ parties setup.clients setup.host → FailsAct old client call act reply → IsRightly setup H (entries.Act client call act reply) → ⊥
act-fails laws setup H old client call act reply some is most fails right =
    let at = get-some old.clients.items (client - 1) (some-client client (parties setup.clients setup.host) (length old.clients.items) some most is.clients) in
    fails at.0 at.1 (is-met old.plugs H client call act reply is.plugs right.order.sync) (acting.right-passes laws setup H at.0 client call act reply (its setup H old client at.0 is some at.1) old.display old.lanes.items is.display is.order is.counts right)

-- ---- a command

entries-are : (setup : Setup) (H : List Entry) → (replay setup H).entries ≡ 0 + length H
entries-are setup H = count_replay machine.display act-counts request-counts (start setup) H

pub entries-all : (setup : Setup) (H : List Entry) (checker : Checker) → HasChecked setup H checker → entries_of checker ≡ length H
entries-all setup H checker is =
    let all = entries-are setup H in
    let same : entries_of checker ≡ (replay setup H).entries = ap (λ (s : State). s.entries) is.display in
    omega (arith, all, same)

-- a count stays below the number of all entries
few : (setup : Setup) (H : List Entry) (old : Checker) (p : Entry → Bool) → HasChecked setup H old → entries_of old < 2 ^ 31 - 1 → count_by p H < 2 ^ 31
few setup H old p is low =
    let count = count_by-le-length p H in
    let all = entries-all setup H old is in
    omega (arith, low, count, all)

up : (b : Bool) (old new : ℕ) → old < 2 ^ 31 → new ≡ cond b (counted_up old) old → new ≡ old + cond b 1 0
up true old new low is = omega (arith, low, is)
up false old new low is = omega (arith, is)

counted-up : (p : Entry → Bool) (H : List Entry) (entry : Entry) (old new : ℕ) → count_by p H < 2 ^ 31 → old ≡ count_by p H → new ≡ cond (p entry) (counted_up old) old → new ≡ count_by p (H ++ entry ∷ [])
counted-up p H entry old new low was is =
    up (p entry) old new (subst (λ (n : ℕ). n < 2 ^ 31) (sym was) low) is ∙ ap (λ (n : ℕ). n + cond (p entry) 1 0) was ∙ sym (counted-more p H entry)

turned : (b : Bool) (x y : ℕ) → cond b x y ≡ cond (not b) y x
turned true x y = refl
turned false x y = refl

pub command-goes : NumberLaws → (setup : Setup) (H : List Entry) (old : Checker) (client call : ℕ) (request : Request) (reply : Reply) (new : Checker) → 1 ≤ client → entries_of old < 2 ^ 31 - 1
    → HasChecked setup H old → KeepsCommand old client call request reply new → HasGoneOn setup H (entries.Command client call request reply) new
command-goes laws setup H old client call request reply new some low is kept =
    let entry : Entry = entries.Command client call request reply in
    let seen : HasSeen setup client H kept.seen = its setup H old client kept.seen is some kept.was in
    let right = asking.passes-right laws setup H kept.seen client call request reply seen old.display old.lanes.items is.display is.counts kept.done.passes in
    let parts = asking.parts-of laws setup H kept.seen client call request reply seen kept.done.passes.may.next in
    let lane : request.lane < 66 = subst (λ (n : ℕ). n < 66) (sym right.order.lane.0) (lane-low request.queue request.bytes) in
    let within : request.lane < length old.lanes.items = subst (λ (n : ℕ). request.lane < n) (sym is.lanes) lane in
    let after : HasSeen setup client (H ++ entry ∷ []) kept.after =
    seen-command laws setup client H call request reply kept.seen kept.after parts.counted parts.fresh lane parts.above kept.done.kept seen in
    record {
      right = right;
      checked = record {
        display = kept.done.display ∙ ap (λ (s : State). machine.after s entry) is.display ∙ sym (replay-more setup H entry);
        control = counted-up (is_on_first machine.display) H entry old.control new.control (few setup H old (is_on_first machine.display) is low) is.control kept.control;
        cursor = counted-up (is_on_second machine.display) H entry old.cursor new.cursor (few setup H old (is_on_second machine.display) is low) is.cursor
            (kept.cursor ∙ turned (is_control request.queue) old.cursor (counted_up old.cursor));
        lanes = ap (λ (ns : List ℕ). length ns) kept.lanes ∙ length-set old.lanes.items request.lane request.ordinal ∙ is.lanes;
        counts = λ n. dite (ℕ_discrete request.lane n)
            (λ on. ap (λ (ns : List ℕ). get_or ns n 0) kept.lanes
            ∙ ap (λ (k : ℕ). get_or (set old.lanes.items request.lane request.ordinal) k 0) (sym on)
            ∙ get_or-set_same old.lanes.items request.lane request.ordinal 0 within
            ∙ right.order.lane.1
            ∙ ap (λ (k : ℕ). count_by (is_of_lane k) H + 1) on
            ∙ sym (counted-yes (is_of_lane n) H entry (asking.is-on request n on)))
            (λ off. ap (λ (ns : List ℕ). get_or ns n 0) kept.lanes
            ∙ get_or-set_other old.lanes.items request.lane n request.ordinal 0 (λ e. off (sym e))
            ∙ is.counts n
            ∙ sym (counted-no (is_of_lane n) H entry (asking.is-off request n off)));
        plugs = kept-command old.plugs new.plugs H entry (λ n is. is) kept.plugs is.plugs;
        order = order-more [] H entry is.order right.order;
        clients = ap (λ (all : List Seen). length all) kept.clients ∙ length-set old.clients.items (client - 1) kept.after ∙ is.clients;
        seen = seen-all setup H entry old new kept.after is some kept.clients after;
      };
    }

pub command-fails : NumberLaws → (setup : Setup) (H : List Entry) (old : Checker) (client call : ℕ) (request : Request) (reply : Reply) → 1 ≤ client → HasChecked setup H old
    → client ≤ parties setup.clients setup.host → FailsCommand old client call request reply → IsRightly setup H (entries.Command client call request reply) → ⊥
command-fails laws setup H old client call request reply some is most fails right =
    let at = get-some old.clients.items (client - 1) (some-client client (parties setup.clients setup.host) (length old.clients.items) some most is.clients) in
    fails at.0 at.1 (asking.right-passes laws setup H at.0 client call request reply (its setup H old client at.0 is some at.1) old.display old.lanes.items is.display is.counts right)

-- ---- what the answer tells

pub act-tells : NumberLaws → (old : Checker) (client call : ℕ) (act : Act) (reply : ActReply) (new : Checker) (result : Result Bool AllocError) → 1 ≤ client
    → IfOk result (λ right. right ≡ true → KeepsAct old client call act reply new) → IfOk result (λ right. right ≡ true → TellsRight old (entries.Act client call act reply) new)
act-tells laws old client call act reply new (Ok right) some keeps = λ is setup H checked. act-goes laws setup H old client call act reply new some checked (keeps is)
act-tells laws old client call act reply new (Err error) some keeps = tt

pub act-refutes : NumberLaws → (old : Checker) (client call : ℕ) (act : Act) (reply : ActReply) (result : Result Bool AllocError) → 1 ≤ client
    → IfOk result (λ right. right ≡ false → FailsAct old client call act reply) → IfOk result (λ right. right ≡ false → TellsWrong old (entries.Act client call act reply))
act-refutes laws old client call act reply (Ok right) some fails = λ is setup H checked most. act-fails laws setup H old client call act reply some checked most (fails is)
act-refutes laws old client call act reply (Err error) some fails = tt

pub command-tells : NumberLaws → (old : Checker) (client call : ℕ) (request : Request) (reply : Reply) (new : Checker) (result : Result Bool AllocError) → 1 ≤ client → entries_of old < 2 ^ 31 - 1
    → IfOk result (λ right. right ≡ true → KeepsCommand old client call request reply new) → IfOk result (λ right. right ≡ true → TellsRight old (entries.Command client call request reply) new)
command-tells laws old client call request reply new (Ok right) some low keeps = λ is setup H checked. command-goes laws setup H old client call request reply new some low checked (keeps is)
command-tells laws old client call request reply new (Err error) some low keeps = tt

pub command-refutes : NumberLaws → (old : Checker) (client call : ℕ) (request : Request) (reply : Reply) (result : Result Bool AllocError) → 1 ≤ client
    → IfOk result (λ right. right ≡ false → FailsCommand old client call request reply) → IfOk result (λ right. right ≡ false → TellsWrong old (entries.Command client call request reply))
command-refutes laws old client call request reply (Ok right) some fails = λ is setup H checked most. command-fails laws setup H old client call request reply some checked most (fails is)
command-refutes laws old client call request reply (Err error) some fails = tt
