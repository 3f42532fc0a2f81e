-- What a client's acts and commands change of what its token says.
use Rattle.std.proofs.Common.{◌≡◌, ◌≢◌, inl, inr, ⊎_elim, ◌+◌, ◌<◌, ◌≤◌, ◌==◌, ◌∙◌, sym, ap, refl, subst, arith, eq-eqb, ne_eqb, true≢false, ℕ, Bool, true, false, nat_lt, cond, not, ◌&&◌, List, [], ◌∷◌, ◌++◌, length, map, append_assoc, append-nil, length-append, Some, is_none, Result, Ok, Err}
use Rattle.std.specs.Prelude.{OnErr}
use Rattle.std.specs.List.{AllByRecursion, list_all, range_with_len}
use Rattle.std.proofs.lemmas.Bool.Decides.{nat_tests}
use mathlib.Core.List.{IsPrefix}
use mathlib.Core.Option.{some}
use lib.ListN.{get_elem?}
use Rattle.vg_laws.proofs.Bools.{and-both}
use Rattle.vg_client_holds.specs.declared.setup.Setup.{Setup}
use Rattle.vg_client_holds.specs.Holds.{denied_of}
use Rattle.vg_client_holds.specs.declared.act.Act as the_act
use Rattle.vg_client_holds.specs.declared.act.Act.TheVariants as acts
use Rattle.vg_client_holds.specs.declared.act.ActReply.{ActReply}
use Rattle.vg_client_holds.specs.declared.act.ActReply.TheVariants as act_replies
use Rattle.vg_machine.specs.Entries.{Entry}
use Rattle.vg_history.specs.declared.entry.Entry.TheVariants.{Act, Command}
use Rattle.vg_history.specs.Lists.{Has, bit, times}
use Rattle.vg_history.proofs.ListLemmas.{has_map, has_prefix, has_right, has_snoc, prefix_more, prefix_self, prefix_trans, times_append, times_has, upto_one}
use Rattle.vg_device.specs.declared.request.Request.{Request}
use Rattle.vg_device.specs.State.{State, start}
use Rattle.vg_machine.specs.Replay.{AgreesFrom, display}
use Rattle.vg_machine.specs.Order.{by_call, call_of, client_of, is_leave, of_client, updated}
use Rattle.vg_book.specs.Places.{HasCall, IsCurrent, IsPlaced, begun_of}
use Rattle.vg_book.specs.Tokens.{Acted, TakesBack, Watched, finished_of}
use Rattle.vg_book.specs.Views.{IsEntryOf, drawn, entry_of, order_call, ordered_of, settled, without}
use Rattle.vg_history.specs.Fences.{FenceData}
use Rattle.vg_driver.specs.declared.ticket.Answer.{Answer}
use Rattle.vg_driver.specs.declared.ticket.Ticket.{Ticket}
use Rattle.vg_driver.specs.Tickets.{Account, Awaited, DonePass, Finished, IsOf, IsOut, Order, Spent, Submitted, Token}
use Rattle.vg_client.specs.Accounts.{AreEntries, AreOfOut, AreOut, ComesBack, HasNothingOut, IsAccount, IsActive, IsAdded, IsAddedAct, IsBegun, IsIdle, IsNew, IsPresent, IsReply, IsUnadded, MayAct, is_below, mine_of}
use Rattle.vg_client.specs.Outcomes.{IsNumbered}
use Rattle.vg_client.proofs.OutcomeLemmas.{at-last, prefix-length, stands-behind}
use Rattle.vg_client.proofs.OwnLemmas.{own-none, own-numbers}
use Rattle.vg_client.proofs.ReplayLemmas.{agrees-last}
use Rattle.vg_client.proofs.RunningLemmas.{AllSeen, IsLater, out-call, owned-call, present-later, standing-act, standing-drawn, standing-later}

-- where nothing is out, a client's entries have the numbers 1 to as many as it has drawn
pub idle-numbers : (token : Token) → IsCurrent display token → token.account.out ≡ [] → AllSeen token → map call_of (by_call (of_client token.account.number token.seen)) ≡ range_with_len 1 token.account.used
idle-numbers token current idle all =
    own-numbers token.account.number token.account.used token.seen current.history.once (λ e h at. owned-call token e current (current.known.known e h at)) all

-- a reply in a history that agrees is the display's in some state
reply-in : (token : Token) (setup : Setup) (log : List Entry) (client call : ℕ) (act : the_act.Act) (reply : ActReply) → token.start ≡ Some (start setup) → token.seen ≡ log ++ Act client call act reply ∷ []
    → ((s : State) → token.start ≡ Some s → AgreesFrom s token.seen) → IsReply client act reply
reply-in token setup log client call act reply begun seen agrees =
    (_, agrees-last (start setup) log (Act client call act reply) (subst (λ (xs : List Entry). AgreesFrom (start setup) xs) seen (agrees (start setup) begun)))

-- what was seen ends with this entry, behind all that was seen before
abbrev IsEndedBy : List Entry → List Entry → ℕ → Entry → Type 0
IsEndedBy seen seen' number entry = IsPrefix seen seen' × IsNumbered seen' number entry × (length seen < number)

ended-by-one : (seen seen' log : List Entry) (number : ℕ) (entry : Entry) → IsPrefix seen log → seen' ≡ log ++ entry ∷ [] → number ≡ length seen' → IsEndedBy seen seen' number entry
ended-by-one seen seen' log number entry p is counted =
    let last : number ≡ length log + 1 = counted ∙ ap (λ (xs : List Entry). length xs) is ∙ length-append log (entry ∷ []) in
    let longer = prefix-length seen log p in (
      subst (λ (xs : List Entry). IsPrefix seen xs) (sym is) (prefix_more seen log (entry ∷ []) p),
      (length log, last, subst (λ (xs : List Entry). get_elem? xs (length log) ≡ some entry) (sym is) (at-last log entry (length log) refl)),
      omega (arith, last, longer),
    )

-- an act more
pub act-added : (token token' : Token) (act : the_act.Act) (n : ℕ) (reply : ActReply) → MayAct token act → (token.account.out ≡ [] → AllSeen token) → IsCurrent display token' × IsPlaced token'.seen token.account.number (begun_of token.account) (token.account.used + 1)
    → (HasCall token.seen token.account.number (token.account.used + 1) → ⊥) → Acted display token act token' n reply → IsAddedAct token n act reply token'
act-added token token' act n reply may all step apart acted =
    let is = may.account_is in
    let number : ℕ = token.account.number in
    let call : ℕ = token.account.used + 1 in
    let entry : Entry = Act number call act reply in
    let told = acted.account in
    let ends : IsEndedBy token.seen token'.seen n entry = ended-by-one token.seen token'.seen acted.log n entry acted.more acted.seen acted.number_is in (
      record {
        start = acted.start;
        number = ap (λ (a : Account). a.number) told;
        used = ap (λ (a : Account). a.used) told;
        holds = ap (λ (a : Account). a.holds) told;
        mine = ap (λ (a : Account). a.mine) told;
        out = ap (λ (a : Account). a.out) told;
        account_is = record { setup = is.setup; standing = standing-act is.setup token token' act n reply is.standing may all step.0 acted };
        more = ends.0;
        numbered = ends.1;
        behind = ends.2;
        call = refl;
        placed = step.1;
        apart = apart;
      },
      reply-in token' is.setup acted.log number call act reply (acted.start ∙ is.standing.begun) acted.seen acted.history.agrees,
    )

-- a client that has seen more knows no more of its own calls
pub later-watched : (token token' : Token) → IsCurrent display token' → token'.account ≡ token.account → token'.start ≡ token.start → IsPrefix token.seen token'.seen → IsLater token token'
later-watched token token' current same start more = record {
  current = current;
  start = start;
  number = ap (λ (a : Account). a.number) same;
  opening = ap (λ (a : Account). a.opening) same;
  used = ap (λ (a : Account). a.used) same;
  more = more;
  out = λ o h. subst (λ (a : Account). Has a.out o) same h;
  mine = λ e h. inl (subst (λ (a : Account). Has a.mine e) same h);
}

pub account-later : (token token' : Token) → IsAccount token → IsPresent token → IsLater token token' → IsAccount token'
account-later token token' is present later = record { setup = is.setup; standing = standing-later is.setup token token' is.standing present later }

pub met-active : (token token' : Token) → IsActive token → IsCurrent display token' → token'.account ≡ token.account → token'.start ≡ token.start → IsPrefix token.seen token'.seen → IsActive token'
met-active token token' active current same start more =
    let later = later-watched token token' current same start more in
    record {
      account_is = account-later token token' active.account_is active.present later;
      begun = subst (λ (k : ℕ). 1 ≤ k) (sym later.used) active.begun;
      present = present-later token token' active.present later;
    }

-- an entry more behind what was seen more
added-behind : (token met token' : Token) (n : ℕ) (entry : Entry) → Watched display token met → IsAdded met n entry token' → IsAdded token n entry token'
added-behind token met token' n entry watched added =
    let same = watched.account in
    let number : met.account.number ≡ token.account.number = ap (λ (a : Account). a.number) same in
    let used : met.account.used + 1 ≡ token.account.used + 1 = ap (λ (a : Account). a.used + 1) same in
    record {
      start = added.start ∙ watched.start;
      number = added.number ∙ number;
      used = added.used ∙ used;
      holds = added.holds ∙ ap (λ (a : Account). updated a.holds entry) same;
      mine = added.mine ∙ ap (λ (a : Account). a.mine ++ entry ∷ []) same;
      out = added.out ∙ ap (λ (a : Account). a.out) same;
      account_is = added.account_is;
      more = prefix_trans token.seen met.seen token'.seen watched.more added.more;
      numbered = added.numbered;
      behind = let longer = prefix-length token.seen met.seen watched.more in let behind = added.behind in omega (arith, longer, behind);
      call = added.call ∙ used;
      placed = subst (λ (a : Account). IsPlaced token'.seen a.number (begun_of a) (a.used + 1)) same added.placed;
      apart = λ c. added.apart (c.0, has_prefix token.seen met.seen c.0 watched.more c.1, c.2 ∙ sym number, c.3 ∙ sym used);
    }

-- a wait for a fence
pub wait-added : (token token' : Token) (fence : FenceData) (n : ℕ) (awaited : Awaited token fence n token') → IsActive token → IsCurrent display awaited.met → (awaited.met.account.out ≡ [] → AllSeen awaited.met) → IsCurrent display token' × IsPlaced token'.seen awaited.met.account.number (begun_of awaited.met.account) (awaited.met.account.used + 1)
    → (HasCall awaited.met.seen awaited.met.account.number (awaited.met.account.used + 1) → ⊥) → IsAddedAct token n (acts.Await fence.lane fence.ordinal) act_replies.Ok token'
wait-added token token' fence n awaited active current all step apart =
    let met = awaited.met in
    let watched = awaited.watched in
    let act : the_act.Act = acts.Await fence.lane fence.ordinal in
    let now : IsActive met = met-active token met active current watched.account watched.start watched.more in
    let none : met.account.used ≡ 0 → act ≡ acts.Enter = λ zero. let some = now.begun in absurd (omega (arith, some, zero)) in
    let added = act-added met token' act n awaited.reply (record {
      account_is = now.account_is;
      first = none;
      present = now.present;
      denied = tt;
      part = tt;
      idle = λ gives. absurd (true≢false (sym gives));
      known = awaited.known;
    }) all step apart awaited.acted in
    let moved : IsAdded token n (Act met.account.number (met.account.used + 1) act awaited.reply) token' = added-behind token met token' n (Act met.account.number (met.account.used + 1) act awaited.reply) watched added.0 in
    let ok : awaited.reply ≡ act_replies.Ok = added.1.1 in
    let P : Account → ActReply → Type 0 = λ a r. IsAdded token n (Act a.number (a.used + 1) act r) token' in (
      subst (λ (r : ActReply). P token.account r) ok (subst (λ (a : Account). P a awaited.reply) watched.account moved),
      subst (λ (r : ActReply). IsReply token.account.number act r) ok (added.1.0, added.1.1),
    )

-- an act for which there was no memory
pub watched-kept : (token token' : Token) → Watched display token token' → IsUnadded token token'
watched-kept token token' watched = record {
  start = watched.start;
  number = ap (λ (a : Account). a.number) watched.account;
  mine = ap (λ (a : Account). a.mine) watched.account;
  out = ap (λ (a : Account). a.out) watched.account;
  more = watched.more;
}

-- nothing was done
pub same-kept : (token token' : Token) → token' ≡ token → IsUnadded token token'
same-kept token token' same = record {
  start = ap (λ (t : Token). t.start) same;
  number = ap (λ (t : Token). t.account.number) same;
  mine = ap (λ (t : Token). mine_of t) same;
  out = ap (λ (t : Token). t.account.out) same;
  more = subst (λ (t : Token). IsPrefix token.seen t.seen) (sym same) (prefix_self token.seen);
}

-- the ticket of what was submitted is that of its order
pub is-out : (token mid : Token) (requests : ℕ → Request) (ticket : Ticket) → Submitted token requests ticket mid → IsOut mid.account ticket
is-out token mid requests ticket is =
    let request = requests ticket.fence.ordinal in
    let P : List Order → Type 0 = λ os. Has os (ordered_of token.account request) in (
      ordered_of token.account request,
      subst P (sym (ap (λ (a : Account). a.out) is.drawn.account)) (has_right token.account.out (ordered_of token.account request ∷ []) (ordered_of token.account request) (inl refl)),
      record { call = sym is.call; lane = sym is.lane; ordinal = sym is.ordinal },
    )

-- a ticket that is behind those of its lane has a greater ordinal than their orders
below-ordinal : (ticket other : Ticket) → is_below ticket other ≡ true → other.fence.lane ≡ ticket.fence.lane → other.fence.ordinal < ticket.fence.ordinal
below-ordinal ticket other below same = by_test (other.fence.lane == ticket.fence.lane) (eq-eqb other.fence.lane ticket.fence.lane same) below
  where
    by_test : (b : Bool) → b ≡ true → cond b (nat_lt other.fence.ordinal ticket.fence.ordinal) true ≡ true → other.fence.ordinal < ticket.fence.ordinal
    by_test true is below = grind (arith, nat_tests, below)
    by_test false is below = absurd (cc is)

all-below : (orders : List Order) (tickets : List Ticket) (ticket : Ticket) → AreOut orders tickets → list_all (is_below ticket) tickets ≡ true → (o : Order) → Has orders o → o.request.lane ≡ ticket.fence.lane → o.request.ordinal < ticket.fence.ordinal
all-below [] [] ticket are all o has same = absurd has
all-below [] (t ∷ tickets) ticket are all o has same = absurd are
all-below (order ∷ orders) [] ticket are all o has same = absurd are
all-below (order ∷ orders) (t ∷ tickets) ticket are all o (inl is) same =
    let lane : t.fence.lane ≡ ticket.fence.lane = sym are.0.lane ∙ ap (λ (p : Order). p.request.lane) is ∙ same in
    let below = below-ordinal ticket t (and-both (is_below ticket t) (list_all (is_below ticket) tickets) all).0 lane in
    let ordinal : o.request.ordinal ≡ t.fence.ordinal = ap (λ (p : Order). p.request.ordinal) (sym is) ∙ are.0.ordinal in
    omega (arith, below, ordinal)
all-below (order ∷ orders) (t ∷ tickets) ticket are all o (inr has) same = all-below orders tickets ticket are.1 (and-both (is_below ticket t) (list_all (is_below ticket) tickets) all).1 o has same

-- what was submitted the client may ask
pub allows-asked : (token mid : Token) (requests : ℕ → Request) (ticket : Ticket) → Submitted token requests ticket mid → token.account.holds.host ≡ false
    → display.allows token.account.holds (requests ticket.fence.ordinal) ≡ true
allows-asked token mid requests ticket is guest =
    let request = requests ticket.fence.ordinal in
    ap (λ (host : Bool). not host && is_none (denied_of token.account.holds request.queue request.bytes)) guest ∙ ap is_none is.allowed

-- a command that was begun
pub begun-added : (token mid : Token) (requests : ℕ → Request) (ticket : Ticket) (begun : List Ticket) → IsActive token → AreOut token.account.out begun → list_all (is_below ticket) begun ≡ true → Submitted token requests ticket mid → IsCurrent display mid
    → (IsPrefix token.seen mid.seen → IsPlaced mid.seen token.account.number (begun_of token.account) (token.account.used + 1)) → (HasCall token.seen token.account.number (token.account.used + 1) → ⊥) → IsBegun token requests ticket mid
begun-added token mid requests ticket begun active are last is current placed apart =
    let request : Request = requests ticket.fence.ordinal in
    let setup : Setup = active.account_is.setup in
    let more : IsPrefix token.seen mid.seen = subst (λ (es : List Entry). IsPrefix token.seen es) (sym is.drawn.seen) (prefix_self token.seen) in
    record {
      submitted = is;
      account_is = record {
        setup = setup;
        standing = standing-drawn setup token mid request active.account_is.standing active.begun (record {
          current = current;
          account = is.drawn.account;
          seen = is.drawn.seen;
          start = is.drawn.start;
          lane = sym is.lane ∙ is.of_bytes;
          above = λ o has same. let below = all-below token.account.out begun ticket are last o has (same ∙ sym is.lane) in let ordinal = is.ordinal in omega (arith, below, ordinal);
        });
      };
      next = record { used = ap (λ (a : Account). a.used) is.drawn.account; more = more; placed = placed more; apart = apart };
    }

-- what is left of the orders that are out
without-in : (n : ℕ) (os : List Order) (o : Order) → Has (without n os) o → Has os o
without-in n [] o has = has
without-in n (x ∷ xs) o has = by_test (x.call == n) has (without-in n xs o)
  where
    by_test : (b : Bool) → Has (cond b xs (x ∷ without n xs)) o → (Has (without n xs) o → Has xs o) → Has (x ∷ xs) o
    by_test true h rest = inr h
    by_test false (inl is) rest = inl is
    by_test false (inr h) rest = inr (rest h)

without-last : (n : ℕ) (os : List Order) (last : Order) → ((o : Order) → Has os o → o.call ≢ n) → last.call ≡ n → without n (os ++ last ∷ []) ≡ os
without-last n [] last others is = ap (λ (b : Bool). cond b [] (last ∷ [])) (eq-eqb last.call n is)
without-last n (x ∷ xs) last others is =
    ap (λ (b : Bool). cond b (xs ++ last ∷ []) (x ∷ without n (xs ++ last ∷ []))) (ne_eqb x.call n (others x (inl refl)))
    ∙ ap (λ (os : List Order). x ∷ os) (without-last n xs last (λ o h. others o (inr h)) is)

without-first : (n : ℕ) (o : Order) (os : List Order) → o.call ≡ n → without n (o ∷ os) ≡ os
without-first n o os is = ap (λ (b : Bool). cond b os (o ∷ without n os)) (eq-eqb o.call n is)

-- a client that took an order back knows no more calls
pub back-current : (token token' : Token) (done : DonePass) → IsCurrent display token → TakesBack display token done token' → IsCurrent display token'
back-current token token' done current takes = record { known = takes.known; history = takes.history; whole = ap (λ (a : Account). a.spent) takes.account ∙ current.whole }

later-back : (token token' : Token) (done : DonePass) → IsCurrent display token → TakesBack display token done token' → IsLater token token'
later-back token token' done current takes =
    let told = takes.account in
    record {
      current = back-current token token' done current takes;
      start = takes.start;
      number = ap (λ (a : Account). a.number) told;
      opening = ap (λ (a : Account). a.opening) told;
      used = ap (λ (a : Account). a.used) told;
      more = takes.more;
      out = λ o h. without-in done.order.call token.account.out o (subst (λ (os : List Order). Has os o) (ap (λ (a : Account). a.out) told) h);
      mine = λ e h.
          ⊎_elim (λ (old : Has (mine_of token) e). inl old) (λ (new : entry_of (finished_of display done) ≡ e). inr (done.order, takes.out, (done.reply, sym new)))
          (has_snoc (mine_of token) (entry_of (finished_of display done)) e (subst (λ (es : List Entry). Has es e) (ap (λ (a : Account). a.mine) told) h));
    }

-- the order that was submitted last is the ticket's
last-order : (token mid : Token) (requests : ℕ → Request) (ticket : Ticket) (o : Order) → IsCurrent display token → Submitted token requests ticket mid → Has mid.account.out o → IsOf ticket o → o ≡ ordered_of token.account (requests ticket.fence.ordinal)
last-order token mid requests ticket o current is has of =
    let last : Order = ordered_of token.account (requests ticket.fence.ordinal) in
    let number : o.call ≡ token.account.used + 1 = of.call ∙ is.call in
    ⊎_elim (λ (old : Has token.account.out o). let most = (out-call token o current old).1 in absurd (omega (arith, most, number))) (λ (at : last ≡ o). sym at)
    (has_snoc token.account.out last o (subst (λ (os : List Order). Has os o) (ap (λ (a : Account). a.out) is.drawn.account) has))

out-before : (token mid : Token) (requests : ℕ → Request) (ticket : Ticket) (o : Order) → IsCurrent display token → Submitted token requests ticket mid → o ≡ ordered_of token.account (requests ticket.fence.ordinal) → without o.call mid.account.out ≡ token.account.out
out-before token mid requests ticket o current is same =
    let last : Order = ordered_of token.account (requests ticket.fence.ordinal) in
    let number : o.call ≡ token.account.used + 1 = ap (λ (p : Order). p.call) same in
    ap (without o.call) (ap (λ (a : Account). a.out) is.drawn.account)
    ∙ without-last o.call token.account.out last (λ p h at. let most = (out-call token p current h).1 in absurd (omega (arith, most, number, at))) (sym number)

placed-more : (es es' : List Entry) (client : ℕ) (begun : List ℕ) (call : ℕ) → IsPrefix es es' → IsPlaced es client begun call → IsPlaced es' client begun call
placed-more es es' client begun call more placed i low below ready =
    let stands = placed i low below ready in
    record { front = stands.front; begins = prefix_trans stands.front es es' stands.begins more; has = stands.has; apart = stands.apart }

-- a command more: what was begun last has come back
pub command-added : (token mid token' : Token) (requests : ℕ → Request) (ticket : Ticket) (answer : Answer) → IsActive token → IsBegun token requests ticket mid → Finished mid ticket answer token'
    → IsAdded token answer.entry (Command token.account.number (token.account.used + 1) (requests ticket.fence.ordinal) answer.reply) token'
command-added token mid token' requests ticket answer active begun finished =
    let is = begun.submitted in
    let takes = finished.back in
    let done = finished.done in
    let request = requests ticket.fence.ordinal in
    let number : ℕ = token.account.number in
    let call : ℕ = token.account.used + 1 in
    let setup : Setup = begun.account_is.setup in
    let current = active.account_is.standing.current in
    let order : done.order ≡ ordered_of token.account request = last-order token mid requests ticket done.order current is takes.out finished.is in
    let told : token'.account ≡ settled (drawn token.account request) (record { order = ordered_of token.account request; reply = done.reply; place = done.place }) =
    takes.account ∙ ap (λ (a : Account). settled a (finished_of display done)) is.drawn.account
    ∙ ap (λ (o : Order). settled (drawn token.account request) (record { order = o; reply = done.reply; place = done.place })) order in
    let P : (_ : _) → Type 0 = λ r. IsAdded token answer.entry (Command number call request r) token' in
    let entry : Entry = Command number call request done.reply in
    let more : IsPrefix token.seen token'.seen = subst (λ (xs : List Entry). IsPrefix xs token'.seen) is.drawn.seen takes.more in
    let stands : get_elem? token'.seen done.place ≡ some entry =
    subst (λ (o : Order). get_elem? token'.seen done.place ≡ some (Command o.client o.call o.request done.reply)) order takes.place in
    let behind = stands-behind token token'.seen done.place entry begun.next.apart more refl refl stands in
    let n_is = finished.entry in
    let present : IsPresent mid = subst (λ (es : List Entry). AllByRecursion (λ e. is_leave e ≡ false) es) (sym (ap (λ (a : Account). a.mine) is.drawn.account)) active.present in
    subst P (sym finished.reply) (record {
      start = takes.start ∙ is.drawn.start;
      number = ap (λ (a : Account). a.number) told;
      used = ap (λ (a : Account). a.used) told;
      holds = ap (λ (a : Account). a.holds) told;
      mine = ap (λ (a : Account). a.mine) told;
      out = ap (λ (a : Account). a.out) takes.account ∙ out-before token mid requests ticket done.order current is order;
      account_is = account-later mid token' begun.account_is present (later-back mid token' done begun.account_is.standing.current takes);
      more = more;
      numbered = (done.place, n_is, stands);
      behind = omega (arith, behind, n_is);
      call = refl;
      placed = placed-more mid.seen token'.seen number (begun_of token.account) call takes.more begun.next.placed;
      apart = begun.next.apart;
    })

-- a command that came back unrun
pub unrun-kept : (token mid token' : Token) (requests : ℕ → Request) (ticket : Ticket) → IsActive token → IsBegun token requests ticket mid → Spent mid ticket token' → IsUnadded token token'
unrun-kept token mid token' requests ticket active begun spent =
    let is = begun.submitted in
    let current = active.account_is.standing.current in
    let order = last-order token mid requests ticket spent.pass.order current is spent.back.out spent.is in
    record {
      start = spent.back.start ∙ is.drawn.start;
      number = ap (λ (a : Account). a.number) spent.back.account ∙ ap (λ (a : Account). a.number) is.drawn.account;
      mine = ap (λ (a : Account). a.mine) spent.back.account ∙ ap (λ (a : Account). a.mine) is.drawn.account;
      out = ap (λ (a : Account). a.out) spent.back.account ∙ out-before token mid requests ticket spent.pass.order current is order;
      more = subst (λ (xs : List Entry). IsPrefix xs token'.seen) is.drawn.seen spent.back.more;
    }

-- a client that was made
pub new-account : (setup : Setup) (token : Token) → IsNew setup token → IsAccount token
new-account setup token is =
    let none : (e : Entry) → Has token.seen e → client_of e ≢ token.account.number = λ e h at.
    ⊎_elim (λ (mine : Has (mine_of token) e). absurd (subst (λ (es : List Entry). Has es e) is.mine mine)) (λ (o : (o : Order) × Has token.account.out o × IsEntryOf o e). absurd (subst (λ (os : List Order). Has os o.0) is.idle o.1))
    (is.current.known.known e h at) in
    let idle : (o : Order) → Has token.account.out o → ⊥ = λ o h. subst (λ (os : List Order). Has os o) is.idle h in
    record {
      setup = setup;
      standing = record {
        current = is.current;
        begun = is.begun;
        opening = is.opening;
        own = own-none setup token.account.number [] token.seen none;
        entered = λ some. let used = is.used in absurd (omega (arith, some, used));
        lanes = λ o h. absurd (idle o h);
        rising = λ o p h k same later. absurd (idle o h);
        rising_mine = λ o client call request reply h k same later. absurd (idle o h);
      };
    }

pub new-may-enter : (setup : Setup) (token : Token) → IsNew setup token → MayAct token acts.Enter
new-may-enter setup token is =
    let Present : List Entry → Type 0 = λ xs. AllByRecursion (λ e. is_leave e ≡ false) xs in
    record { account_is = new-account setup token is; first = λ _. refl; present = subst Present (sym is.mine) tt; denied = tt; part = tt; idle = λ _. is.idle; known = tt }

-- what was begun comes back, in its order: so far these orders have, and these tickets are left
pub record IsFinishing (token : Token) (left : List Ticket) (run : Bool) (token' : Token) : Type 0 where
  pub before : List Order
  pub split : before ++ token'.account.out ≡ token.account.out
  pub out : AreOut token'.account.out left
  pub back : List Entry
  pub came : AreOfOut token.account.out back
  pub start : token'.start ≡ token.start
  pub number : token'.account.number ≡ token.account.number
  pub mine : mine_of token' ≡ mine_of token ++ back
  pub more : IsPrefix token.seen token'.seen
  pub all : run ≡ true → IsActive token → AreEntries before back × (token'.account.used ≡ token.account.used) × (token'.account.holds ≡ token.account.holds) × IsActive token'

pub finishing-none : (token : Token) (left : List Ticket) → AreOut token.account.out left → IsFinishing token left true token
finishing-none token left out = record {
  before = [];
  split = refl;
  out = out;
  back = [];
  came = tt;
  start = refl;
  number = refl;
  mine = sym (append-nil (mine_of token));
  more = prefix_self token.seen;
  all = λ _ active. (tt, refl, refl, active);
}

-- the first ticket is that of the first order
abbrev BeginsBy : Ticket → List Ticket → List Order → Type 0
BeginsBy ticket left orders = (o : Order) × (os : List Order) × (orders ≡ o ∷ os) × IsOf ticket o × AreOut os left

begins-by : (orders : List Order) (ticket : Ticket) (left : List Ticket) → AreOut orders (ticket ∷ left) → BeginsBy ticket left orders
begins-by [] ticket left out = absurd out
begins-by (o ∷ os) ticket left out = (o, os, refl, out.0, out.1)

pub first-out : (token token' : Token) (ticket : Ticket) (left left' : List Ticket) (run : Bool) → IsFinishing token left run token' → left ≡ ticket ∷ left' → IsOut token'.account ticket
first-out token token' ticket left left' run is cut =
    let b = begins-by token'.account.out ticket left' (subst (λ (ts : List Ticket). AreOut token'.account.out ts) cut is.out) in
    (b.0, subst (λ (os : List Order). Has os b.0) (sym b.2) (inl refl), b.3)

of-out-more : (orders : List Order) (back : List Entry) (e : Entry) → AreOfOut orders back → ((order : Order) × Has orders order × IsEntryOf order e) → AreOfOut orders (back ++ e ∷ [])
of-out-more orders [] e came here = (here, tt)
of-out-more orders (x ∷ back) e came here = (came.0, of-out-more orders back e came.1 here)

entries-more : (orders : List Order) (back : List Entry) (o : Order) (e : Entry) → AreEntries orders back → IsEntryOf o e → AreEntries (orders ++ o ∷ []) (back ++ e ∷ [])
entries-more [] [] o e came here = (here, tt)
entries-more [] (x ∷ back) o e came here = absurd came
entries-more (p ∷ orders) [] o e came here = absurd came
entries-more (p ∷ orders) (x ∷ back) o e came here = (came.0, entries-more orders back o e came.1 here)

-- an order stands once among those that are out
first-alone : (token : Token) (o p : Order) (os : List Order) → IsCurrent display token → token.account.out ≡ o ∷ os → Has token.account.out p → p.call ≡ o.call → p ≡ o
first-alone token o p os current cut has same =
    let n : ℕ = o.call in
    let a = token.account in
    let numbers = current.known.numbers n in
    let among : times n (map order_call a.out) ≡ times n (map order_call (o ∷ os)) = ap (λ (ps : List Order). times n (map order_call ps)) cut in
    let first : times n (map order_call (o ∷ os)) ≡ 1 + times n (map order_call os) = ap (λ (b : Bool). bit b + times n (map order_call os)) (eq-eqb o.call n refl) in
    let one = upto_one a.used n in
    let parts = times_append n (map call_of a.mine) (map order_call a.out ++ a.spent) in
    let rest = times_append n (map order_call a.out) a.spent in
    ⊎_elim (λ (at : o ≡ p). sym at)
    (λ (h : Has os p). let twice = times_has n (map order_call os) (subst (λ (k : ℕ). Has (map order_call os) k) same (has_map order_call os p h)) in
    absurd (omega (arith, numbers, among, first, one, parts, rest, twice)))
    (subst (λ (ps : List Order). Has ps p) cut has)

-- one more has come back
pub finishing-run : (token token' token'' : Token) (ticket : Ticket) (left left' : List Ticket) (run : Bool) (answer : Answer) → IsFinishing token left run token' → left ≡ ticket ∷ left' → Finished token' ticket answer token'' → IsFinishing token left' run token''
finishing-run token token' token'' ticket left left' run answer is cut finished =
    let b = begins-by token'.account.out ticket left' (subst (λ (ts : List Ticket). AreOut token'.account.out ts) cut is.out) in
    let o : Order = b.0 in
    let os : List Order = b.1 in
    let done = finished.done in
    let takes = finished.back in
    let told = takes.account in
    let entry : Entry = entry_of (finished_of display done) in
    let number : done.order.call ≡ o.call = finished.is.call ∙ sym b.3.call in
    let outs : token''.account.out ≡ os = ap (λ (a : Account). a.out) told ∙ ap (without done.order.call) b.2 ∙ without-first done.order.call o os (sym number) in
    let whole : token.account.out ≡ is.before ++ (o ∷ os) = sym is.split ∙ ap (λ (ps : List Order). is.before ++ ps) b.2 in
    record {
      before = is.before ++ o ∷ [];
      split = ap (λ (ps : List Order). (is.before ++ o ∷ []) ++ ps) outs ∙ append_assoc is.before (o ∷ []) os ∙ sym whole;
      out = subst (λ (ps : List Order). AreOut ps left') (sym outs) b.4;
      back = is.back ++ entry ∷ [];
      came = of-out-more token.account.out is.back entry is.came
          (done.order, subst (λ (ps : List Order). Has ps done.order) is.split (has_right is.before token'.account.out done.order takes.out), (done.reply, refl));
      start = takes.start ∙ is.start;
      number = ap (λ (a : Account). a.number) told ∙ is.number;
      mine = ap (λ (a : Account). a.mine) told ∙ ap (λ (es : List Entry). es ++ entry ∷ []) is.mine ∙ append_assoc (mine_of token) is.back (entry ∷ []);
      more = prefix_trans token.seen token'.seen token''.seen is.more takes.more;
      all = λ ran active.
          let before = is.all ran active in
          let now : IsActive token' = before.3 in
          let current = now.account_is.standing.current in
          let later = later-back token' token'' done current takes in
          let same : done.order ≡ o = first-alone token' o done.order os current b.2 takes.out number in (
            entries-more is.before is.back o entry before.0 (done.reply, ap (λ (p : Order). Command p.client p.call p.request done.reply) same),
            later.used ∙ before.1,
            ap (λ (a : Account). a.holds) told ∙ before.2,
            record {
              account_is = account-later token' token'' now.account_is now.present later;
              begun = subst (λ (k : ℕ). 1 ≤ k) (sym later.used) now.begun;
              present = present-later token' token'' now.present later;
            },
          );
    }

-- one more has come back without having been run
pub finishing-unrun : (token token' token'' : Token) (ticket : Ticket) (left left' : List Ticket) (run : Bool) → IsFinishing token left run token' → left ≡ ticket ∷ left' → Spent token' ticket token'' → IsFinishing token left' false token''
finishing-unrun token token' token'' ticket left left' run is cut spent =
    let b = begins-by token'.account.out ticket left' (subst (λ (ts : List Ticket). AreOut token'.account.out ts) cut is.out) in
    let o : Order = b.0 in
    let os : List Order = b.1 in
    let order : Order = spent.pass.order in
    let told = spent.back.account in
    let number : order.call ≡ o.call = spent.is.call ∙ sym b.3.call in
    let outs : token''.account.out ≡ os = ap (λ (a : Account). a.out) told ∙ ap (without order.call) b.2 ∙ without-first order.call o os (sym number) in
    let whole : token.account.out ≡ is.before ++ (o ∷ os) = sym is.split ∙ ap (λ (ps : List Order). is.before ++ ps) b.2 in
    record {
      before = is.before ++ o ∷ [];
      split = ap (λ (ps : List Order). (is.before ++ o ∷ []) ++ ps) outs ∙ append_assoc is.before (o ∷ []) os ∙ sym whole;
      out = subst (λ (ps : List Order). AreOut ps left') (sym outs) b.4;
      back = is.back;
      came = is.came;
      start = spent.back.start ∙ is.start;
      number = ap (λ (a : Account). a.number) told ∙ is.number;
      mine = ap (λ (a : Account). a.mine) told ∙ is.mine;
      more = prefix_trans token.seen token'.seen token''.seen is.more spent.back.more;
      all = λ ran. absurd (true≢false (sym ran));
    }

pub finishing-more : (token token' token'' : Token) (ticket : Ticket) (left left' : List Ticket) (run now : Bool) → IsFinishing token left run token' → left ≡ ticket ∷ left' → ComesBack token' ticket now token'' → IsFinishing token left' (run && now) token''
finishing-more token token' token'' ticket left left' true true is cut back = finishing-run token token' token'' ticket left left' true back.0 is cut back.1
finishing-more token token' token'' ticket left left' false true is cut back = finishing-run token token' token'' ticket left left' false back.0 is cut back.1
finishing-more token token' token'' ticket left left' true false is cut back = finishing-unrun token token' token'' ticket left left' true is cut back
finishing-more token token' token'' ticket left left' false false is cut back = finishing-unrun token token' token'' ticket left left' false is cut back

-- and when none is left nothing is out
none-out : (orders : List Order) → AreOut orders [] → orders ≡ []
none-out [] out = refl
none-out (o ∷ os) out = absurd out

finished-out : (token token' : Token) (left : List Ticket) (run : Bool) → IsFinishing token left run token' → left ≡ [] → token'.account.out ≡ []
finished-out token token' left run is none = none-out token'.account.out (subst (λ (ts : List Ticket). AreOut token'.account.out ts) none is.out)

pub finished-idle : (token token' : Token) (left : List Ticket) (run : Bool) → IsFinishing token left run token' → left ≡ [] → HasNothingOut token token'
finished-idle token token' left run is none = record { back = is.back; came = is.came; start = is.start; number = is.number; mine = is.mine; out = finished-out token token' left run is none; more = is.more }

pub finished-all : (token token' : Token) (left : List Ticket) (run : Bool) → IsFinishing token left run token' → left ≡ [] → run ≡ true → IsActive token → IsIdle token token' × IsActive token'
finished-all token token' left run is none ran active =
    let all = is.all ran active in
    let out : token'.account.out ≡ [] = finished-out token token' left run is none in
    let orders : is.before ≡ token.account.out = sym (append-nil is.before) ∙ ap (λ (os : List Order). is.before ++ os) (sym out) ∙ is.split in (
      record {
        back = is.back;
        came = subst (λ (os : List Order). AreEntries os is.back) orders all.0;
        start = is.start;
        number = is.number;
        used = all.1;
        holds = all.2;
        mine = is.mine;
        out = out;
        more = is.more;
        account_is = all.3.account_is;
      },
      all.3,
    )

pub unrun-err : {T E : Type 0} (token token' : Token) (result : Result T E) → IsUnadded token token' → OnErr result (IsUnadded token token')
unrun-err token token' (Ok answer) kept = tt
unrun-err token token' (Err error) kept = kept
