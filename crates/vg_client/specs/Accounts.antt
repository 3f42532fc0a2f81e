-- What a client's token says of its own calls.
use Rattle.std.specs.Prelude.{◌≡◌, ◌≤◌, ◌<◌, ◌+◌, ◌==◌, ℕ, Bool, true, false, nat_lt, if◌then◌else◌, List, [], ◌∷◌, ◌++◌, length, get_or, Some}
use Rattle.std.specs.List.{AllByRecursion}
use mathlib.Core.List.{IsPrefix}
use Rattle.vg_history.specs.Lists.{Has}
use Rattle.vg_history.specs.History.{HasFence}
use Rattle.vg_book.specs.Places.{HasCall, IsCurrent, IsPlaced, begun_of}
use Rattle.vg_book.specs.Views.{IsEntryOf}
use Rattle.vg_client_holds.specs.declared.setup.Setup.{Setup}
use Rattle.vg_client_holds.specs.declared.act.Act as the_act
use Rattle.vg_client_holds.specs.declared.act.Act.TheVariants.{Enter, Await, Leave, Sync}
use Rattle.vg_client_holds.specs.declared.act.ActReply.{ActReply}
use Rattle.vg_machine.specs.Entries.{Entry}
use Rattle.vg_device.specs.declared.request.Request.{Request}
use Rattle.vg_device.specs.declared.request.Reply.{Reply}
use Rattle.vg_history.specs.declared.entry.Entry.TheVariants.{Act, Command}
use Rattle.vg_client_holds.specs.declared.holds.Holds.{Holds}
use Rattle.vg_device.specs.ActStep.{act_step}
use Rattle.vg_client_holds.specs.Holds.{first_holds, gives_up}
use Rattle.vg_client_holds.specs.Host.{IsPart}
use Rattle.vg_machine.specs.Lane.{lane_of}
use Rattle.vg_machine.specs.Replay.{display}
use Rattle.vg_device.specs.State.{State, start}
use Rattle.vg_machine.specs.Order.{HasPlug, MayBeDenied, call_of, client_of, is_leave, updated}
use Rattle.vg_driver.specs.declared.ticket.Answer.{Answer}
use Rattle.vg_driver.specs.declared.ticket.Ticket.{Ticket}
use Rattle.vg_driver.specs.Tickets.{Finished, IsOf, Order, Spent, Submitted, Token}
use Rattle.vg_client.specs.Own.{OwnStand}
use Rattle.vg_client.specs.Outcomes.{IsNumbered}

-- The client's entries, in the order in which they came back to it.
abbrev pub mine_of : Token → List Entry
mine_of token = token.account.mine

-- What a client's token says is so, of a client of a display with this setup, whatever of it is out: it knows its own calls in what
-- it has seen; there each entry of it stands rightly behind those before it; and what is out is on its lane, behind what was asked
-- there before it.
pub record IsStanding (setup : Setup) (token : Token) : Type 0 where
  pub current : IsCurrent display token
  pub begun : token.start ≡ Some (start setup)
  pub opening : token.account.opening ≡ first_holds setup token.account.number
  pub own : OwnStand setup token.account.number [] token.seen
  pub entered : 1 ≤ token.account.used → (entry : Entry) × Has token.seen entry × (client_of entry ≡ token.account.number)
  pub lanes : (o : Order) → Has token.account.out o → o.request.lane ≡ lane_of o.request.queue o.request.bytes
  pub rising : (o p : Order) → Has token.account.out o → Has token.account.out p → p.request.lane ≡ o.request.lane → o.call < p.call
      → o.request.ordinal < p.request.ordinal
  pub rising_mine : (o : Order) (client call : ℕ) (request : Request) (reply : Reply) → Has token.account.out o → Has (mine_of token) (Command client call request reply)
      → request.lane ≡ o.request.lane → o.call < call → o.request.ordinal < request.ordinal

-- The same for a display of some setup.
pub record IsAccount (token : Token) : Type 0 where
  pub setup : Setup
  pub standing : IsStanding setup token

-- A client that was made for a display with this setup, and has done nothing.
pub record IsNew (setup : Setup) (token : Token) : Type 0 where
  pub begun : token.start ≡ Some (start setup)
  pub current : IsCurrent display token
  pub opening : token.account.opening ≡ first_holds setup token.account.number
  pub used : token.account.used ≡ 0
  pub idle : token.account.out ≡ []
  pub holds : token.account.holds ≡ first_holds setup token.account.number
  pub mine : mine_of token ≡ []

abbrev pub leaves : the_act.Act → Bool
leaves Leave = true
leaves act = false

-- The client hasn't left.
abbrev pub IsPresent : Token → Type 0
IsPresent token = AllByRecursion (λ e. is_leave e ≡ false) (mine_of token)

-- The token's client has begun and not left.
pub record IsActive (token : Token) : Type 0 where
  pub account_is : IsAccount token
  pub begun : 1 ≤ token.account.used
  pub present : IsPresent token

-- A fence of which the act tells is known: all commands of its lane up to it have been seen. So is the host's call of which it tells.
abbrev pub IsKnown : List Entry → the_act.Act → Type 0
IsKnown seen (Await lane ordinal) = HasFence display lane ordinal seen
IsKnown seen (Sync call) = HasPlug call seen
IsKnown seen act = Unit {0}

-- The act may be the client's next: the first is enter, and none follows when it has left. One that gives up a hold comes with nothing
-- out, and one that tells of a fence or of the host when that is known.
pub record MayAct (token : Token) (act : the_act.Act) : Type 0 where
  pub account_is : IsAccount token
  pub first : token.account.used ≡ 0 → act ≡ Enter
  pub present : IsPresent token
  pub denied : MayBeDenied token.account.holds act
  pub part : IsPart token.account.holds act
  pub idle : gives_up act ≡ true → token.account.out ≡ []
  pub known : IsKnown token.seen act

-- One entry more of the client, of which its token tells, with its number n in the history: its next call, which stands behind
-- all of its calls before but those that are out, and those are out still.
pub record IsAdded (token : Token) (n : ℕ) (entry : Entry) (token' : Token) : Type 0 where
  pub start : token'.start ≡ token.start
  pub number : token'.account.number ≡ token.account.number
  pub used : token'.account.used ≡ token.account.used + 1
  pub holds : token'.account.holds ≡ updated token.account.holds entry
  pub mine : mine_of token' ≡ mine_of token ++ entry ∷ []
  pub out : token'.account.out ≡ token.account.out
  pub account_is : IsAccount token'
  pub more : IsPrefix token.seen token'.seen
  pub numbered : IsNumbered token'.seen n entry
  pub behind : length token.seen < n
  pub call : call_of entry ≡ token.account.used + 1
  pub placed : IsPlaced token'.seen token.account.number (begun_of token.account) (token.account.used + 1)
  pub apart : HasCall token.seen token.account.number (token.account.used + 1) → ⊥

-- One call more of the client, with its next number, which stands behind all of its calls before but those that are out.
pub record IsNextOf (token : Token) (token' : Token) : Type 0 where
  pub used : token'.account.used ≡ token.account.used + 1
  pub more : IsPrefix token.seen token'.seen
  pub placed : IsPlaced token'.seen token.account.number (begun_of token.account) (token.account.used + 1)
  pub apart : HasCall token.seen token.account.number (token.account.used + 1) → ⊥

-- The reply is the display's in some state.
abbrev pub IsReply : ℕ → the_act.Act → ActReply → Type 0
IsReply client act reply = (state : State) × (reply ≡ (act_step state client act).1)

abbrev pub IsAddedAct : Token → ℕ → the_act.Act → ActReply → Token → Type 0
IsAddedAct token number act reply token' =
    IsAdded token number (Act token.account.number (token.account.used + 1) act reply) token' × IsReply token.account.number act reply

-- No entry more, where memory lacked, and nothing more is out: of a command the number may be spent.
pub record IsUnadded (token : Token) (token' : Token) : Type 0 where
  pub start : token'.start ≡ token.start
  pub number : token'.account.number ≡ token.account.number
  pub mine : mine_of token' ≡ mine_of token
  pub out : token'.account.out ≡ token.account.out
  pub more : IsPrefix token.seen token'.seen

-- The tickets are those of what is out, in its order.
abbrev pub AreOut : List Order → List Ticket → Type 0
AreOut [] [] = Unit {0}
AreOut (order ∷ orders) (ticket ∷ tickets) = IsOf ticket order × AreOut orders tickets
AreOut orders tickets = ⊥

-- The other ticket, if it is of the same lane, has a smaller ordinal.
abbrev pub is_below : Ticket → Ticket → Bool
is_below ticket other = if other.fence.lane == ticket.fence.lane then nat_lt other.fence.ordinal ticket.fence.ordinal else true

-- The tickets of what is begun, in its order, and how many there is room for.
pub record BegunTickets : Type 0 where
  pub items : List Ticket
  pub capacity : ℕ

-- No ticket of these passes the ordinal that its lane has here.
abbrev pub AreUnder : List ℕ → List Ticket → Type 0
AreUnder tops tickets = (length tops ≡ 66) × AllByRecursion (λ t. t.fence.ordinal ≤ get_or tops t.fence.lane 0) tickets

-- A ticket's call has come back, and was run, or wasn't.
abbrev pub ComesBack : Token → Ticket → Bool → Token → Type 0
ComesBack token ticket true token' = (answer : Answer) × Finished token ticket answer token'
ComesBack token ticket false token' = Spent token ticket token'

-- The entries are those of these orders, one of each.
abbrev pub AreEntries : List Order → List Entry → Type 0
AreEntries [] [] = Unit {0}
AreEntries (order ∷ orders) (entry ∷ entries) = IsEntryOf order entry × AreEntries orders entries
AreEntries orders entries = ⊥

-- A command was begun, under the client's next number: it is out behind all that was out, and stands behind all of the client's calls
-- before but those that are out.
pub record IsBegun (token : Token) (request : ℕ → Request) (ticket : Ticket) (token' : Token) : Type 0 where
  pub submitted : Submitted token request ticket token'
  pub account_is : IsAccount token'
  pub next : IsNextOf token token'

-- All that was out has come back and has its entry, and nothing else is changed.
pub record IsIdle (token token' : Token) : Type 0 where
  pub back : List Entry
  pub came : AreEntries token.account.out back
  pub start : token'.start ≡ token.start
  pub number : token'.account.number ≡ token.account.number
  pub used : token'.account.used ≡ token.account.used
  pub holds : token'.account.holds ≡ token.account.holds
  pub mine : mine_of token' ≡ mine_of token ++ back
  pub out : token'.account.out ≡ []
  pub more : IsPrefix token.seen token'.seen
  pub account_is : IsAccount token'

-- Each of these entries is that of an order that was out.
abbrev pub AreOfOut : List Order → List Entry → Type 0
AreOfOut orders back = AllByRecursion (λ entry. (order : Order) × Has orders order × IsEntryOf order entry) back

-- Nothing is out any more; some of what was may have come back without having been run, for want of memory.
pub record HasNothingOut (token token' : Token) : Type 0 where
  pub back : List Entry
  pub came : AreOfOut token.account.out back
  pub start : token'.start ≡ token.start
  pub number : token'.account.number ≡ token.account.number
  pub mine : mine_of token' ≡ mine_of token ++ back
  pub out : token'.account.out ≡ []
  pub more : IsPrefix token.seen token'.seen
