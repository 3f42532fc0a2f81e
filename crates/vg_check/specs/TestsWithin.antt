-- The tests of an entry, over what is kept of those before it.
use Rattle.std.specs.Prelude.{◌≡◌, ◌+◌, ◌-◌, ◌==◌, ◌&&◌, ◌||◌, ℕ, Bool, true, false, not, is_none, nat_le, nat_lt, List, [], get_or, replicate, set}
use Rattle.std.specs.BTreeSet.{BTreeSet, Updates, contains}
use Rattle.std.specs.Ordering.{nat_cmp}
use Rattle.vg_call_numbers.specs.Numbers.{AreAllUsed, IsAdded, UsedNumbers, is_used}
use Rattle.vg_client_holds.specs.declared.act.Act.{Act}
use Rattle.vg_client_holds.specs.declared.act.Act.TheVariants as acts
use Rattle.vg_client_holds.specs.declared.act.ActReply.{ActReply}
use Rattle.vg_client_holds.specs.declared.setup.Setup.{Setup}
use Rattle.vg_client_holds.specs.Holds.{denied_of, first_holds, gives_up, update}
use Rattle.vg_client_holds.specs.Host.{IsPart}
use Rattle.vg_device.specs.ActStep.{act_step}
use Rattle.vg_machine.specs.Lane.{lane_of}
use Rattle.vg_machine.specs.Order.{MayBeDenied}
use Rattle.vg_device.specs.RequestStep.{request_step}
use Rattle.vg_device.specs.State.{State}
use Rattle.vg_device.specs.declared.request.Request.{Request}
use Rattle.vg_device.specs.declared.request.Reply.{Reply}
use Rattle.vg_check.specs.declared.seen.Seen.{Seen}

-- Enter with number 1.
abbrev pub is_first : Act → ℕ → Bool
is_first acts.Enter call = call == 1
is_first _ call = false

abbrev pub is_leaving : Act → Bool
is_leaving acts.Leave = true
is_leaving _ = false

-- An act's number is above all of its client, the first act is enter, and none follows its leave.
abbrev pub is_next_act : Seen → ℕ → Act → Bool
is_next_act seen call act = nat_lt seen.numbers.top call && (not seen.left && (not (seen.numbers.top == 0) || is_first act call))

-- A command's number is new and above those of its lane, its client has entered, and hasn't left.
abbrev pub is_next_command : Seen → ℕ → ℕ → Bool
is_next_command seen call lane =
    nat_le 1 call && (not (is_used seen.numbers call) && (not seen.left && (not (seen.numbers.top == 0) && nat_lt (get_or seen.last.items lane 0) call)))

-- An act that gives up a hold stands behind all of its client's earlier calls.
abbrev pub MayGiveUp : UsedNumbers → ℕ → Act → Type 0
MayGiveUp numbers call act = gives_up act ≡ true → AreAllUsed numbers × (numbers.top ≡ call - 1)

-- A wait's fence is among so many commands of its lane.
abbrev pub is_known : List ℕ → Act → Bool
is_known lanes (acts.Await lane ordinal) = nat_le ordinal (get_or lanes lane 0)
is_known lanes _ = true

-- A wait for the host is for a number at which a display was plugged or unplugged.
abbrev pub is_met : BTreeSet ℕ → Act → Bool
is_met plugs (acts.Sync n) = contains nat_cmp plugs n
is_met plugs act = true

-- The number of an act with which a display is plugged or unplugged is kept.
abbrev pub KeepsPlug : BTreeSet ℕ → ℕ → Act → BTreeSet ℕ → Type 0
KeepsPlug old call (acts.Mode scanout width height) new = Updates nat_cmp old new call true
KeepsPlug old call (acts.Unplug scanout) new = Updates nat_cmp old new call true
KeepsPlug old call act new = new ≡ old

-- A command's lane is that of its bytes, and its ordinal the lane's next.
abbrev pub is_next_on_lane : List ℕ → Request → Bool
is_next_on_lane lanes request = request.lane == lane_of request.queue request.bytes && (request.ordinal == get_or lanes request.lane 0 + 1)

-- All that is looked at of an act, and of a command.
pub record MayAct (lanes : List ℕ) (seen : Seen) (call : ℕ) (act : Act) : Type 0 where
  pub next : is_next_act seen call act ≡ true
  pub give_up : MayGiveUp seen.numbers call act
  pub known : is_known lanes act ≡ true
  pub denied : MayBeDenied seen.holds act
  pub part : IsPart seen.holds act

pub record PassesAct (state : State) (lanes : List ℕ) (seen : Seen) (client call : ℕ) (act : Act) (reply : ActReply) : Type 0 where
  pub may : MayAct lanes seen call act
  pub replied : reply ≡ (act_step state client act).1

pub record MayAsk (lanes : List ℕ) (seen : Seen) (call : ℕ) (request : Request) : Type 0 where
  pub next : is_next_command seen call request.lane ≡ true
  pub lane : is_next_on_lane lanes request ≡ true
  pub allowed : is_none (denied_of seen.holds request.queue request.bytes) ≡ true
  pub guest : seen.holds.host ≡ false

pub record PassesCommand (state : State) (lanes : List ℕ) (seen : Seen) (call : ℕ) (request : Request) (reply : Reply) : Type 0 where
  pub may : MayAsk lanes seen call request
  pub replied : reply ≡ (request_step state request).1

-- What is kept of a client before its first entry.
pub record IsNew (setup : Setup) (client : ℕ) (seen : Seen) : Type 0 where
  pub numbers : seen.numbers ≡ record { top = 0; gaps = [] }
  pub last : seen.last.items ≡ replicate 66 0
  pub left : seen.left ≡ false
  pub holds : seen.holds ≡ first_holds setup client

-- A client's entry is kept: a command on its lane, and an act on none.
pub record HasSeenAct (old : Seen) (call : ℕ) (act : Act) (reply : ActReply) (new : Seen) : Type 0 where
  pub numbers : IsAdded old.numbers call new.numbers
  pub last : new.last.items ≡ old.last.items
  pub left : new.left ≡ (old.left || is_leaving act)
  pub holds : new.holds ≡ update old.holds act reply

pub record HasSeenCommand (old : Seen) (call lane : ℕ) (new : Seen) : Type 0 where
  pub numbers : IsAdded old.numbers call new.numbers
  pub last : new.last.items ≡ set old.last.items lane call
  pub left : new.left ≡ old.left
  pub holds : new.holds ≡ old.holds

-- The display and what is kept of the client after an act that passes.
pub record HasActed (state : State) (lanes : List ℕ) (seen : Seen) (client call : ℕ) (act : Act) (reply : ActReply) (next : State) (after : Seen) : Type 0 where
  pub passes : PassesAct state lanes seen client call act reply
  pub display : next ≡ (act_step state client act).0
  pub kept : HasSeenAct seen call act reply after

pub record HasAsked (state : State) (lanes : List ℕ) (seen : Seen) (call : ℕ) (request : Request) (reply : Reply) (next : State) (after : Seen) : Type 0 where
  pub passes : PassesCommand state lanes seen call request reply
  pub display : next ≡ (request_step state request).0
  pub kept : HasSeenCommand seen call request.lane after
