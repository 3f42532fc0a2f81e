use Rattle.std.specs.Prelude.{◌≡◌, ◌≢◌, ◌≤◌, ◌<◌, ◌+◌, ◌-◌, ◌==◌, ℕ, Bool, true, false, List, [], ◌∷◌, ◌++◌, map, filter, count_by, nat_le, if◌then◌else◌}
use Rattle.std.specs.List.{range_with_len, AllByRecursion}
use Rattle.vg_client_holds.specs.declared.setup.Setup.{Setup}
use Rattle.vg_client_holds.specs.declared.act.Act.{Act}
use Rattle.vg_client_holds.specs.declared.act.Act.TheVariants.{Enter, Leave}
use Rattle.vg_history.specs.Entries as numbers
use Rattle.vg_history.specs.History as history
use Rattle.vg_history.specs.Lists.{Has}
use Rattle.vg_machine.specs.Entries.{Entry}
use Rattle.vg_history.specs.declared.entry.Entry.TheVariants as entries
use Rattle.vg_machine.specs.Lane.{lane_of}
use Rattle.vg_client_holds.specs.declared.act.Act.TheVariants as acts
use Rattle.vg_client_holds.specs.declared.holds.Holds.{Holds}
use Rattle.vg_client_holds.specs.Holds.{Allowed, Deniable, first_holds, gives_up, update}
use Rattle.vg_client_holds.specs.Host.{IsPart}
use Rattle.vg_machine.specs.Replay.{Agrees, display}

abbrev pub client_of : Entry → ℕ
client_of entry = numbers.client_of entry

abbrev pub call_of : Entry → ℕ
call_of entry = numbers.call_of entry

abbrev pub is_of_lane : ℕ → Entry → Bool
is_of_lane lane (entries.Act client call act reply) = false
is_of_lane lane (entries.Command client call request reply) = request.lane == lane

abbrev pub is_leave : Entry → Bool
is_leave (entries.Act client call Leave reply) = true
is_leave _ = false

-- The client begins, with its first number.
abbrev pub IsFirst : Entry → Type 0
IsFirst (entries.Act client call Enter reply) = call ≡ 1
IsFirst _ = ⊥

-- A client's entries.
abbrev pub of_client : ℕ → List Entry → List Entry
of_client client H = filter (λ e. client_of e == client) H

-- An entry among others that stand by rising number.
abbrev pub placed : Entry → List Entry → List Entry
placed entry [] = entry ∷ []
placed entry (next ∷ more) = if nat_le (call_of entry) (call_of next) then entry ∷ next ∷ more else next ∷ placed entry more

-- Entries by rising number.
abbrev pub by_call : List Entry → List Entry
by_call [] = []
by_call (entry ∷ more) = placed entry (by_call more)

-- A command's lane is that of its bytes, and its ordinal one more than the number of commands of that lane before it.
abbrev pub LaneOrder : List Entry → Entry → Type 0
LaneOrder before (entries.Act client call act reply) = Unit {0}
LaneOrder before (entries.Command client call request reply) =
    (request.lane ≡ lane_of request.queue request.bytes) × (request.ordinal ≡ count_by (is_of_lane request.lane) before + 1)

-- Those of a client's entries whose numbers an entry of it is above: an act is above all, a command above the commands of its lane.
abbrev pub numbers_below : Entry → List Entry → List Entry
numbers_below (entries.Act client call act reply) mine = mine
numbers_below (entries.Command client call request reply) mine = filter (is_of_lane request.lane) mine

-- An entry's number is its client's next: no other entry has it, the client's first entry is enter with number 1, and
-- nothing of it follows its leave.
pub record CallOrder (before : List Entry) (entry : Entry) : Type 0 where
  pub counted : 1 ≤ call_of entry
  pub fresh : AllByRecursion (λ e. call_of e ≢ call_of entry) (of_client (client_of entry) before)
  pub rising : AllByRecursion (λ e. call_of e < call_of entry) (numbers_below entry (of_client (client_of entry) before))
  pub first : of_client (client_of entry) before ≡ [] → IsFirst entry
  pub present : AllByRecursion (λ e. is_leave e ≡ false) (of_client (client_of entry) before)

-- An act that gives up a hold stands after all of its client's earlier calls: those have the numbers below its own, each once.
abbrev pub GiveUp : List Entry → Entry → Type 0
GiveUp before (entries.Act client call act reply) =
    gives_up act ≡ true → map call_of (by_call (of_client client before)) ≡ range_with_len 1 (call - 1)
GiveUp before (entries.Command client call request reply) = Unit {0}

-- A wait for a fence stands after all commands that were put on its lane up to it: those with the ordinals 1 to the fence's.
abbrev pub FenceOrder : List Entry → Entry → Type 0
FenceOrder before (entries.Act client call (acts.Await lane ordinal) reply) = history.HasFence display lane ordinal before
FenceOrder before entry = Unit {0}

-- The host's act of this number, with which a display was plugged, resized or unplugged.
abbrev pub IsPlug : ℕ → Entry → Type 0
IsPlug n (entries.Act client call (acts.Mode scanout width height) reply) = call ≡ n
IsPlug n (entries.Act client call (acts.Unplug scanout) reply) = call ≡ n
IsPlug n entry = ⊥

-- It is among these entries.
abbrev pub HasPlug : ℕ → List Entry → Type 0
HasPlug n es = (entry : Entry) × Has es entry × IsPlug n entry

-- A wait for the host stands after the act that it waited for. That such an act is the host's is said where it is allowed.
abbrev pub SyncOrder : List Entry → Entry → Type 0
SyncOrder before (entries.Act client call (acts.Sync n) reply) = HasPlug n before
SyncOrder before entry = Unit {0}

-- An entry stands rightly behind those before it.
pub record IsInOrder (before : List Entry) (entry : Entry) : Type 0 where
  pub lane : LaneOrder before entry
  pub call : CallOrder before entry
  pub give_up : GiveUp before entry
  pub fence : FenceOrder before entry
  pub sync : SyncOrder before entry

-- Each of these entries does, behind those before them all.
abbrev pub AreInOrder : List Entry → List Entry → Type 0
AreInOrder before [] = Unit {0}
AreInOrder before (entry ∷ more) = IsInOrder before entry × AreInOrder (before ++ entry ∷ []) more

-- What a client holds after one of its entries.
abbrev pub updated : Holds → Entry → Holds
updated holds (entries.Act client call act reply) = update holds act reply
updated holds (entries.Command client call request reply) = holds

-- What a client holds after these entries of any clients.
abbrev pub holds_of : Setup → ℕ → List Entry → Holds
holds_of setup client H = history.holds_after display client (first_holds setup client) H

-- What a client was denied is something that it may be denied.
abbrev pub MayBeDenied : Holds → Act → Type 0
MayBeDenied holds (acts.Denied what) = Deniable holds what
MayBeDenied holds act = Unit {0}

-- A command is one that its client may ask, by what it holds, and the host asks none; and an act is one of its client's part.
abbrev pub IsAllowed : Holds → Entry → Type 0
IsAllowed holds (entries.Command client call request reply) = Allowed holds request.queue request.bytes × (holds.host ≡ false)
IsAllowed holds (entries.Act client call act reply) = MayBeDenied holds act × IsPart holds act

-- Each of these entries is allowed, by what its client holds after those before it.
abbrev pub AreAllowed : Setup → List Entry → List Entry → Type 0
AreAllowed setup before [] = Unit {0}
AreAllowed setup before (entry ∷ more) = IsAllowed (holds_of setup (client_of entry) before) entry × AreAllowed setup (before ++ entry ∷ []) more

-- A history that the display and its clients can have.
pub record Sound (setup : Setup) (H : List Entry) : Type 0 where
  pub agrees : Agrees setup H
  pub order : AreInOrder [] H
  pub allowed : AreAllowed setup [] H
