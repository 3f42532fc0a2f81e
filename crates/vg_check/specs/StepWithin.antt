-- What is kept of all entries, and one entry more.
use Rattle.std.specs.Prelude.{◌≡◌, ◌+◌, ◌-◌, ◌^◌, ◌==◌, ◌||◌, ℕ, Bool, true, List, slice_get, set, min, if◌then◌else◌, Some}
use Rattle.vg_client_holds.specs.declared.act.Act.{Act}
use Rattle.vg_client_holds.specs.declared.act.ActReply.{ActReply}
use Rattle.vg_client_holds.specs.declared.setup.Setup.{Setup}
use Rattle.vg_device.specs.declared.request.Request.{Request}
use Rattle.vg_device.specs.declared.request.Reply.{Reply}
use Rattle.vg_wire.specs.Queues.{is_control}
use Rattle.vg_check.specs.declared.checker.Checker.{Checker}
use Rattle.vg_check.specs.declared.seen.Seen.{Seen}
use Rattle.vg_check.specs.TestsWithin.{HasActed, HasAsked, IsNew, KeepsPlug, PassesAct, PassesCommand, is_met}

-- This is kept of the client.
abbrev pub IsSeenOf : Checker → ℕ → Seen → Type 0
IsSeenOf checker client seen = slice_get checker.clients.items (client - 1) ≡ Some seen

-- An act that passes was kept.
pub record KeepsAct (old : Checker) (client call : ℕ) (act : Act) (reply : ActReply) (new : Checker) : Type 0 where
  pub seen : Seen
  pub after : Seen
  pub was : IsSeenOf old client seen
  pub done : HasActed old.display old.lanes.items seen client call act reply new.display after
  pub clients : new.clients.items ≡ set old.clients.items (client - 1) after
  pub lanes : new.lanes.items ≡ old.lanes.items
  pub met : is_met old.plugs act ≡ true
  pub plugs : KeepsPlug old.plugs call act new.plugs
  pub control : new.control ≡ old.control
  pub cursor : new.cursor ≡ old.cursor

abbrev pub FailsAct : Checker → ℕ → ℕ → Act → ActReply → Type 0
FailsAct old client call act reply =
    (seen : Seen) → IsSeenOf old client seen → is_met old.plugs act ≡ true → PassesAct old.display old.lanes.items seen client call act reply → ⊥

-- As many, and one more, as far as a number of 64 bits goes.
abbrev pub counted_up : ℕ → ℕ
counted_up n = min (n + 1) (2 ^ 64 - 1)

-- A command that passes was kept.
pub record KeepsCommand (old : Checker) (client call : ℕ) (request : Request) (reply : Reply) (new : Checker) : Type 0 where
  pub seen : Seen
  pub after : Seen
  pub was : IsSeenOf old client seen
  pub done : HasAsked old.display old.lanes.items seen call request reply new.display after
  pub clients : new.clients.items ≡ set old.clients.items (client - 1) after
  pub lanes : new.lanes.items ≡ set old.lanes.items request.lane request.ordinal
  pub plugs : new.plugs ≡ old.plugs
  pub control : new.control ≡ (if is_control request.queue then counted_up old.control else old.control)
  pub cursor : new.cursor ≡ (if is_control request.queue then old.cursor else counted_up old.cursor)

abbrev pub FailsCommand : Checker → ℕ → ℕ → Request → Reply → Type 0
FailsCommand old client call request reply =
    (seen : Seen) → IsSeenOf old client seen → PassesCommand old.display old.lanes.items seen call request reply → ⊥

-- Nothing is kept yet of each of so many clients.
abbrev pub AreNew : Setup → List Seen → Type 0
AreNew setup all = (place : ℕ) (seen : Seen) → slice_get all place ≡ Some seen → IsNew setup (place + 1) seen

-- The client has left, or has no entry.
abbrev pub is_gone : Seen → Bool
is_gone seen = seen.left || (seen.numbers.top == 0)
