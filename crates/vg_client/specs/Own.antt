-- How a client's own entries stand in a history.
use Rattle.std.specs.Prelude.{◌≡◌, ℕ, List, [], ◌∷◌, ◌++◌}
use Rattle.std.specs.List.{AllByRecursion}
use Rattle.vg_book.specs.Places.{IsPlaced}
use Rattle.vg_client_holds.specs.declared.setup.Setup.{Setup}
use Rattle.vg_machine.specs.Entries.{Entry}
use Rattle.vg_history.specs.declared.entry.Entry.TheVariants as entries
use Rattle.vg_machine.specs.Lane.{lane_of}
use Rattle.vg_machine.specs.Order.{CallOrder, FenceOrder, GiveUp, IsAllowed, SyncOrder, call_of, client_of, holds_of}

-- A command's lane is that of its bytes.
abbrev pub IsOnItsLane : Entry → Type 0
IsOnItsLane (entries.Act client call act reply) = Unit {0}
IsOnItsLane (entries.Command client call request reply) = request.lane ≡ lane_of request.queue request.bytes

-- An entry stands rightly behind those before it, of whomever they are: on its lane, with a number that is its client's next, where it
-- gives up a hold behind all that its client called before, and where it tells of a fence or of the host behind that; and it was allowed
-- by what its client held there.
pub record StandsOwn (setup : Setup) (before : List Entry) (entry : Entry) : Type 0 where
  pub lane : IsOnItsLane entry
  pub call : CallOrder before entry
  pub give_up : GiveUp before entry
  pub fence : FenceOrder before entry
  pub sync : SyncOrder before entry
  pub allowed : IsAllowed (holds_of setup (client_of entry) before) entry

-- Each of these entries that is the client's stands rightly behind those before it.
abbrev pub OwnStand : Setup → ℕ → List Entry → List Entry → Type 0
OwnStand setup client before [] = Unit {0}
OwnStand setup client before (entry ∷ more) =
    (client_of entry ≡ client → StandsOwn setup before entry) × OwnStand setup client (before ++ entry ∷ []) more

-- Each of these entries of the client stands in the history behind all of its client's earlier calls but those that are begun.
abbrev pub ArePlaced : List Entry → ℕ → List ℕ → List Entry → Type 0
ArePlaced es client begun front = AllByRecursion (λ e. IsPlaced es client begun (call_of e)) front
