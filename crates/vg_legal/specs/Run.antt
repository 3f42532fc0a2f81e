-- What the run of a script's clients gives.
use Rattle.std.specs.Prelude.{◌≡◌, ◌≤◌, ℕ, List, length}
use Rattle.std.specs.List.{AllByRecursion}
use Rattle.vg_client_holds.specs.declared.setup.Setup.{Setup}
use Rattle.vg_scanout.specs.declared.scanout.Frame.{Frame}
use Rattle.vg_machine.specs.Entries.{Entry}
use Rattle.vg_machine.specs.Order.{Sound, client_of}
use Rattle.vg_machine.specs.Replay.{replay}
use Rattle.vg_labels.specs.Labels.{Values}
use Rattle.vg_script.specs.declared.types.Line.{Line}
use Rattle.vg_legal.specs.Legal.{FollowAll}

-- The entry belongs to one of so many clients.
abbrev pub IsOwned : ℕ → Entry → Type 0
IsOwned clients entry = (1 ≤ client_of entry) × (client_of entry ≤ clients)

-- A sound history in which the clients follow their lines and nobody else does anything, and the frames of its replay.
pub record IsRunOf (setup : Setup) (clients : List (List Line)) (H : List Entry) (frames : List Frame) : Type 0 where
  pub sound : Sound setup H
  pub values : Values
  pub follows : FollowAll setup values 1 clients H
  pub owners : AllByRecursion (IsOwned (length clients)) H
  pub frames_are : frames ≡ (replay setup H).scanouts.frames
