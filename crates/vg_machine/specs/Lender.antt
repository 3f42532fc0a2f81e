-- A display, as contracts see it.
use Rattle.std.specs.Prelude.{List}
use Rattle.vg_device.specs.State.{State}
use Rattle.vg_machine.specs.Jobs.{Job}

-- The state of its device, and the jobs that are lent.
pub record Lender : Type 0 where
  pub state : State
  pub lent : List Job
