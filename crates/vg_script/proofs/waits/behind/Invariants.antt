use Rattle.std.proofs.Common.{◌≡◌, ◌-◌, length, drop}
use Rattle.vg_script.specs.SearchWithin.{behind_from}
use Rattle.vg_script.proofs.waits.behind.Given as goal

abbrev pub invariant-loop-client : goal.invariant-loop-client
invariant-loop-client l = behind_from l.client (drop l.client l.reach) (drop l.client l.gone) ≡ behind_from 0 l.reach l.gone

abbrev pub decreases-loop-client : goal.decreases-loop-client
decreases-loop-client l = length l.reach - l.client
