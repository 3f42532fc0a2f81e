use Rattle.std.proofs.Common.{◌≡◌, ◌++◌, ◌-◌}
use Rattle.vg_tasks.specs.Tasks.{leases_back}
use Rattle.vg_tasks.proofs.tasks.give_back_each.Given as goal

abbrev pub invariant-loop-scanout : goal.invariant-loop-scanout
invariant-loop-scanout l = l.tasks ++ leases_back l.holds.scanouts l.scanout (l.holds.displays - l.scanout) ≡ leases_back l.holds.scanouts 0 l.holds.displays
