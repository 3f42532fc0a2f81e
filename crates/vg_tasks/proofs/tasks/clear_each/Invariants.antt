use Rattle.std.proofs.Common.{◌≡◌, ◌++◌, drop}
use Rattle.vg_tasks.specs.Tasks.{clear_tasks}
use Rattle.vg_tasks.proofs.tasks.clear_each.Given as goal

abbrev pub invariant-loop-scanout : goal.invariant-loop-scanout
invariant-loop-scanout l = l.tasks ++ clear_tasks l.key l.scanout (drop l.scanout l.shows) ≡ clear_tasks l.key 0 l.shows
