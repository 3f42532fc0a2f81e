use Rattle.std.proofs.Common.{◌≡◌, ◌++◌, map, take}
use Rattle.vg_tasks.specs.Table.{release_task}
use Rattle.vg_tasks.proofs.tasks.release_each.Given as goal

abbrev pub invariant-loop-held : goal.invariant-loop-held
invariant-loop-held l = l.tasks ≡ l.fn.tasks ++ map release_task (take l.held-index l.current)
