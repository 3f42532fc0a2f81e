use Rattle.std.proofs.Common.{◌≡◌, ◌++◌, map, take}
use Rattle.vg_tasks.specs.Table.{end_context_task}
use Rattle.vg_tasks.proofs.tasks.end_each.Given as goal

abbrev pub invariant-loop-number : goal.invariant-loop-number
invariant-loop-number l = l.tasks ≡ l.fn.tasks ++ map (end_context_task l.client) (take l.number-index l.current)
