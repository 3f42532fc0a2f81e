use Rattle.std.proofs.Common.{◌≡◌, map}
use Rattle.std.specs.Arc.{arc_slice_items}
use Rattle.vg_shared_bytes.specs.PlansWithin.{bytes_by}
use Rattle.vg_shared_bytes.proofs.plan.carried_out.Given as goal

abbrev pub invariant-loop-plan : goal.invariant-loop-plan
invariant-loop-plan l = l.strips.items ≡ map (bytes_by (arc_slice_items l.block)) l.yielded
