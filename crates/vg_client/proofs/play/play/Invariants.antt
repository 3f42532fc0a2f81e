use Rattle.vg_tasks.specs.Plans.{weights}
use Rattle.vg_client.proofs.PlayLemmas.{IsPlaying}
use Rattle.vg_client.proofs.play.play.Given as goal

abbrev pub invariant-loop-task : goal.invariant-loop-task
invariant-loop-task g l = IsPlaying l.stops l.fn.tasks l.fn.client l.client l.left l.played

abbrev pub decreases-loop-task : goal.decreases-loop-task
decreases-loop-task g l = weights l.left
