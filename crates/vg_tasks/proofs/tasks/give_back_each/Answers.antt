use Rattle.std.proofs.Common.{arith}
use Rattle.vg_tasks.proofs.TaskLemmas.{leases-more}
use Rattle.vg_tasks.proofs.tasks.give_back_each.Goals as goal

pub loop-scanout-preserved : goal.loop-scanout-preserved
loop-scanout-preserved c =
    leases-more c.args.holds.now.scanouts c.loop-scanout.scanout c.args.holds.now.displays c.loop-scanout.tasks c.give_back_leased.new.tasks _ (omega arith) c.in_ok-give_back_leased.ensures c.loop-scanout.invariant
