use Rattle.vg_driver.proofs.HalfLemmas.{joined_more, joined_none}
use Rattle.vg_driver.proofs.half.join_lanes.Goals as goal

pub loop-lane-init : goal.loop-lane-init
loop-lane-init g c = joined_none c.args.root.now

pub loop-lane-preserved : goal.loop-lane-preserved
loop-lane-preserved g c = joined_more _ _ _ _ _ c.loop-lane.invariant c.join.ensures.root c.join.ensures.seen c.in_ok-join.ensures.run
