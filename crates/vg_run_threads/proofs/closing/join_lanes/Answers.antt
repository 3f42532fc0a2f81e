use Rattle.vg_run_threads.proofs.SessionLemmas.{lanes-more, lanes-none}
use Rattle.vg_run_threads.proofs.closing.join_lanes.Goals as goal

pub loop-lane-init : goal.loop-lane-init
loop-lane-init g c = lanes-none c.args.root.now

pub loop-lane-preserved : goal.loop-lane-preserved
loop-lane-preserved g c = lanes-more _ _ _ _ _ c.loop-lane.invariant c.join_lane.ensures.told c.join_lane.ensures.accounts c.join_lane.ensures.lanes
