use Rattle.vg_driver.proofs.HalfLemmas.{lanes_more}
use Rattle.vg_driver.proofs.half.all_lanes.Goals as goal

pub loop-lane-preserved : goal.loop-lane-preserved
loop-lane-preserved g c = lanes_more c.loop-lane.lane c.loop-lane.heard.items c.push.new.self.items c.new.result c.loop-lane.invariant c.in_ok-push.ensures.items c.new.ensures
