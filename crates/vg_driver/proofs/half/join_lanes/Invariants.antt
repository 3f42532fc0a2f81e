use Rattle.vg_driver.specs.Halves.{HasJoined}
use Rattle.vg_driver.proofs.half.join_lanes.Given as goal

abbrev pub invariant-loop-lane : goal.invariant-loop-lane
invariant-loop-lane g l = HasJoined l.initial.root l.yielded l.root
