use Rattle.vg_run_threads.specs.Session.{HasTakenLanes}
use Rattle.vg_run_threads.proofs.closing.join_lanes.Given as goal

abbrev pub invariant-loop-lane : goal.invariant-loop-lane
invariant-loop-lane g l = HasTakenLanes l.initial.root l.yielded l.root
