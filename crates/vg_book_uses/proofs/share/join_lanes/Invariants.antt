use Rattle.vg_book_uses.specs.Sharing.{HasTakenLanes}
use Rattle.vg_book_uses.proofs.share.join_lanes.Given as goal

abbrev pub invariant-loop-lane : goal.invariant-loop-lane
invariant-loop-lane g l = HasTakenLanes l.initial.root l.yielded l.root
