use Rattle.std.proofs.Common.{◌≡◌, length}
use Rattle.vg_front.specs.Desks.{AreNew}
use Rattle.vg_front_tests.specs.Held.{count_in, lane_in}
use Rattle.vg_front_tests.proofs.rig.tokens.Given as goal

abbrev pub invariant-loop-lane : goal.invariant-loop-lane
invariant-loop-lane l = (length l.tokens.items ≡ l.lane) × AreNew lane_in count_in 0 l.tokens.items
