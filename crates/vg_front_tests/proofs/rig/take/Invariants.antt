use Rattle.std.proofs.Common.{◌≡◌}
use Rattle.vg_front_tests.proofs.rig.take.Given as goal

abbrev pub invariant-loop-turn : goal.invariant-loop-turn
invariant-loop-turn g l = l.front.control.halted ≡ l.initial.front.control.halted
