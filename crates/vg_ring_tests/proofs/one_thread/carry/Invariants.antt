use Rattle.std.proofs.Common.{◌≡◌}
use Rattle.vg_wire.specs.declared.request.Queue.TheVariants.{Control}
use Rattle.vg_ring_tests.proofs.one_thread.carry.Given as goal

abbrev pub invariant-loop-turn : goal.invariant-loop-turn
invariant-loop-turn g l = l.driver.queue ≡ Control
