use Rattle.std.proofs.Common.{refl, arith}
use Rattle.vg_front_tests.proofs.lanes.lanes_run_one_command_at_a_time.Goals as goal

pub make-requires : goal.make-requires
make-requires g c = record { least = omega arith; most = omega arith; power = (4, refl) }

pub make-requires-2 : goal.make-requires-2
make-requires-2 g c = record { least = omega arith; most = omega arith; power = (2, refl) }
