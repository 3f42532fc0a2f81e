use Rattle.std.proofs.Common.{refl, arith}
use Rattle.vg_ring_tests.proofs.one_thread.shapes_go_across_and_back.Goals as goal

pub make-requires : goal.make-requires
make-requires g c = record { least = omega arith; most = omega arith; power = (4, refl) }
