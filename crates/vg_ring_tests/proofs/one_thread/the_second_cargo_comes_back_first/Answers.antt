use Rattle.std.proofs.Common.{refl, arith}
use Rattle.vg_ring_tests.proofs.one_thread.the_second_cargo_comes_back_first.Goals as goal

pub make-requires : goal.make-requires
make-requires g c = record { least = omega arith; most = omega arith; power = (2, refl) }
