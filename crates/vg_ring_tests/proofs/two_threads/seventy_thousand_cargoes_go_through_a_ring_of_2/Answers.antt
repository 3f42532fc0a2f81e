use Rattle.std.proofs.Common.{refl, arith}
use Rattle.vg_ring_tests.proofs.two_threads.seventy_thousand_cargoes_go_through_a_ring_of_2.Goals as goal

pub make-requires : goal.make-requires
make-requires g c = record { least = omega arith; most = omega arith; power = (1, refl) }
