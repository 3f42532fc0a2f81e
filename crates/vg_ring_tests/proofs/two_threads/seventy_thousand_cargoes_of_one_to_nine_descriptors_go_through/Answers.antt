use Rattle.std.proofs.Common.{refl, arith}
use Rattle.vg_ring_tests.proofs.two_threads.seventy_thousand_cargoes_of_one_to_nine_descriptors_go_through.Goals as goal

pub make-requires : goal.make-requires
make-requires g c = record { least = omega arith; most = omega arith; power = (4, refl) }
