use Rattle.std.proofs.Common.{refl, arith}
use Rattle.vg_ring_tests.proofs.one_thread.a_bad_chain_is_read_as_its_fault.Goals as goal

pub make-requires : goal.make-requires
make-requires g c = record { least = omega arith; most = omega arith; power = (4, refl) }
