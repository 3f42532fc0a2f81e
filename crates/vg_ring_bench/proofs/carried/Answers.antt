use Rattle.std.proofs.Common.{refl, arith}
use Rattle.vg_ring_bench.proofs.carried.Goals as goal

pub make-requires : goal.make-requires
make-requires g c = record { least = omega arith; most = omega arith; power = (6, refl) }
