use Rattle.std.proofs.Common.{refl, arith}
use Rattle.vg_legal.proofs.driving.with_rings.Goals as goal

pub make-requires : goal.make-requires
make-requires g c = rw c.requires.setup (record { least = omega arith; most = omega arith; power = (8, refl) })

pub make-requires-2 : goal.make-requires-2
make-requires-2 g c = rw c.requires.setup (record { least = omega arith; most = omega arith; power = (6, refl) })
