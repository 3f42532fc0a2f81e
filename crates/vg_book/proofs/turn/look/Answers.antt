use Rattle.std.proofs.Common.{arith}
use Rattle.vg_book.proofs.Looks.{looks}
use Rattle.vg_book.proofs.turn.look.Goals as goal

pub load-requires : goal.load-requires
load-requires g c = let t = c.requires.table in (t.0, omega (arith, t.1), looks g.M.Machine _ _ _ _)
