use Rattle.std.proofs.Common.{arith}
use Rattle.vg_book.proofs.Settling.{settles_order}
use Rattle.vg_book.proofs.seats.settle.Goals as goal

pub load-requires : goal.load-requires
load-requires g c = let t = c.requires.table in let s = c.requires.client in (t.0, omega (arith, t.1), settles_order g.M.Machine _ _ _ _ s.0 s.1 s.2.accounts s.2.lanes s.2.root_is s.2.passes s.2.dones s.3)
