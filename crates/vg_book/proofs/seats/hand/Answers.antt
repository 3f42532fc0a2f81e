use Rattle.std.proofs.Common.{arith}
use Rattle.vg_book.proofs.Cuts.{hands}
use Rattle.vg_book.proofs.seats.hand.Goals as goal

pub split_seat-requires : goal.split_seat-requires
split_seat-requires g c = let t = c.requires.table in (t.0, omega (arith, t.1), hands g.M.Machine _ _ _)
