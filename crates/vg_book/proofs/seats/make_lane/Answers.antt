use Rattle.std.proofs.Common.{arith}
use Rattle.vg_book.proofs.Cuts.{makes_lane}
use Rattle.vg_book.proofs.seats.make_lane.Goals as goal

pub split_seat-requires : goal.split_seat-requires
split_seat-requires g c = let t = c.requires.table in (t.0, omega (arith, t.1), makes_lane g.M.Machine _ _ _ c.requires.root)
