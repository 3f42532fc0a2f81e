use Rattle.std.proofs.Common.{arith, ◌∙◌}
use Rattle.vg_book.proofs.Ends.{joins}
use Rattle.vg_book.proofs.seats.join.Goals as goal

pub join_seat-requires : goal.join_seat-requires
join_seat-requires g c = let t = c.requires.table in let o = c.requires.other in (t.0, o.0 ∙ t.0, o.1, omega (arith, t.1), joins g.M.Machine _ _ _ _ _ o.2 c.requires.clear)
