use Rattle.std.proofs.Common.{arith}
use Rattle.vg_book.proofs.Turns.{takes_turn}
use Rattle.vg_book.proofs.turn.try_back.Goals as goal

pub compare_exchange-found-requires : goal.compare_exchange-found-requires
compare_exchange-found-requires g c = let t = c.requires.table in let may = c.requires.seat in (t.0, omega (arith, t.1), takes_turn g.M.Machine _ _ _ _ may.0 may.1 may.2)
