use Rattle.std.proofs.Common.{sym, subst}
use Rattle.vg_book.specs.Turns.{MayTake}
use Rattle.vg_book.proofs.turn.take_turn_back.Goals as goal

pub try_back-requires-clause-seat : goal.try_back-requires-clause-seat
try_back-requires-clause-seat g c = subst (λ m. MayTake m) (sym c.loop.invariant.1) c.requires.seat
