use Rattle.std.proofs.Common.{◌≡◌}
use Rattle.vg_book.specs.Turns.{Watches}
use Rattle.vg_book.proofs.turn.take_turn_for.Given as goal

abbrev pub invariant-loop : goal.invariant-loop
invariant-loop g l = (l.seat.table_id ≡ l.fn.seat.table_id) × Watches l.fn.seat.me l.seat.me
