use Rattle.vg_book_uses.specs.Desks.{HasServed}
use Rattle.vg_book_uses.specs.contracts.counter.CounterMachine.TheImpl as counter
use Rattle.vg_book_uses.proofs.desk.serve.Given as goal

abbrev pub invariant-loop : goal.invariant-loop
invariant-loop g l = HasServed counter.ghosts l.fn.lane l.lane
