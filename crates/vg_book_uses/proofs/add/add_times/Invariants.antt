use Rattle.vg_book_uses.specs.Adding.{HasAdded}
use Rattle.vg_book_uses.specs.contracts.counter.CounterMachine.TheImpl as counter
use Rattle.vg_book_uses.proofs.add.add_times.Given as goal

abbrev pub invariant-loop-turn : goal.invariant-loop-turn
invariant-loop-turn g l = HasAdded counter.ghosts l.fn.client l._turn l.client
