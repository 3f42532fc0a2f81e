use Rattle.vg_book_uses.specs.contracts.counter.CounterMachine.TheImpl as counter
use Rattle.vg_book_uses.proofs.CrewLemmas.{IsMade}
use Rattle.vg_book_uses.proofs.meet.meetings.Given as goal

abbrev pub invariant-loop-made : goal.invariant-loop-made
invariant-loop-made g l = IsMade counter.ghosts (λ job. job.client) 1 (λ job. Unit {0}) l._made l.initial.root l.root l.jobs.items
