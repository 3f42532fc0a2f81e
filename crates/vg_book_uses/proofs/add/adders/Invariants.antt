use Rattle.std.proofs.Common.{◌≡◌}
use Rattle.vg_book_uses.specs.contracts.counter.CounterMachine.TheImpl as counter
use Rattle.vg_book_uses.proofs.CrewLemmas.{IsMade}
use Rattle.vg_book_uses.proofs.add.adders.Given as goal

abbrev pub invariant-loop-made : goal.invariant-loop-made
invariant-loop-made g l = IsMade counter.ghosts (λ job. job.client) 0 (λ job. job.times ≡ l.times) l._made l.initial.root l.root l.jobs.items
