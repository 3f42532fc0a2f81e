use Rattle.vg_book_uses.specs.Adding.{HasTakenAll}
use Rattle.vg_book_uses.proofs.add.join_all.Given as goal

abbrev pub invariant-loop-client : goal.invariant-loop-client
invariant-loop-client g l = HasTakenAll l.initial.root l.yielded l.root
