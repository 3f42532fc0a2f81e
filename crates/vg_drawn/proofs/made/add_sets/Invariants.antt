use Rattle.vg_drawn.proofs.MadeLemmas.{AreAddedBelow}
use Rattle.vg_drawn.proofs.made.add_sets.Given as goal

abbrev pub invariant-loop-n : goal.invariant-loop-n
invariant-loop-n l = AreAddedBelow l.display l.n l.initial.sets.items l.sets.items
