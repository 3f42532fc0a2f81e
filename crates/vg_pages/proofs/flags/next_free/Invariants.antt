use Rattle.vg_pages.specs.Memory.{AreTakenBelow}
use Rattle.vg_pages.proofs.flags.next_free.Given as goal

abbrev pub invariant-loop-page : goal.invariant-loop-page
invariant-loop-page l = AreTakenBelow l.taken l.page
