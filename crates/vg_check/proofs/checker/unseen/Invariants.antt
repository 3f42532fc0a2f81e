use Rattle.vg_check.proofs.CheckerLemmas.{IsMaking}
use Rattle.vg_check.proofs.checker.unseen.Given as goal

abbrev pub invariant-loop-place : goal.invariant-loop-place
invariant-loop-place l = IsMaking l.setup l.all.items l.place
