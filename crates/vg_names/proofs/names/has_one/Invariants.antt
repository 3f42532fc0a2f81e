use Rattle.slab.specs.Slab.{entries}
use Rattle.vg_names.proofs.CountLemmas.{IsCounting}
use Rattle.vg_names.proofs.names.has_one.Given as goal

abbrev pub invariant-loop-place : goal.invariant-loop-place
invariant-loop-place l =
    (goal.iterator-loop-place).can_next l._place-iterator × (goal.iterator-loop-place).is_finite l._place-iterator × IsCounting l.key l.found l._place-iterator (entries l.held)
