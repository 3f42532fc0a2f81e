use Rattle.vg_call_numbers.proofs.GapLemmas.{opened, others-stay}
use Rattle.vg_call_numbers.proofs.gaps.open.Goals as goal

pub returns-in_ok-insert-clause-ok : goal.returns-in_ok-insert-clause-ok
returns-in_ok-insert-clause-ok c =
    let old = c.args.gaps.now in
    let new = c.insert.new.self in
    opened old new c.args.top c.args.number c.if-top-number.true c.requires.apart c.requires.below c.insert.ensures.ordered
    c.in_ok-insert.ensures.updates.1 (others-stay old new _ _ c.in_ok-insert.ensures.updates)
