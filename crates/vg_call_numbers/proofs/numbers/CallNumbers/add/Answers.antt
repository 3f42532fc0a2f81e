use Rattle.std.proofs.Common.{subst}
use Rattle.vg_call_numbers.specs.Numbers.{IsAdded}
use Rattle.vg_call_numbers.proofs.NumberLemmas.{added-above, numbers_of}
use Rattle.vg_call_numbers.proofs.numbers.CallNumbers.add.Goals as goal

pub returns-in_ok-open-clause-ok : goal.returns-in_ok-open-clause-ok
returns-in_ok-open-clause-ok c =
    let gaps = c.self.inside.gaps in
    let top = c.self.inside.top in
    subst (λ old. IsAdded old c.args.number (numbers_of c.args.number c.open.new.gaps)) c.self.view_is
    (added-above gaps c.open.new.gaps top c.args.number c.self.invariant.0 c.self.invariant.1 c.if-self-number.true c.in_ok-open.ensures.ok)
