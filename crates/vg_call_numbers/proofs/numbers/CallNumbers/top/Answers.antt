use Rattle.std.proofs.Common.{subst}
use Rattle.vg_call_numbers.specs.Numbers.{IsGreatest}
use Rattle.vg_call_numbers.proofs.NumberLemmas.{greatest}
use Rattle.vg_call_numbers.proofs.numbers.CallNumbers.top.Goals as goal

pub returns-clause-greatest : goal.returns-clause-greatest
returns-clause-greatest c =
    subst (λ numbers. IsGreatest numbers c.self.inside.top) c.self.view_is (greatest c.self.inside.gaps c.self.inside.top c.self.invariant.0 c.self.invariant.1)
