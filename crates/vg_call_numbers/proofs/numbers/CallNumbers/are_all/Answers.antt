use Rattle.std.proofs.Common.{ap, sym, subst, length}
use Rattle.vg_call_numbers.specs.Numbers.{AreAllUsed}
use Rattle.vg_call_numbers.proofs.NumberLemmas.{all-used, gapless, none-there}
use Rattle.vg_call_numbers.proofs.numbers.CallNumbers.are_all.Goals as goal

pub returns : goal.returns
returns c =
    let gaps = c.self.inside.gaps in
    let top = c.self.inside.top in (
      (λ none. subst AreAllUsed c.self.view_is (all-used gaps top (none-there gaps.entries (c.is_empty.ensures.0 none)))),
      (λ all. c.is_empty.ensures.1 (ap length (gapless gaps top c.self.invariant.0 c.self.invariant.1 (subst AreAllUsed (sym c.self.view_is) all)))),
    )
