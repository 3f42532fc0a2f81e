use Rattle.std.proofs.Common.{◌≡◌, false, is_some, sym, ◌∙◌, rules}
use Rattle.vg_call_numbers.proofs.GapLemmas.{last-ends, last-has, none-begins}
use Rattle.vg_call_numbers.proofs.gaps.gap_of.Goals as goal

pub returns-in_err-first-clause-there : goal.returns-in_err-first-clause-there
returns-in_err-first-clause-there c =
    let none : is_some c.from_residual.result ≡ false = search rules in
    none ∙ sym (none-begins c.args.gaps.now c.args.number c.requires ((c.range.ensures.in_range tt).5 c.in_err-first.ensures.steps.0))

pub returns-then-number-last-clause-there : goal.returns-then-number-last-clause-there
returns-then-number-last-clause-there c =
    sym (last-has c.args.gaps.now c.args.number _ _ c.requires ((c.range.ensures.in_range tt).3 _ _ c.in_ok-first.ensures.steps) c.if-number-last.true)

pub returns-else-number-last-clause-there : goal.returns-else-number-last-clause-there
returns-else-number-last-clause-there c =
    let range = c.range.ensures.in_range tt in
    let steps = c.in_ok-first.ensures.steps in
    sym (last-ends c.args.gaps.now c.args.number _ _ c.requires (range.3 _ _ steps) (range.4 _ _ steps) c.if-number-last.false)
