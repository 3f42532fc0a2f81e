use Rattle.std.proofs.Common.{sym, ◌∙◌}
use Rattle.vg_journal_lines.proofs.SideLemmas.{found, passed, nowhere}
use Rattle.vg_journal_lines.proofs.entries.sides.Goals as goal

pub returns-then-is : goal.returns-then-is
returns-then-is c = found (λ word. word.now) c.args.words.now c.loop-at.at _ c.loop-at-test.true (sym c.is.ensures ∙ c.if-is.true) c.loop-at.invariant

pub loop-at-preserved : goal.loop-at-preserved
loop-at-preserved c = passed (λ word. word.now) c.args.words.now c.loop-at.at _ c.loop-at-test.true (sym c.is.ensures ∙ c.if-is.false) c.loop-at.invariant

pub returns : goal.returns
returns c = nowhere (λ word. word.now) c.args.words.now c.loop-at.at c.loop-at-test.false c.loop-at.invariant
