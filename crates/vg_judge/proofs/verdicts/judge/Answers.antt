use Rattle.std.proofs.Common.{◌≡◌, subst}
use Rattle.vg_judge.specs.Verdicts.{IsWrong}
use Rattle.vg_judge.proofs.JudgeLemmas.{all_done, is_next, is_wrong_next, one_more}
use Rattle.vg_judge.proofs.VerdictLemmas.{is_legal}
use Rattle.vg_judge.proofs.verdicts.judge.Goals as goal

pub returns-then-not-branch-clause-wrong : goal.returns-then-not-branch-clause-wrong
returns-then-not-branch-clause-wrong c = λ n is journal in_range outline.
    let found = c.loop-n.invariant journal in_range outline in
    let next = is_next _ _ _ _ _ _ in_range outline c.requires.few c.loop-n-test.true found.1 found.2 in
    is_wrong_next _ _ _ _ (c.in_ok-next_is_right.ensures.wrong c.if-not-branch.true journal found.0 next) found.1 (cc)

pub loop-n-preserved : goal.loop-n-preserved
loop-n-preserved c = λ journal in_range outline.
    let found = c.loop-n.invariant journal in_range outline in
    let next = is_next _ _ _ _ _ _ in_range outline c.requires.few c.loop-n-test.true found.1 found.2 in
    one_more _ _ _ _ (c.in_ok-next_is_right.ensures.right c.if-not-branch.false journal found.0 next) found.1

pub returns-then-fits-clause-legal : goal.returns-then-fits-clause-legal
returns-then-fits-clause-legal c = λ is journal in_range outline.
    let all = all_done _ _ _ _ _ outline c.loop-n-test.false (c.loop-n.invariant journal in_range outline) in
    is_legal _ c.right_is_sound.ensures all.right ((c.fits.ensures _ _ outline all).0 c.if-fits.true)

pub returns-clause-wrong : goal.returns-clause-wrong
returns-clause-wrong c = λ n is journal in_range outline.
    let all = all_done _ _ _ _ _ outline c.loop-n-test.false (c.loop-n.invariant journal in_range outline) in
    let none : 0 ≡ n = cc in
    subst (IsWrong journal) none (record { right = all.right; wrong = λ fits. let met = (c.fits.ensures _ _ outline all).1 fits in let other = c.if-fits.false in cc })
