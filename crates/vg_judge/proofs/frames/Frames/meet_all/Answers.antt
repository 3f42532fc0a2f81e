use Rattle.vg_judge.proofs.MeetLemmas.{begins_less}
use Rattle.vg_judge.proofs.frames.Frames.meet_all.Goals as goal

pub returns-then-not-branch-clause-other : goal.returns-then-not-branch-clause-other
returns-then-not-branch-clause-other c = λ is all before are front begins.
    c.in_ok-meet.ensures.other c.if-not-branch.true all _ (c.loop-at.invariant all before are front) (begins_less _ _ _ _ c.loop-at-test.true c.index-frames-at.is begins)
