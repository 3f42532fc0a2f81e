use Rattle.std.proofs.Common.{arith}
use Rattle.vg_judge.proofs.MeetLemmas.{one_more_met, other_next}
use Rattle.vg_judge.proofs.frames.Frames.meet.Goals as goal

pub returns-in_default-clause-other : goal.returns-in_default-clause-other
returns-in_default-clause-other c = λ is all before are. other_next _ _ _ _ are (rw c.in_default.is at c.in_ok-after.ensures)

pub returns-clause-met : goal.returns-clause-met
returns-clause-met c = λ is all before are. one_more_met _ _ _ _ c.in-Some.after are (omega arith) (rw c.in-Some.is at c.in_ok-after.ensures)
