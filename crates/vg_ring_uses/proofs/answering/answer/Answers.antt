use Rattle.std.proofs.Common.{subst, sym}
use Rattle.vg_ring_uses.specs.Carried.{HasAnsweredIf}
use Rattle.vg_ring_uses.proofs.AnswerLemmas.{answered_more}
use Rattle.vg_ring_uses.proofs.answering.answer.Goals as goal

pub loop-turn-preserved : goal.loop-turn-preserved
loop-turn-preserved g c =
    let l = c.loop-turn in
    let device = c.answer_next-look.new.device in
    subst (λ unread. HasAnsweredIf unread device) (sym c.unread_by-unread.ensures) (answered_more l.device device l.unread c.answer_next-look.result l.invariant c.answer_next-look.ensures)
