use Rattle.vg_ring_uses.specs.Carried.{HasAnsweredIf}
use Rattle.vg_ring_uses.proofs.answering.answer.Given as goal

abbrev pub invariant-loop-turn : goal.invariant-loop-turn
invariant-loop-turn g l = HasAnsweredIf l.unread l.device
