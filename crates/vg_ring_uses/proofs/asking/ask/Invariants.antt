use Rattle.vg_ring_uses.proofs.AskLemmas.{IsAsking}
use Rattle.vg_ring_uses.proofs.asking.ask.Given as goal

abbrev pub invariant-loop-turn : goal.invariant-loop-turn
invariant-loop-turn g l = IsAsking l.fn.order.queue l.fn.order.lane l.fn.order.count l.driver
