use Rattle.vg_ring_uses.proofs.AskLemmas.{asking_more}
use Rattle.vg_ring_uses.proofs.asking.ask.Goals as goal

pub loop-turn-preserved : goal.loop-turn-preserved
loop-turn-preserved g c =
    let o = c.args.order in
    asking_more o.queue o.lane o.count c.loop-turn.driver c.ask_next.new.driver c.take_back-back.new.driver c.in_ok-asked.asked c.loop-turn.invariant c.in_ok-asked.ensures.asked c.take_back-back.ensures
