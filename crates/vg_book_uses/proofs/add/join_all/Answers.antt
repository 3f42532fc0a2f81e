use Rattle.vg_book_uses.specs.contracts.counter.CounterMachine.TheImpl as counter
use Rattle.vg_book_uses.proofs.CrewLemmas.{taken_more}
use Rattle.vg_book_uses.proofs.add.join_all.Goals as goal

pub loop-client-preserved : goal.loop-client-preserved
loop-client-preserved g c = taken_more counter.ghosts c.args.root.now c.loop-client.root c.join.new.self c.loop-client.yielded c.in-Some.client c.in_ok-client.field-0 c.loop-client.invariant c.in_ok-client.was c.join.ensures.told c.join.ensures.accounts c.join.ensures.lanes
