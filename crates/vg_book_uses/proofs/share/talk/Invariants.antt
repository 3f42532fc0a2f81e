use Rattle.std.proofs.Common.{◌*◌}
use Rattle.vg_book_uses.specs.Sharing.{HasTalked}
use Rattle.vg_book_uses.specs.contracts.counter.CounterMachine.TheImpl as counter
use Rattle.vg_book_uses.proofs.share.talk.Given as goal

abbrev pub invariant-loop-round : goal.invariant-loop-round
invariant-loop-round g l = HasTalked counter.ghosts l.fn.client (2 * l.round) l.client
