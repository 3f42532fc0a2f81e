use Rattle.std.proofs.Common.{subst}
use Rattle.vg_book.specs.Tokens.{Watched}
use Rattle.vg_machine.specs.Replay.{display}
use Rattle.vg_driver.proofs.TicketLemmas.{awaited}
use Rattle.vg_driver.proofs.driver.Driver.wait.Goals as goal

pub returns-in-Ok : goal.returns-in-Ok
returns-in-Ok g c = awaited c.args.token.now c.meet.new.token c.tell.new.token c.args.fence.now c.tell.result c.in-Ok.ensures c.tell.ensures

pub returns-in-Err : goal.returns-in-Err
returns-in-Err g c = subst (λ t. Watched display t c.look_back.new.token) c.in-Err.ensures c.look_back.ensures
