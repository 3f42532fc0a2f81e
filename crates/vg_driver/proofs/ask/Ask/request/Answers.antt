use Rattle.std.proofs.Common.{subst, sym}
use Rattle.std.specs.Prelude.{IfOk}
use Rattle.vg_driver.specs.declared.ask.Ask.{Ask}
use Rattle.vg_driver.specs.Asks.{IsAsk, IsMadeFor}
use Rattle.vg_driver.proofs.OfferLemmas.{made_command-if}
use Rattle.vg_driver.proofs.ask.Ask.request.Goals as goal

pub returns-in-Command : goal.returns-in-Command
returns-in-Command c =
    let made = c.request_by.ensures in
    let may = subst IsAsk c.in-Command.is c.requires in
    subst (λ (ask : Ask). IfOk c.request_by.result (IsMadeFor ask c.args.ordinal)) (sym c.in-Command.is)
    (made_command-if c.in-Command.way c.in-Command.command c.args.ordinal c.request_by.result may.0 may.1 made.request made.lane made.reads)
