use Rattle.vg_laws.proofs.Results.{on_err}
use Rattle.vg_client.proofs.PlayLemmas.{added-none}
use Rattle.vg_client.proofs.StepLemmas.{tickets-begun}
use Rattle.vg_client.proofs.begun.begin_allowed.Goals as goal

pub returns-in_err-played-clause-begun : goal.returns-in_err-played-clause-begun
returns-in_err-played-clause-begun g c = on_err _ (added-none c.args.client.now)

pub returns-clause-out : goal.returns-clause-out
returns-clause-out g c =
    tickets-begun c.args.ask.now c.args.client.now.token c.begin.new.token c.in_ok-ticket.ticket c.args.client.now.begun.items c.reserve.new.self.items c.push_reserved.new.self.items
    c.requires.out c.in_ok-ticket.ensures.begun c.reserve.ensures.same c.push_reserved.ensures
