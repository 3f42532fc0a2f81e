use Rattle.vg_driver.specs.Asks.{request_for}
use Rattle.vg_client.proofs.AccountLemmas.{command-added, is-out, unrun-err, unrun-kept}
use Rattle.vg_client.proofs.tokens.ask.Goals as goal

pub finish-requires : goal.finish-requires
finish-requires g c = is-out c.args.token.now c.begin.new.token (request_for c.args.ask.now) c.in_ok-ticket.ticket c.in_ok-ticket.ensures.begun.submitted

pub returns-clause-added : goal.returns-clause-added
returns-clause-added g c =
    let requests = request_for c.args.ask.now in
    let ticket = c.in_ok-ticket.ticket in
    (ticket.fence.ordinal, command-added c.args.token.now c.begin.new.token c.finish.new.token requests ticket c.in_ok-answer.answer c.requires.active c.in_ok-ticket.ensures.begun c.in_ok-answer.ensures)

pub returns-in_err-answer-clause-err : goal.returns-in_err-answer-clause-err
returns-in_err-answer-clause-err g c =
    unrun-err c.args.token.now c.finish.new.token c.from_residual-in_err-answer.result
    (unrun-kept c.args.token.now c.begin.new.token c.finish.new.token (request_for c.args.ask.now) c.in_ok-ticket.ticket c.requires.active c.in_ok-ticket.ensures.begun c.in_err-answer.ensures)
