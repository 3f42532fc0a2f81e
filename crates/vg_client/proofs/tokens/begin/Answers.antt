use Rattle.std.proofs.Common.{◌+◌, arith}
use Rattle.vg_driver.specs.Asks.{request_for}
use Rattle.vg_client.proofs.AccountLemmas.{allows-asked, begun-added}
use Rattle.vg_client.proofs.tokens.begin.Goals as goal

pub returns-clause-begun : goal.returns-clause-begun
returns-clause-begun g c =
    let token = c.args.token.now in
    let mid = c.submit.new.token in
    let requests = request_for c.args.ask.now in
    let ticket = c.in_ok-ticket.ticket in
    let is = c.in_ok-ticket.ensures in
    let law = c.calls_stand_behind.ensures in
    let current = c.requires.active.account_is.standing.current in
    begun-added token mid requests ticket c.args.begun.now.items c.requires.active c.requires.out c.see_last.ensures is
    (law.drawn token mid (requests ticket.fence.ordinal) is.pass current is.drawn (allows-asked token mid requests ticket is c.requires.guest))
    (λ more. law.placed token mid.seen current more) (law.apart token (token.account.used + 1) current (omega arith))
