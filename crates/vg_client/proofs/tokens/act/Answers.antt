use Rattle.std.proofs.Common.{◌+◌, arith}
use Rattle.vg_client.proofs.AccountLemmas.{act-added}
use Rattle.vg_client.proofs.tokens.act.Goals as goal

pub returns-clause-added : goal.returns-clause-added
returns-clause-added g c =
    let token = c.args.token.now in
    let current = c.requires.account_is.standing.current in
    let law = c.calls_stand_behind.ensures in
    act-added token c.act.new.self c.args.act c.in_ok-done.done.0 c.in_ok-done.done.1 c.requires (λ idle i low high. law.all token i current idle low high)
    (law.act token c.act.new.self c.args.act c.in_ok-done.done.0 c.in_ok-done.done.1 current c.in_ok-done.ensures) (law.apart token (token.account.used + 1) current (omega arith)) c.in_ok-done.ensures
