use Rattle.std.proofs.Common.{◌+◌, arith}
use Rattle.vg_client.proofs.AccountLemmas.{wait-added}
use Rattle.vg_client.proofs.tokens.wait.Goals as goal

pub returns-clause-added : goal.returns-clause-added
returns-clause-added g c =
    let token = c.args.token.now in
    let awaited = c.in_ok-entry.ensures in
    let met = awaited.met in
    let law = c.calls_stand_behind.ensures in
    let current = law.watched token met c.requires.account_is.standing.current awaited.watched in
    wait-added token c.wait.new.token c.args.fence.now c.in_ok-entry.entry awaited c.requires current (λ idle i low high. law.all met i current idle low high)
    (law.act met c.wait.new.token _ c.in_ok-entry.entry awaited.reply current awaited.acted) (law.apart met (met.account.used + 1) current (omega arith))
