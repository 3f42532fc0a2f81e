use Rattle.vg_client.proofs.AccountLemmas.{new-may-enter}
use Rattle.vg_client.proofs.caller.enter.Goals as goal

pub act-requires : goal.act-requires
act-requires g c = new-may-enter c.requires.0 c.args.token c.requires.1
