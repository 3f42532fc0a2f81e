use Rattle.vg_legal.proofs.KeptLemmas.{one-history}
use Rattle.vg_legal.proofs.laws.clients_make_one_history.Goals as goal

pub returns : goal.returns
returns c = one-history
