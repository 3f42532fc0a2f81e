use Rattle.vg_history.proofs.HistoryLemmas.{still_allowed}
use Rattle.vg_history.proofs.laws.allowed_still.Goals as goal

pub returns : goal.returns
returns g c = still_allowed g.M.Machine g.met.M.Machine.keeps_holds
