use Rattle.vg_history.proofs.ListLemmas.{has_at}
use Rattle.vg_history.proofs.HistoryLemmas.{fence_of}
use Rattle.vg_history.proofs.laws.fence_behind.Goals as goal

pub returns : goal.returns
returns g c = λ es k n m q p ordered at. fence_of g.M.Machine es n m q p ordered (has_at es k _ at)
