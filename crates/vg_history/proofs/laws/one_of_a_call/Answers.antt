use Rattle.vg_history.proofs.EntryLemmas.{one_entry}
use Rattle.vg_history.proofs.laws.one_of_a_call.Goals as goal

pub returns : goal.returns
returns g c = λ es e f. one_entry es e f
