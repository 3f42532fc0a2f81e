use Rattle.vg_linked.proofs.ReplayLemmas.{replayed}
use Rattle.vg_linked.proofs.laws.replayed_states_are_consistent.Goals as goal

pub returns : goal.returns
returns c = replayed
