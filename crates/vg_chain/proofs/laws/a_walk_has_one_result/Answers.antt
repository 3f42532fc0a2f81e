use Rattle.vg_chain.proofs.OneWalk.{one_result}
use Rattle.vg_chain.proofs.laws.a_walk_has_one_result.Goals as goal

pub returns : goal.returns
returns c = one_result
