use Rattle.vg_chain.proofs.ShapeLemmas.{gives}
use Rattle.vg_chain.proofs.laws.a_layout_is_walked.Goals as goal

pub returns : goal.returns
returns c = gives
