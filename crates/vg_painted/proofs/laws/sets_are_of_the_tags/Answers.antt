use Rattle.vg_painted.proofs.ClientLemmas.{sets-agree}
use Rattle.vg_painted.proofs.laws.sets_are_of_the_tags.Goals as goal

pub returns : goal.returns
returns c = sets-agree
