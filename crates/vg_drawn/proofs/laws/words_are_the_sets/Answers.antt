use Rattle.vg_drawn.proofs.SetLemmas.{words-agree}
use Rattle.vg_drawn.proofs.laws.words_are_the_sets.Goals as goal

pub returns : goal.returns
returns c = words-agree
