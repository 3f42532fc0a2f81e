use Rattle.vg_painted.specs.Inks.{numbers, tags}
use Rattle.vg_painted.proofs.InkLemmas.{firsts-agree, seconds-agree}
use Rattle.vg_painted.proofs.laws.inks_agree.Goals as goal

pub returns-clause-numbers : goal.returns-clause-numbers
returns-clause-numbers c = firsts-agree numbers tags

pub returns-clause-tags : goal.returns-clause-tags
returns-clause-tags c = seconds-agree numbers tags
