use Rattle.std.proofs.Common.{false, refl}
use Rattle.vg_run.proofs.WordLemmas.{few-counted}
use Rattle.vg_run.proofs.words.count_of.Goals as goal

pub returns-else-is_few : goal.returns-else-is_few
returns-else-is_few c = few-counted c.args.word.now c.in_ok-count.count false c.in_ok-count.ensures.0 c.in_ok-count.ensures.1 c.if-is_few.ensures refl
