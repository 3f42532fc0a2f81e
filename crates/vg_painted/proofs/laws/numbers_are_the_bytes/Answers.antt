use Rattle.vg_painted.proofs.PaintedLemmas.{all-painted}
use Rattle.vg_painted.proofs.laws.numbers_are_the_bytes.Goals as goal

pub returns : goal.returns
returns c = all-painted
