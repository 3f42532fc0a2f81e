use Rattle.vg_legal.proofs.WaitLemmas.{waits-behind}
use Rattle.vg_legal.proofs.laws.waits_stand_behind.Goals as goal

pub returns : goal.returns
returns c = waits-behind
