use Rattle.vg_tasks.proofs.KeepLemmas.{call-keeps}
use Rattle.vg_tasks.proofs.laws.a_call_keeps_its_holds.Goals as goal

pub returns : goal.returns
returns c = call-keeps
