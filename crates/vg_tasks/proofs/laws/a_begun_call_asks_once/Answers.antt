use Rattle.vg_tasks.proofs.KeepLemmas.{call-once}
use Rattle.vg_tasks.proofs.laws.a_begun_call_asks_once.Goals as goal

pub returns : goal.returns
returns c = call-once
