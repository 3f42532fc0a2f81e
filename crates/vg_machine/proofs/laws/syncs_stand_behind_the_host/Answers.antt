use Rattle.vg_machine.proofs.PlugLemmas.{sync-behind}
use Rattle.vg_machine.proofs.laws.syncs_stand_behind_the_host.Goals as goal

pub returns : goal.returns
returns c = sync-behind
