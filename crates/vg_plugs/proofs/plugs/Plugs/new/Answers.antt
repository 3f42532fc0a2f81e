use Rattle.vg_plugs.proofs.PlugLemmas.{sizes-fit}
use Rattle.vg_plugs.proofs.plugs.Plugs.new.Goals as goal

pub invariant_of-result : goal.invariant_of-result
invariant_of-result c = rw c.in_ok-modes.ensures (sizes-fit c.args.displays.now c.requires)
