use Rattle.std.proofs.Common.{ap, length}
use Rattle.vg_plugs.specs.Plugs.{PlugState}
use Rattle.vg_device.proofs.EdidLemmas.{consistent-plugs}
use Rattle.vg_device.proofs.device.Device.clear_events.Goals as goal

pub invariant_of-self : goal.invariant_of-self
invariant_of-self c = consistent-plugs _ c.clear.new.self (ap (λ (plugs : PlugState). length plugs.modes) c.clear.ensures) c.self.invariant
