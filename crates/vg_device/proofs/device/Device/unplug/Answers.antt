use Rattle.std.proofs.Common.{ap, length, ◌∙◌}
use Rattle.vg_plugs.specs.Plugs.{PlugState}
use Rattle.vg_plugs.proofs.PlugLemmas.{length-unplugged}
use Rattle.vg_device.proofs.EdidLemmas.{consistent-plugs}
use Rattle.vg_device.proofs.device.Device.unplug.Goals as goal

pub invariant_of-self : goal.invariant_of-self
invariant_of-self c =
    let many = ap (λ (plugs : PlugState). length plugs.modes) c.unplug.ensures ∙ length-unplugged c.args.scanout c.self.inside.plugs in
    consistent-plugs _ c.unplug.new.self many c.self.invariant
