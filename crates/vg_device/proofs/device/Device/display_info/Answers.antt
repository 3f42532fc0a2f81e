use Rattle.std.proofs.Common.{arith}
use Rattle.vg_device.proofs.device.Device.display_info.Goals as goal

pub told-requires : goal.told-requires
told-requires c = omega (arith, c.self.invariant.plugs, c.self.invariant.setup.at_most)
