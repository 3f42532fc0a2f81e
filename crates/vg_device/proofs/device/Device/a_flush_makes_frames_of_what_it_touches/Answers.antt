use Rattle.vg_device.specs.State.{counted}
use Rattle.vg_device.proofs.FrameLemmas.{makes-touched}
use Rattle.vg_device.proofs.device.Device.a_flush_makes_frames_of_what_it_touches.Goals as goal

pub returns : goal.returns
returns c = makes-touched (counted c.args.self.now) c.a_flush_makes_frames_of_what_it_touches.ensures
