use Rattle.vg_device.proofs.TellLemmas.{one-screen}
use Rattle.vg_device.proofs.laws.each_pixel_tells_the_flush.Goals as goal

pub returns : goal.returns
returns c = one-screen
