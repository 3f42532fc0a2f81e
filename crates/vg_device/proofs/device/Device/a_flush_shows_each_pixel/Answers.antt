use Rattle.vg_device.proofs.PixelLemmas.{consistent-counted, shows-each-pixel}
use Rattle.vg_device.proofs.device.Device.a_flush_shows_each_pixel.Goals as goal

pub returns : goal.returns
returns c rect id = rw (← c.self.view_is) (shows-each-pixel rect id _ (consistent-counted _ c.self.invariant) c.are_screens.ensures)
