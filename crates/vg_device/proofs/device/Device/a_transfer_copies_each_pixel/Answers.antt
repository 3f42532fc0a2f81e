use Rattle.vg_device.proofs.PixelLemmas.{copies-each-pixel}
use Rattle.vg_device.proofs.device.Device.a_transfer_copies_each_pixel.Goals as goal

pub returns : goal.returns
returns c rect offset id = rw (← c.self.view_is) (copies-each-pixel rect offset id _ c.are_whole.ensures c.a_transfer_copies_each_pixel.ensures)
