use Rattle.vg_transfer.proofs.WholeLemmas.{one-copy}
use Rattle.vg_transfer.proofs.backings.each_pixel_tells_the_transfer.Goals as goal

pub returns : goal.returns
returns c = one-copy
