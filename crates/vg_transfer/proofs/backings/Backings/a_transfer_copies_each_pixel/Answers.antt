use Rattle.vg_transfer.proofs.CopyLemmas.{copies-each}
use Rattle.vg_transfer.proofs.backings.Backings.a_transfer_copies_each_pixel.Goals as goal

pub returns : goal.returns
returns c id rect offset width height pixels whole done = copies-each c.args.pages.now id rect offset width height c.args.self.now pixels c.requires whole done
