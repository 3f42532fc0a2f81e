use Rattle.vg_share.proofs.HolderLemmas.{written}
use Rattle.vg_share.proofs.holders.set_holder.Goals as goal

pub returns : goal.returns
returns c = written c.args.holders.now c.as_mut_slice.result.now c.put_holder.new.holders c.args.at c.args.holder c.as_mut_slice.ensures.value c.put_holder.ensures
