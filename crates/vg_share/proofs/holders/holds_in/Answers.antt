use Rattle.vg_share.proofs.HolderLemmas.{found, missed}
use Rattle.vg_share.proofs.holders.holds_in.Goals as goal

pub returns-in-Some : goal.returns-in-Some
returns-in-Some c = (found c.args.client c.args.holders.now (0, 0) c.in-Some.at c.in-Some.ensures.place).holds

pub returns-in-None : goal.returns-in-None
returns-in-None c = (missed c.args.client c.args.holders.now c.in-None.ensures.place).holds
