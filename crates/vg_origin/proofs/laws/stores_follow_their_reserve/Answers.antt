use Rattle.vg_origin.proofs.ReserveLemmas.{follows}
use Rattle.vg_origin.proofs.laws.stores_follow_their_reserve.Goals as goal

pub returns : goal.returns
returns c = follows
