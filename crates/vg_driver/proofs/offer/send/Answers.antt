use Rattle.std.proofs.Common.{length}
use Rattle.vg_driver.proofs.HalfLemmas.{has_room, lane_small}
use Rattle.vg_driver.proofs.OfferLemmas.{next_fence}
use Rattle.vg_driver.proofs.offer.send.Goals as goal

pub new-fence-requires-clause-lane : goal.new-fence-requires-clause-lane
new-fence-requires-clause-lane g c = lane_small c.args.request.queue c.args.request.lane c.requires.next.lane

pub new-fence-requires-clause-ordinal : goal.new-fence-requires-clause-ordinal
new-fence-requires-clause-ordinal g c = next_fence c.args.token.now.account.holds c.args.half.now c.args.request c.requires.next

pub next_head-requires : goal.next_head-requires
next_head-requires g c = has_room c.args.half.now c.args.request.shape (length c.args.request.bytes) c.args.request.room c.requires.next.needed
