use Rattle.std.proofs.Common.{[]}
use Rattle.vg_share.proofs.ShareLemmas.{shares-fresh}
use Rattle.vg_share.proofs.share.Share.new.Goals as goal

pub returns-clause-share : goal.returns-clause-share
returns-clause-share c = λ pages. rw (c.new.ensures.empty, c.new-2.ensures.items, c.new-3.ensures.empty) (shares-fresh pages c.in_ok-leases.leases.items [])
