-- Memory of which no page is taken fits what is shared at first.
use Rattle.std.proofs.Common.{sym, subst}
use Rattle.vg_pages.specs.Memory.{Memory}
use Rattle.vg_share.specs.Share.{SharesPages}
use Rattle.vg_tests.proofs.share.one_buffer.Goals as goal

pub reserve-requires-clause-share : goal.reserve-requires-clause-share
reserve-requires-clause-share c =
    subst (λ (memory : Memory). SharesPages memory c.in_ok-share.share) (sym c.in_ok-pages.ensures.fresh) (c.in_ok-share.ensures.share 3)
