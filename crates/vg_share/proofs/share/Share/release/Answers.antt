-- No pages are touched.
use Rattle.std.proofs.Common.{sym, subst}
use Rattle.vg_share.specs.Share.{SharesPages}
use Rattle.vg_share.proofs.ShareLemmas.{shares-released}
use Rattle.vg_share.proofs.share.Share.release.Goals as goal

pub returns-clause-share : goal.returns-clause-share
returns-clause-share c = λ memory shares.
    let inside = c.self.inside in
    shares-released memory inside.buffers.entries c.release_in.new.buffers.entries inside.reserved inside.exports.items inside.leases.items inside.clients.entries c.args.client c.args.key
    c.release_in.ensures.entries
    (subst (SharesPages memory) (sym c.self.view_is) shares)
