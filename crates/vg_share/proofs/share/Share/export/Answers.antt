-- No pages are touched.
use Rattle.std.proofs.Common.{sym, subst}
use Rattle.vg_share.specs.Share.{ShareState, SharesPages}
use Rattle.vg_share.proofs.ShareLemmas.{shares-exports}
use Rattle.vg_share.proofs.share.Share.export.Goals as goal

pub returns-clause-share : goal.returns-clause-share
returns-clause-share c = λ memory shares.
    let inside = c.self.inside in
    let share : ShareState = record { buffers = inside.buffers.entries; reserved = inside.reserved; exports = inside.exports.items; leases = inside.leases.items; clients = inside.clients.entries } in
    shares-exports memory share c.push.new.self.items (subst (SharesPages memory) (sym c.self.view_is) shares)
