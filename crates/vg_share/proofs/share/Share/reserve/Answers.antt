-- The new buffer's pages were free.
use Rattle.std.proofs.Common.{◌≡◌, ◌∙◌, ◌+◌, true, length, ap, sym, subst}
use Rattle.vg_pages.specs.Memory.{Memory, AreGivable, AreTakeable, marked}
use Rattle.vg_share.specs.declared.share.Buffer.{Buffer}
use Rattle.vg_share.specs.Cells.{pages_of}
use Rattle.vg_share.specs.Share.{ShareState, SharesPages}
use Rattle.vg_share.proofs.ShareLemmas.{shares-reserved}
use Rattle.vg_share.proofs.share.Share.reserve.Goals as goal

pub returns-clause-share : goal.returns-clause-share
returns-clause-share c =
    let inside = c.self.inside in
    let buffer = c.in_ok-buffer.buffer in
    let memory = c.args.pages.now in
    let now = c.take_these.new.self in
    let is = c.in_ok-buffer.ensures in
    let items : buffer.pages ≡ c.args.list.now = ap (λ (b : Buffer). b.pages) is in
    let shown : c.as_slice.result.now ≡ buffer.pages = c.as_slice.ensures ∙ sym items in
    let takeable : AreTakeable memory.taken buffer.pages = subst (AreTakeable memory.taken) (sym items) c.requires.free in
    let enough : length buffer.pages ≡ pages_of buffer.geometry.bytes =
    ap length items ∙ c.requires.enough ∙ sym (ap (λ (b : Buffer). pages_of b.geometry.bytes) is)
    in
    let flags : now.taken ≡ marked buffer.pages true memory.taken =
    ap (λ (m : Memory). m.taken) c.take_these.ensures.after ∙ ap (λ list. marked list true memory.taken) shown
    in
    let next : c.next_key-key.result ≡ inside.reserved + 1 = c.next_key-key.ensures ∙ ap (λ (share : ShareState). share.reserved + 1) (sym c.self.view_is) in
    shares-reserved memory now inside.buffers.entries c.insert.new.self.entries inside.reserved c.next_key-key.result inside.exports.items inside.leases.items inside.clients.entries
    buffer takeable enough flags (subst (AreGivable now.taken) shown c.take_these.ensures.givable) c.take_these.ensures.others next c.in_ok-insert.ensures.entries
    (subst (SharesPages memory) (sym c.self.view_is) c.requires.share)
