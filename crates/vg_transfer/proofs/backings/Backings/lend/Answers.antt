-- What is lent are the bytes of the resource's backing that the transfer reads.
use Rattle.std.proofs.Common.{◌≡◌, List, take, drop, sym, ap, ◌∙◌, subst}
use Rattle.std.proofs.lemmas.Map.Entries.{All-lookup}
use Rattle.std.proofs.lemmas.Result.{IfOk-weaker}
use Rattle.vg_formats.specs.declared.entry.MemEntry.{MemEntry}
use Rattle.vg_pages.specs.Lending.{AreSameIn}
use Rattle.vg_pages.specs.Memory.{Memory}
use Rattle.vg_backing.specs.Backing.{AreHeld, backing_bytes}
use Rattle.vg_transfer.specs.Backings.{backing_at, transfer_end, transferred}
use Rattle.vg_transfer.proofs.CopyLemmas.{held-by}
use Rattle.vg_transfer.proofs.PlaceLemmas.{placed-alike}
use Rattle.vg_transfer.proofs.backings.Backings.lend.Goals as goal

pub lend_rect-requires-clause-held : goal.lend_rect-requires-clause-held
lend_rect-requires-clause-held c =
    let memory = c.args.pages.now in
    let found = backing_at c.args.resource c.args.self.now in
    subst (AreHeld memory) (sym c.known.ensures) (held-by memory found (All-lookup (AreHeld memory) _ c.args.self.now c.requires.held))

pub returns-clause-same : goal.returns-clause-same
returns-clause-same c =
    let region = c.args.region.now in
    let rect = region.rect in
    let entries = c.known.result.now in
    let count = transfer_end rect 0 region.width in
    IfOk-weaker c.lend_rect.result
    (λ lent. (other : Memory) → AreSameIn lent.pages c.args.pages.now other → take count (drop region.offset (backing_bytes other entries)) ≡ lent.bytes) _
    (λ lent rest other are pixels.
    placed-alike rect region.offset region.width (backing_bytes other entries) lent.bytes pixels (rest other are)
    ∙ ap (λ (es : List MemEntry). transferred other es rect region.offset region.width pixels) c.known.ensures)
    c.lend_rect.ensures.rest
