-- What no reason refuses copies each pixel.
use Rattle.std.proofs.Common.{rules, ◌≡◌, ◌∙◌, ℕ, List, None, true, sym, ap, subst}
use Rattle.std.proofs.lemmas.Map.Entries.{All-lookup}
use Rattle.vg_formats.specs.declared.entry.MemEntry.{MemEntry}
use Rattle.vg_refusals.specs.Refusals.{refusal_of}
use Rattle.vg_backing.specs.Backing.{AreHeld, backing_bytes}
use Rattle.vg_transfer.specs.Backings.{backing_at, entries_at, transfer_refusals, transferred}
use Rattle.vg_transfer.specs.Pixels.{CopiesRect}
use Rattle.vg_transfer.proofs.CopyLemmas.{copies-accepted, held-by}
use Rattle.vg_transfer.proofs.backings.Backings.transfer.Goals as goal

pub copy_rect-requires-clause-held : goal.copy_rect-requires-clause-held
copy_rect-requires-clause-held c =
    let memory = c.args.pages.now in
    let found = backing_at c.args.resource c.args.self.now in
    subst (AreHeld memory) (sym c.known-backing.ensures) (held-by memory found (All-lookup (AreHeld memory) _ c.args.self.now c.requires.held))

pub returns-clause-pixels : goal.returns-clause-pixels
returns-clause-pixels c =
    let memory = c.args.pages.now in
    let id = c.args.resource in
    let region = c.args.region.now in
    let rect = region.rect in
    let pixels = c.args.pixels.now in
    let none : refusal_of (transfer_refusals true id rect region.offset region.width region.height c.args.self.now) ≡ None = search rules in
    let is : c.copy_rect.new.pixels ≡ transferred memory (entries_at id c.args.self.now) rect region.offset region.width pixels =
    c.copy_rect.ensures ∙ ap (λ (entries : List MemEntry). transferred memory entries rect region.offset region.width pixels) c.known-backing.ensures
    in
    subst (λ (new : List ℕ). CopiesRect rect region.offset region.width region.height (backing_bytes memory (entries_at id c.args.self.now)) pixels new) (sym is)
    (copies-accepted memory id rect region.offset region.width region.height c.args.self.now pixels c.requires.held c.requires.whole none)
