-- An empty rectangle changes nothing.
use Rattle.std.proofs.Common.{ℕ, ◌+◌, ◌*◌, slice_index, sym, ◌∙◌}
use Rattle.vg_places.proofs.Filled.{filled_empty}
use Rattle.vg_backing.specs.Backing.{backing_bytes}
use Rattle.vg_transfer.specs.Backings.{bytes_of_rect}
use Rattle.vg_transfer.proofs.HeldLemmas.{empty-parts}
use Rattle.vg_transfer.proofs.backings.copy_rect.Goals as goal

pub returns-then-is_empty : goal.returns-then-is_empty
returns-then-is_empty c =
    let bytes = backing_bytes c.args.pages.now c.args.backing.now in
    let value : ℕ → ℕ → ℕ = λ i j. slice_index bytes (c.args.offset + 4 * c.args.width * i + j) in
    filled_empty (bytes_of_rect c.args.rect.now) (4 * c.args.width) value c.args.pixels.now (empty-parts c.args.rect.now (sym c.is_empty.ensures ∙ c.if-is_empty.true))
