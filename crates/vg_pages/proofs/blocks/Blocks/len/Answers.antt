use Rattle.std.proofs.Common.{ap, length, sym, ◌∙◌}
use Rattle.vg_pages.proofs.Spliced.{length-overlaid}
use Rattle.vg_pages.proofs.blocks.Blocks.len.Goals as goal

pub returns : goal.returns
returns c = c.len.ensures ∙ sym (length-overlaid c.self.inside.blocks.items c.self.inside.base) ∙ ap (λ xs. length xs) c.self.view_is
