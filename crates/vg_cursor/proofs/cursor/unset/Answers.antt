use Rattle.std.proofs.Common.{◌∙◌}
use Rattle.vg_cursor.proofs.CursorLemmas.{unset-with}
use Rattle.vg_cursor.proofs.cursor.unset.Goals as goal

pub returns : goal.returns
returns c = unset-with c.from_vec-image.result c.args.size c.requires (c.from_vec-image.ensures ∙ c.in_ok-zeros.ensures)
