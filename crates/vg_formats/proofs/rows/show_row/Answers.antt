use Rattle.std.proofs.Common.{◌∙◌, ap, sym}
use Rattle.vg_formats.specs.Shown.{shown_row}
use Rattle.vg_formats.proofs.ShownLemmas.{shown-as-it-is}
use Rattle.vg_formats.proofs.rows.show_row.Goals as goal

pub returns-in-B8G8R8A8 : goal.returns-in-B8G8R8A8
returns-in-B8G8R8A8 c =
    c.copy_from_slice.ensures.after ∙ shown-as-it-is c.args.pixels.now c.requires.whole
    ∙ ap (λ format. shown_row format c.args.pixels.now) (sym c.in-B8G8R8A8.is)
