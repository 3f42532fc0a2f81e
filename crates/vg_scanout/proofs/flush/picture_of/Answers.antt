use Rattle.std.proofs.Common.{[], ◌∷◌, ap, sym, ◌∙◌}
use Rattle.vg_scanout.specs.declared.scanout.Frame.{Frame}
use Rattle.vg_scanout.proofs.PanelLemmas.{frame-hidden}
use Rattle.vg_scanout.proofs.flush.picture_of.Goals as goal

pub returns-then-not-visible-clause-frame : goal.returns-then-not-visible-clause-frame
returns-then-not-visible-clause-frame c =
    ap (λ (frame : Frame). frame ∷ []) c.framed.ensures
    ∙ frame-hidden c.args.entry c.args.cursors.now c.args.scanout (record { binding = c.args.binding.now; pixels = c.args.screen }) (sym c.visible.ensures ∙ c.if-not-visible.true)
