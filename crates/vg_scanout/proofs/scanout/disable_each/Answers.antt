use Rattle.std.proofs.Common.{◌∙◌, ap, slice_set}
use Rattle.vg_scanout.specs.Panels.{unbound_panel}
use Rattle.vg_scanout.proofs.ScreenLemmas.{mapped-more, mapped-all}
use Rattle.vg_scanout.proofs.scanout.disable_each.Goals as goal

pub loop-i-preserved : goal.loop-i-preserved
loop-i-preserved c =
    ap (λ panel. slice_set c.loop-i.panels c.loop-i.i panel) c.disable.ensures
    ∙ mapped-more (unbound_panel c.args.resource) c.args.panels.now c.loop-i.panels c.loop-i.i c.index-panels-i.result c.loop-i-test.true c.loop-i.invariant

pub returns : goal.returns
returns c = c.loop-i.invariant ∙ mapped-all (unbound_panel c.args.resource) c.args.panels.now c.loop-i.i c.loop-i-test.false
