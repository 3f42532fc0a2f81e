use Rattle.std.proofs.Common.{None, ap}
use Rattle.vg_scanout.proofs.PanelLemmas.{screens-set}
use Rattle.vg_scanout.proofs.scanout.Scanouts.unbind.Goals as goal

pub returns : goal.returns
returns c =
    rw (← c.self.view_is) (ap (λ screens. record { screens = screens; frames = c.self.inside.frames.items }) (screens-set c.self.inside.frames.items c.self.inside.panels.items c.args.scanout None))
