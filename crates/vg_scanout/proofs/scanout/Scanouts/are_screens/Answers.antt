use Rattle.vg_scanout.proofs.PanelLemmas.{are-screens}
use Rattle.vg_scanout.proofs.scanout.Scanouts.are_screens.Goals as goal

pub returns : goal.returns
returns c = rw (← c.self.view_is) (are-screens c.self.inside.frames.items c.self.inside.panels.items c.self.invariant.2)
