use Rattle.std.proofs.Common.{rules}
use Rattle.vg_scanout.proofs.PanelLemmas.{no-scanouts}
use Rattle.vg_scanout.proofs.scanout.Scanouts.new.Goals as goal

pub returns : goal.returns
returns c = no-scanouts c.args.count _ c.loop-panel.panels.items (search rules) (search rules)
