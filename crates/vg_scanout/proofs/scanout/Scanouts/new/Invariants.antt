use Rattle.std.proofs.Common.{◌≡◌, replicate, None}
use Rattle.vg_scanout.proofs.scanout.Scanouts.new.Given as goal

abbrev pub invariant-loop-panel : goal.invariant-loop-panel
invariant-loop-panel l = l.panels.items ≡ replicate l._panel None
