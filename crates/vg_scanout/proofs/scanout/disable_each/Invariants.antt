use Rattle.std.proofs.Common.{◌≡◌, map, ◌++◌, take, drop}
use Rattle.vg_scanout.specs.Panels.{unbound_panel}
use Rattle.vg_scanout.proofs.scanout.disable_each.Given as goal

abbrev pub invariant-loop-i : goal.invariant-loop-i
invariant-loop-i l = l.panels ≡ map (unbound_panel l.resource) (take l.i l.initial.panels) ++ drop l.i l.initial.panels
