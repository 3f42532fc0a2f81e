use Rattle.std.proofs.Common.{◌≡◌, ◌+◌, ◌-◌, ◌^◌, min, take}
use Rattle.vg_scanout.specs.Panels.{bytes_made}
use Rattle.vg_scanout.proofs.flush.bytes_after.Given as goal

abbrev pub invariant-loop-panel : goal.invariant-loop-panel
invariant-loop-panel l = l.sum ≡ min (l.bytes + bytes_made l.resource l.rect (take l.panel-index l.panels)) (2 ^ 64 - 1)
