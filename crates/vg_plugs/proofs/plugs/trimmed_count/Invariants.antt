use Rattle.std.proofs.Common.{◌≡◌, ◌≤◌, take, length}
use Rattle.vg_wire.specs.Modes.{trimmed}
use Rattle.vg_plugs.proofs.plugs.trimmed_count.Given as goal

abbrev pub invariant-loop-left : goal.invariant-loop-left
invariant-loop-left l = record {
  within : l.left ≤ length l.modes;
  same : trimmed (take l.left l.modes) ≡ trimmed l.modes;
}

abbrev pub decreases-loop-left : goal.decreases-loop-left
decreases-loop-left l = l.left
