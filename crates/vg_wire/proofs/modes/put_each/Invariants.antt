use Rattle.std.proofs.Common.{◌≡◌, ◌++◌, take}
use Rattle.std.specs.List.{flat_map}
use Rattle.vg_wire.specs.Modes.{mode_bytes}
use Rattle.vg_wire.proofs.modes.put_each.Given as goal

abbrev pub invariant-loop-mode : goal.invariant-loop-mode
invariant-loop-mode l = l.out.items ≡ l.initial.out.items ++ flat_map mode_bytes (take l.mode-index l.modes)
