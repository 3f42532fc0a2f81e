use Rattle.std.proofs.Common.{◌≡◌, ◌++◌, None, replicate}
use Rattle.std.specs.List.{flat_map}
use Rattle.vg_wire.specs.Modes.{mode_bytes}
use Rattle.vg_wire.proofs.modes.put_nones.Given as goal

abbrev pub invariant-loop-none : goal.invariant-loop-none
invariant-loop-none l = l.out.items ≡ l.initial.out.items ++ flat_map mode_bytes (replicate l._none None)
