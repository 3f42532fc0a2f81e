use Rattle.std.proofs.Common.{◌≡◌, take}
use Rattle.vg_names.specs.Names.{current_from}
use Rattle.vg_names.proofs.names.current_of.Given as goal

abbrev pub invariant-loop-i : goal.invariant-loop-i
invariant-loop-i l = l.current.items ≡ current_from 1 l.held.slots (take l.i l.places)
