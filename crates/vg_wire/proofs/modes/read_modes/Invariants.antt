use Rattle.std.proofs.Common.{◌≡◌, ◌≤◌, take}
use Rattle.vg_wire.specs.Modes.{slots, trimmed}
use Rattle.vg_wire.proofs.modes.read_modes.Given as goal

abbrev pub invariant-loop-slot : goal.invariant-loop-slot
invariant-loop-slot l = record {
  read : l.modes.items ≡ slots l.slot l.bytes;
  trimmed : take l.enabled l.modes.items ≡ trimmed l.modes.items;
  within : l.enabled ≤ l.slot;
}
