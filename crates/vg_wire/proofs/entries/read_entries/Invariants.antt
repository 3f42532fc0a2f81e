use Rattle.std.proofs.Common.{◌≡◌}
use Rattle.vg_wire.specs.Entries.{entries_at}
use Rattle.vg_wire.proofs.entries.read_entries.Given as goal

abbrev pub invariant-loop-place : goal.invariant-loop-place
invariant-loop-place l = l.entries.items ≡ entries_at l.at l.place l.bytes
