use Rattle.std.proofs.Common.{◌≡◌, ◌++◌, take}
use Rattle.std.specs.List.{All}
use Rattle.vg_wire.specs.Entries.{entries_bytes, IsEntry}
use Rattle.vg_wire.proofs.entries.put_entries.Given as goal

abbrev pub invariant-loop-entry : goal.invariant-loop-entry
invariant-loop-entry l = record {
  bytes : l.out.items ≡ l.initial.out.items ++ entries_bytes (take l.entry-index l.entries);
  fit : All IsEntry (take l.entry-index l.entries);
}
