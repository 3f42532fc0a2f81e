use Rattle.std.proofs.Common.{◌≡◌, ◌+◌, ◌*◌, ◌≤◌, take}
use Rattle.vg_backing.specs.Backing.{total}
use Rattle.vg_backing.specs.Fits.{EndsInRange, entry_of}
use Rattle.vg_backing.proofs.RunLemmas.{IsMade}
use Rattle.vg_backing.proofs.run.table_of.Given as goal

abbrev pub invariant-loop-i : goal.invariant-loop-i
invariant-loop-i l = record {
  runs : IsMade l.entries l.i l.runs.items l.run;
  ends : EndsInRange (entry_of l.run);
  end : l.run.start + l.run.length ≡ total (take l.i l.entries);
  small : l.run.start + l.run.length ≤ 4294967295 * l.i;
}
