use Rattle.std.proofs.Common.{◌≡◌, take, false}
use Rattle.std.specs.List.{list_any, All}
use Rattle.vg_backing.specs.Backing.{is_bad}
use Rattle.vg_backing.proofs.backing.has_bad.Given as goal
use Rattle.vg_backing.specs.Fits.{EndsInRange}

abbrev pub invariant-loop-entry : goal.invariant-loop-entry
invariant-loop-entry l = record {
  good : list_any (is_bad l.pages) (take l.entry-index l.entries) ≡ false;
  ends : All EndsInRange (take l.entry-index l.entries);
}
