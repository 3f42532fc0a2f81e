use Rattle.std.proofs.Common.{◌≡◌, drop}
use Rattle.std.specs.List.{find}
use Rattle.vg_client_holds.specs.ForeignWithin.{is_missing}
use Rattle.vg_client_holds.specs.Holds.{pages_in}
use Rattle.vg_client_holds.proofs.foreign.missing_of.Given as goal

abbrev pub invariant-loop-entry : goal.invariant-loop-entry
invariant-loop-entry l = find (is_missing l.own) (pages_in l.count (drop l.entry-index l.entries)) ≡ find (is_missing l.own) (pages_in l.count l.entries)
