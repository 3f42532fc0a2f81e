use Rattle.std.proofs.Common.{◌≡◌, drop}
use Rattle.std.specs.List.{find}
use Rattle.vg_client_holds.specs.ForeignWithin.{is_outside}
use Rattle.vg_client_holds.specs.Holds.{pages_in}
use Rattle.vg_client_holds.proofs.foreign.are_each.Given as goal

abbrev pub invariant-loop-place : goal.invariant-loop-place
invariant-loop-place l = find (is_outside l.pages) (pages_in l.count (drop l.place l.entries)) ≡ find (is_outside l.pages) (pages_in l.count l.entries)
