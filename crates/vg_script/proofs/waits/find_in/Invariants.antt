use Rattle.std.proofs.Common.{◌≡◌, ◌-◌, ◌≤◌, length}
use Rattle.vg_script.specs.SearchWithin.{find_in, fresh}
use Rattle.vg_script.specs.WalkWithin.{search_of, target_in}
use Rattle.vg_script.proofs.waits.find_in.Given as goal

abbrev pub invariant-loop-place : goal.invariant-loop-place
invariant-loop-place l = record {
  within : l.place ≤ l.size;
  same : find_in (target_in l.clients l.places) l.total l.client (l.size - l.place) l.place (search_of l.walk)
      ≡ find_in (target_in l.clients l.places) l.total l.client l.size 0 (fresh (length l.clients));
}

abbrev pub decreases-loop-place : goal.decreases-loop-place
decreases-loop-place l = l.size - l.place
