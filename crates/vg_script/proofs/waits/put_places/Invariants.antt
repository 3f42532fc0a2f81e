use Rattle.std.proofs.Common.{◌≡◌, ◌++◌, ◌-◌, length, drop}
use Rattle.vg_script.specs.SearchWithin.{places_in}
use Rattle.vg_script.proofs.waits.put_places.Given as goal

abbrev pub invariant-loop-place : goal.invariant-loop-place
invariant-loop-place l = l.places.items ++ places_in l.client l.place (drop l.place l.lines) ≡ l.initial.places.items ++ places_in l.client 0 l.lines

abbrev pub decreases-loop-place : goal.decreases-loop-place
decreases-loop-place l = length l.lines - l.place
