use Rattle.std.proofs.Common.{◌≡◌, ◌++◌, ◌-◌, length, drop}
use Rattle.vg_script.specs.SearchWithin.{places_from}
use Rattle.vg_script.proofs.waits.places.Given as goal

abbrev pub invariant-loop-client : goal.invariant-loop-client
invariant-loop-client l = l.places.items ++ places_from l.client (drop l.client l.clients) ≡ places_from 0 l.clients

abbrev pub decreases-loop-client : goal.decreases-loop-client
decreases-loop-client l = length l.clients - l.client
