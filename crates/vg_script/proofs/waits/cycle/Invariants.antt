use Rattle.std.proofs.Common.{◌≡◌, ◌-◌, length, drop, map}
use Rattle.vg_script.specs.SearchWithin.{find_from}
use Rattle.vg_script.specs.WalkWithin.{target_in}
use Rattle.vg_script.proofs.waits.cycle.Given as goal

abbrev pub invariant-loop-client : goal.invariant-loop-client
invariant-loop-client l =
    find_from (target_in l.clients l.places.items) l.total (length l.clients) l.client (drop l.client (map length l.clients))
    ≡ find_from (target_in l.clients l.places.items) l.total (length l.clients) 0 (map length l.clients)

abbrev pub decreases-loop-client : goal.decreases-loop-client
decreases-loop-client l = length l.clients - l.client
