use Rattle.std.proofs.Common.{◌≡◌}
use Rattle.vg_script.specs.SearchWithin.{close}
use Rattle.vg_script.specs.WalkWithin.{search_of, target_in}
use Rattle.vg_script.proofs.waits.Walk.close.Given as goal

abbrev pub invariant-loop-left : goal.invariant-loop-left
invariant-loop-left l = close (target_in l.clients l.places) l.left (search_of l.self) ≡ close (target_in l.clients l.places) l.total (search_of l.initial.self)

abbrev pub decreases-loop-left : goal.decreases-loop-left
decreases-loop-left l = l.left
