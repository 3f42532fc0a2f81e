use Rattle.std.proofs.Common.{◌≡◌, ◌<◌, ℕ, get_or, length, None}
use Rattle.vg_scanout.specs.Panels.{IsUnframed}
use Rattle.vg_scanout.proofs.taken.own_grounds.Given as goal

abbrev pub invariant-loop-i : goal.invariant-loop-i
invariant-loop-i l =
    (length l.grounds.items ≡ l.i)
    × ((k : ℕ) → k < l.i → IsUnframed l.frames (get_or l.grounds.items k None) (get_or l.panels k None))
