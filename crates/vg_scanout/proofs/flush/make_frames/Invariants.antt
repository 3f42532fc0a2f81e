use Rattle.std.proofs.Common.{◌≡◌, ◌<◌, ℕ, ◌++◌, drop, get_or, length, None}
use Rattle.vg_scanout.specs.Panels.{IsAnew, screens_in}
use Rattle.vg_scanout.specs.Scanout.{new_frames}
use Rattle.vg_scanout.proofs.flush.make_frames.Given as goal

abbrev pub invariant-loop-i : goal.invariant-loop-i
invariant-loop-i l =
    (l.frames.items ++ new_frames l.flush.entry l.flush.resource l.flush.rect.now l.flush.surface.now l.flush.cursors.now l.i (drop l.i (screens_in l.flush.before.now l.panels)) ≡ new_frames l.flush.entry l.flush.resource l.flush.rect.now l.flush.surface.now l.flush.cursors.now 0 (screens_in l.flush.before.now l.panels))
    × (length l.grounds.items ≡ l.i)
    × ((k : ℕ) → k < l.i → IsAnew l.flush.resource l.flush.rect.now l.flush.surface.now l.flush.before.now (l.flush.before.now ++ l.frames.items) (get_or l.grounds.items k None) (get_or l.panels k None))
