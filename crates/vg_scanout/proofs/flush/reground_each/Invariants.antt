use Rattle.std.proofs.Common.{◌≡◌, ◌<◌, ◌≤◌, ℕ, get_or, length, None}
use Rattle.vg_scanout.specs.Panels.{regrounded}
use Rattle.vg_scanout.proofs.flush.reground_each.Given as goal

abbrev pub invariant-loop-i : goal.invariant-loop-i
invariant-loop-i l =
    (length l.panels ≡ length l.initial.panels)
    × (length l.grounds ≡ length l.initial.grounds)
    × ((k : ℕ) → k < l.i → get_or l.panels k None ≡ regrounded (get_or l.initial.grounds k None) (get_or l.initial.panels k None))
    × ((k : ℕ) → l.i ≤ k → get_or l.panels k None ≡ get_or l.initial.panels k None)
    × ((k : ℕ) → l.i ≤ k → get_or l.grounds k None ≡ get_or l.initial.grounds k None)
