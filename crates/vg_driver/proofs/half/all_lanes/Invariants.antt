use Rattle.std.proofs.Common.{◌≡◌, ℕ, ◌<◌, [], length, get_or}
use Rattle.vg_driver.specs.Halves.{IsHeard, unheard}
use Rattle.vg_driver.proofs.half.all_lanes.Given as goal

abbrev pub invariant-loop-lane : goal.invariant-loop-lane
invariant-loop-lane g l = (length l.heard.items ≡ l.lane) × ((k : ℕ) → k < l.lane → IsHeard [] k (get_or l.heard.items k (unheard 0)))
