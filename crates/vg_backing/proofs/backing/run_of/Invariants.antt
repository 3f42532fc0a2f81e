use Rattle.std.proofs.Common.{◌≤◌, ◌<◌, ◌-◌, take, length}
use Rattle.vg_backing.specs.Backing.{total}
use Rattle.vg_backing.proofs.backing.run_of.Given as goal
use Rattle.vg_backing.specs.Fits.{entries_of}

abbrev pub invariant-loop-high : goal.invariant-loop-high
invariant-loop-high l = record {
  low : total (take l.low (entries_of l.runs)) ≤ l.at;
  high : l.at < total (take l.high (entries_of l.runs));
  order : l.low < l.high;
  fits : l.high ≤ length l.runs;
}

abbrev pub decreases-loop-high : goal.decreases-loop-high
decreases-loop-high l = l.high - l.low
