use Rattle.std.proofs.Common.{◌≡◌, ◌≤◌, ◌<◌, ◌-◌, ◌+◌, ◌++◌, take, drop, length}
use Rattle.vg_backing.specs.Backing.{backing_bytes}
use Rattle.vg_backing.proofs.backing.read_from.Given as goal
use Rattle.vg_backing.specs.Fits.{HasByte, entries_of}

abbrev pub invariant-loop-done : goal.invariant-loop-done
invariant-loop-done l = record {
  fits : l.done ≤ length l.initial.out;
  run : l.done < length l.initial.out → HasByte l.runs l.i (l.at + l.done);
  out : l.out ≡ take l.done (drop l.at (backing_bytes l.pages (entries_of l.runs))) ++ drop l.done l.initial.out;
}

abbrev pub decreases-loop-done : goal.decreases-loop-done
decreases-loop-done l = length l.initial.out - l.done
