use Rattle.std.proofs.Common.{◌≡◌, take, false}
use Rattle.vg_backing.specs.Backing.{touches}
use Rattle.vg_backing.specs.Fits.{entries_of}
use Rattle.vg_backing.proofs.backing.touches_in.Given as goal

abbrev pub invariant-loop-run : goal.invariant-loop-run
invariant-loop-run l = touches l.page (take l.run-index (entries_of l.runs)) ≡ false
