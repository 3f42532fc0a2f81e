use Rattle.std.proofs.Common.{◌≡◌, ◌≤◌, ◌-◌, ◌++◌, take, drop, length}
use Rattle.vg_pages.proofs.blocks.Blocks.read.Given as goal

abbrev pub invariant-loop-done : goal.invariant-loop-done
invariant-loop-done l = record {
  fits : l.done ≤ length l.initial.out;
  out : l.out ≡ take l.done (drop l.start l.self) ++ drop l.done l.initial.out;
}

abbrev pub decreases-loop-done : goal.decreases-loop-done
decreases-loop-done l = length l.initial.out - l.done
