use Rattle.std.proofs.Common.{◌≡◌, ◌≤◌, ◌-◌, ◌++◌, take, drop, length}
use Rattle.vg_pages.proofs.lent.LentBytes.read.Given as goal

abbrev pub invariant-loop-done : goal.invariant-loop-done
invariant-loop-done l = record {
  fits : l.done ≤ length l.initial.out;
  out : l.out ≡ take l.done l.initial.self.bytes ++ drop l.done l.initial.out;
  self : l.self ≡ record l.initial.self { bytes = drop l.done l.initial.self.bytes };
}

abbrev pub decreases-loop-done : goal.decreases-loop-done
decreases-loop-done l = length l.initial.out - l.done
