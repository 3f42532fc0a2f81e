use Rattle.std.proofs.Common.{◌≡◌, ◌≤◌, ◌-◌, take, length}
use Rattle.vg_pages.specs.BlocksWithin.{spliced}
use Rattle.vg_pages.proofs.blocks.Blocks.write.Given as goal

abbrev pub invariant-loop-done : goal.invariant-loop-done
invariant-loop-done l = record {
  fits : l.done ≤ length l.bytes;
  self : l.self ≡ spliced l.start (take l.done l.bytes) l.initial.self;
}

abbrev pub decreases-loop-done : goal.decreases-loop-done
decreases-loop-done l = length l.bytes - l.done
