use Rattle.std.proofs.Common.{length, ◌-◌, ◌≡◌, ◌+◌, ◌≤◌, ◌<◌, ℕ, slice_index, get_or}
use Rattle.vg_share.specs.Cells.{place_in_memory}
use Rattle.vg_share.proofs.cells.fill.Given as goal

-- what was read so far
abbrev pub invariant-loop-done : goal.invariant-loop-done
invariant-loop-done l = record {
  size : length l.out ≡ length l.initial.out;
  within : l.done ≤ length l.initial.out;
  bytes : (k : ℕ) → k < l.done → get_or l.out k 0 ≡ slice_index l.memory.bytes (place_in_memory l.pages (l.offset + k));
}

abbrev pub decreases-loop-done : goal.decreases-loop-done
decreases-loop-done l = length l.initial.out - l.done
