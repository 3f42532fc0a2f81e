use Rattle.std.proofs.Common.{length, ◌-◌, ◌≡◌, ◌≤◌, take}
use Rattle.vg_share.specs.Cells.{stored}
use Rattle.vg_share.proofs.cells.store.Given as goal

-- the piece is stored as far as the loop has come
abbrev pub invariant-loop-done : goal.invariant-loop-done
invariant-loop-done l = record {
  memory : l.memory ≡ record l.initial.memory { bytes = stored l.pages l.offset (take l.done l.piece) l.initial.memory.bytes };
  within : l.done ≤ length l.piece;
}

abbrev pub decreases-loop-done : goal.decreases-loop-done
decreases-loop-done l = length l.piece - l.done
