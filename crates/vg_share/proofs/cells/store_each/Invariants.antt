use Rattle.std.proofs.Common.{◌≡◌, ◌+◌, ◌*◌, length}
use Rattle.vg_share.specs.Cells.{repeated, stored}
use Rattle.vg_share.proofs.cells.store_each.Given as goal

-- as many turns are stored as the loop has made
abbrev pub invariant-loop-turn : goal.invariant-loop-turn
invariant-loop-turn l = record {
  memory : l.memory ≡ record l.initial.memory { bytes = stored l.pages l.offset (repeated l.bytes l._turn) l.initial.memory.bytes };
  place : l.at ≡ l.offset + length l.bytes * l._turn;
}
