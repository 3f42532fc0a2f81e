use Rattle.std.proofs.Common.{◌≡◌, ◌+◌, ◌-◌, ◌≤◌, length}
use Rattle.vg_chain.specs.Made.{pieces}
use Rattle.vg_chain.proofs.part.count_pieces.Given as goal

abbrev pub invariant-loop-piece : goal.invariant-loop-piece
invariant-loop-piece l = record {
  so_far : l.count + length (pieces (l.most - l._piece) l.size 0 l.left) ≡ length (pieces l.most l.size 0 l.request);
  bound : l.count ≤ l._piece;
}
