use Rattle.std.proofs.Common.{arith, refl}
use Rattle.vg_judge.proofs.PieceLemmas.{one_piece_more}
use Rattle.vg_judge.proofs.frames.are_pixels.Goals as goal

pub loop-at-preserved : goal.loop-at-preserved
loop-at-preserved c = record {
  same = one_piece_more _ _ _ _ c.loop-at.invariant.same (c.if-not-are_same.ensures.0 refl) c.piece-piece.ensures.bytes;
  within = omega arith;
}
