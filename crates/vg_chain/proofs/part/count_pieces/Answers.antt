use Rattle.std.proofs.Common.{◌≡◌, suc, ◌+◌, ◌-◌, ◌<◌, length, refl, arith}
use Rattle.vg_chain.specs.Made.{pieces}
use Rattle.vg_chain.proofs.CountLemmas.{length_any, count_more}
use Rattle.vg_chain.proofs.part.count_pieces.Goals as goal
use Rattle.vg_chain.proofs.part.count_pieces.Goals.{then-left-gt0, else-left-gt0}

pub returns-clause-count : goal.returns-clause-count
returns-clause-count c = λ b.
    let over : c.args.most - c.loop-piece._piece ≡ 0 = omega arith in
    let none : length (pieces (c.args.most - c.loop-piece._piece) c.args.size 0 c.loop-piece.left) ≡ 0 = rw over refl in
    let moved = length_any c.args.most c.args.size b 0 c.args.request in
    omega (arith, none, moved, c.loop-piece.invariant.so_far)

pub loop-piece-preserved : goal.loop-piece-preserved
loop-piece-preserved c =
    let step : c.args.most - c.loop-piece._piece ≡ suc (c.args.most - (c.loop-piece._piece + 1)) = omega arith in
    let some : 0 < c.loop-piece.left → c.if-left-gt0.count ≡ c.loop-piece.count + 1 = λ h. elim c.if-left-gt0.branch [ then-left-gt0 w ↦ w.count-is | else-left-gt0 w ↦ omega arith ] in
    let none : c.loop-piece.left ≡ 0 → c.if-left-gt0.count ≡ c.loop-piece.count = λ h. elim c.if-left-gt0.branch [ then-left-gt0 w ↦ omega arith | else-left-gt0 w ↦ w.count-is ] in
    let more = count_more (c.args.most - c.loop-piece._piece) (c.args.most - (c.loop-piece._piece + 1)) c.args.size c.loop-piece.left c.loop-piece.count c.if-left-gt0.count (length (pieces c.args.most c.args.size 0 c.args.request)) step c.loop-piece.invariant.so_far some none in
    record {
      so_far = rw c.saturating_sub-left.ensures more;
      bound = elim c.if-left-gt0.branch [ then-left-gt0 w ↦ omega arith | else-left-gt0 w ↦ omega arith ];
    }
