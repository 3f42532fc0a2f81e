use Rattle.std.proofs.Common.{arith, refl}
use Rattle.vg_text.proofs.NumberedLemmas.{written_more}
use Rattle.vg_tracing.proofs.text.put_frames.Goals as goal

pub loop-at-preserved : goal.loop-at-preserved
loop-at-preserved c =
    written_more _ 1 _ _ _ _ _ _ _ _ c.loop-at.invariant c.in_ok-put_frame.ensures (omega arith) c.loop-at-test.true refl
