use Rattle.std.proofs.Common.{arith, refl, slice_index}
use Rattle.vg_text.proofs.PackingLemmas.{are_more}
use Rattle.vg_text.proofs.spelling.characters.Goals as goal

pub loop-count-preserved : goal.loop-count-preserved
loop-count-preserved c = are_more c.args.packed.now c.loop-count.count (slice_index c.args.packed.now c.loop-count.count) 0 (search (arith, c.loop-count-test.true, c.min-most.ensures)) c.loop-count.invariant refl (search (arith, c.if-packed-count-ge128.false))
