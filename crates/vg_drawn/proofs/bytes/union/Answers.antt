use Rattle.std.proofs.Common.{get_or}
use Rattle.vg_drawn.specs.Words.{word_of}
use Rattle.vg_drawn.proofs.FrameLemmas.{goes-more}
use Rattle.vg_drawn.proofs.bytes.union.Goals as goal

pub loop-byte-preserved : goal.loop-byte-preserved
loop-byte-preserved c =
    goes-more c.args.all c.loop-byte.byte-index (λ k. word_of (get_or c.args.bytes.now k 0)) c.loop-byte.sum c.word_of-sum.result c.loop-byte.invariant c.word_of-sum.ensures
