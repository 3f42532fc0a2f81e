use Rattle.std.proofs.Common.{arith, refl}
use Rattle.vg_text.proofs.NumberedLemmas.{written_more}
use Rattle.vg_tracing.specs.Text.{listed}
use Rattle.vg_tracing.proofs.text.put_more.Goals as goal

pub loop-client-preserved : goal.loop-client-preserved
loop-client-preserved c =
    written_more listed 0 _ _ c.loop-client.client-index _ _ _ _ _ c.loop-client.invariant (c.in_ok-put_one_more.ensures c.loop-client.client-index) (omega arith) c.loop-client-test.true refl
