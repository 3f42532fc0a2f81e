use Rattle.std.proofs.Common.{arith, refl}
use Rattle.vg_text.proofs.NumberedLemmas.{written_more}
use Rattle.vg_run.proofs.upgrade_command.put_displays.Goals as goal

pub loop-number-preserved : goal.loop-number-preserved
loop-number-preserved c =
    written_more _ 0 _ _ _ _ _ _ _ _ c.loop-number.invariant c.in_ok-put_display.ensures (omega arith) c.loop-number-test.true refl
