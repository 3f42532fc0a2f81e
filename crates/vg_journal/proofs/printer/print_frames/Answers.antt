use Rattle.std.proofs.Common.{◌∙◌, arith, refl}
use Rattle.vg_laws.proofs.Results.{on_err}
use Rattle.vg_journal.specs.Text.{frame_text}
use Rattle.vg_journal.proofs.PrintingLemmas.{all_printed, some_more, printed_more, printed_start}
use Rattle.vg_journal.proofs.printer.print_frames.Goals as goal

pub returns-in_err-print_frame-clause-some : goal.returns-in_err-print_frame-clause-some
returns-in_err-print_frame-clause-some g c =
    on_err _ (some_more frame_text 1 _ _ _ _ _ _ _ _ _ _ c.loop-at.invariant.printed c.in_err-print_frame.ensures.some (omega arith) c.loop-at-test.true c.index-frames-at.is)

pub loop-at-preserved : goal.loop-at-preserved
loop-at-preserved g c =
    record {
      printed = printed_more frame_text 1 _ _ _ _ _ _ _ _ _ _ _ c.loop-at.invariant.printed c.in_ok-print_frame.ensures.ok (omega arith) c.loop-at-test.true c.index-frames-at.is;
      same = c.in_ok-print_frame.ensures.same ∙ c.loop-at.invariant.same;
    }

pub loop-at-init : goal.loop-at-init
loop-at-init g c =
    record {
      printed = printed_start (g.K.Sink.held c.args.sink.now) c.args.buffer.now.items;
      same = refl;
    }

pub returns-clause-ok : goal.returns-clause-ok
returns-clause-ok g c = all_printed frame_text 1 _ _ _ _ _ _ c.loop-at.invariant.printed (omega (arith, c.loop-at-test.false))
