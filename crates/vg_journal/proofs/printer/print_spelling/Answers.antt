use Rattle.std.proofs.Common.{◌∙◌, refl}
use Rattle.vg_laws.proofs.Results.{on_err}
use Rattle.vg_journal.proofs.PrintingLemmas.{next_printed, next_some, printed_none, some_of, spelled_whole}
use Rattle.vg_journal.proofs.printer.print_spelling.Goals as goal

pub loop-text-init : goal.loop-text-init
loop-text-init g c = record { printed = printed_none _ _; same = refl }

pub returns-in_err-put_next-clause-some : goal.returns-in_err-put_next-clause-some
returns-in_err-put_next-clause-some g c = on_err _ (some_of _ _ _ _ c.loop-text.invariant.printed)

pub loop-text-preserved : goal.loop-text-preserved
loop-text-preserved g c =
    record {
      printed = next_printed _ _ _ _ c.loop-text.buffer.items c.loop-text.text _ _ _ c.loop-text.invariant.printed c.in_ok-put_next.ensures.moved c.in_ok-hand_on_piece.ensures.ok;
      same = c.in_ok-hand_on_piece.ensures.same ∙ c.loop-text.invariant.same;
    }

pub returns-in_err-hand_on_piece-clause-some : goal.returns-in_err-hand_on_piece-clause-some
returns-in_err-hand_on_piece-clause-some g c =
    on_err _ (next_some _ _ _ _ c.loop-text.buffer.items c.loop-text.text _ _ c.loop-text.invariant.printed c.in_ok-put_next.ensures.moved c.in_err-hand_on_piece.ensures.failed)

pub returns-clause-ok : goal.returns-clause-ok
returns-clause-ok g c = spelled_whole _ _ _ _ _ c.loop-text.invariant.printed (c.is_done.ensures.done c.loop-text-test.false)
