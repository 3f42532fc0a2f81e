use Rattle.std.proofs.Common.{arith, refl}
use Rattle.vg_laws.proofs.Results.{on_err}
use Rattle.vg_text.proofs.NumberedLemmas.{written_more}
use Rattle.vg_journal_words.proofs.PageLemmas.{front_more}
use Rattle.vg_journal_words.proofs.replies.put_more_pages.Goals as goal

pub loop-place-preserved : goal.loop-place-preserved
loop-place-preserved c =
    written_more _ 0 _ _ _ _ _ _ _ _ c.loop-place.invariant c.in_ok-put_comma.ensures.ok (omega arith) c.loop-place-test.true refl

pub returns-in_err-put_comma-clause-err : goal.returns-in_err-put_comma-clause-err
returns-in_err-put_comma-clause-err c =
    on_err _ (front_more _ 0 _ _ _ _ _ _ _ _ c.loop-place.invariant c.in_err-put_comma.ensures.err (omega arith) c.loop-place-test.true refl)
