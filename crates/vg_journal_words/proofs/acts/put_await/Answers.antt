use Rattle.std.proofs.Common.{◌++◌, append_assoc}
use Rattle.std.specs.Prelude.{codes, decimal}
use Rattle.vg_laws.proofs.Results.{on_err}
use Rattle.vg_journal_words.specs.Text.{await_text}
use Rattle.vg_journal_words.proofs.LineFronts.{first_of}
use Rattle.vg_journal_words.proofs.acts.put_await.Goals as goal

pub returns-in_err-put_numbered-clause-err : goal.returns-in_err-put_numbered-clause-err
unfolding await_text
returns-in_err-put_numbered-clause-err c =
    on_err _ (first_of _ _ (codes "await " ++ decimal c.args.lane) (codes " " ++ decimal c.args.ordinal) _ c.in_err-put_numbered.ensures.err (simp append_assoc))
