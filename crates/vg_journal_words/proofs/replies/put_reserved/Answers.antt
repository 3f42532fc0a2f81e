use Rattle.std.proofs.Common.{◌++◌, append_assoc}
use Rattle.std.specs.Prelude.{codes, decimal}
use Rattle.vg_laws.proofs.Results.{on_err}
use Rattle.vg_journal_words.specs.Text.{pages_text, reserved_text}
use Rattle.vg_journal_words.proofs.LineFronts.{first_of}
use Rattle.vg_journal_words.proofs.replies.put_reserved.Goals as goal

pub returns-in_err-put_numbered-clause-err : goal.returns-in_err-put_numbered-clause-err
unfolding reserved_text
returns-in_err-put_numbered-clause-err c =
    on_err _ (first_of _ _ (codes "key " ++ decimal c.args.key) (codes " pages " ++ pages_text c.args.pages.now) _ c.in_err-put_numbered.ensures.err (simp append_assoc))
