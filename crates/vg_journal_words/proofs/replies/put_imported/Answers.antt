use Rattle.std.proofs.Common.{◌++◌, append_assoc}
use Rattle.std.specs.Prelude.{codes, decimal}
use Rattle.vg_laws.proofs.Results.{on_err}
use Rattle.vg_journal_words.specs.Text.{imported_text, pages_text, size_text}
use Rattle.vg_journal_words.proofs.LineFronts.{first_of, then_of}
use Rattle.vg_journal_words.proofs.replies.put_imported.Goals as goal

pub returns-in_err-put_numbered-clause-err : goal.returns-in_err-put_numbered-clause-err
unfolding imported_text
returns-in_err-put_numbered-clause-err c =
    on_err _ (first_of _ _ (codes "key " ++ decimal c.args.key) (size_text c.args.geometry.now ++ codes " pages " ++ pages_text c.args.pages.now) _ c.in_err-put_numbered.ensures.err
    (simp append_assoc))

pub returns-in_err-put_size-clause-err : goal.returns-in_err-put_size-clause-err
unfolding imported_text
returns-in_err-put_size-clause-err c =
    on_err _ (first_of _ _ (codes "key " ++ decimal c.args.key ++ size_text c.args.geometry.now) (codes " pages " ++ pages_text c.args.pages.now) _
    (then_of _ _ _ (codes "key " ++ decimal c.args.key) (size_text c.args.geometry.now) _ c.in_ok-put_numbered.ensures.ok c.in_err-put_size.ensures.err (simp append_assoc))
    (simp append_assoc))
