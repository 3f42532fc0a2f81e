use Rattle.std.proofs.Common.{◌++◌, append_assoc}
use Rattle.std.specs.Prelude.{codes, decimal}
use Rattle.vg_laws.proofs.Results.{on_err}
use Rattle.vg_text.specs.Text.{hex_text}
use Rattle.vg_journal_words.proofs.LineFronts.{first_of}
use Rattle.vg_journal_words.proofs.acts.put_repeated.Goals as goal

pub returns-in_err-put_bytes-clause-err : goal.returns-in_err-put_bytes-clause-err
returns-in_err-put_bytes-clause-err c =
    on_err _ (first_of _ _ (codes " " ++ hex_text c.args.bytes.now) (codes " " ++ decimal c.args.times) _ c.in_err-put_bytes.ensures.err (simp append_assoc))
