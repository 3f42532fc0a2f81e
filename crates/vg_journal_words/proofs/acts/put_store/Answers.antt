use Rattle.std.proofs.Common.{◌++◌, append_assoc}
use Rattle.std.specs.Prelude.{codes, decimal}
use Rattle.vg_laws.proofs.Results.{on_err, err_then}
use Rattle.vg_journal_words.specs.Text.{store_text}
use Rattle.vg_journal_words.proofs.LineFronts.{first_of, then_of}
use Rattle.vg_text.specs.Text.{hex_text}
use Rattle.vg_journal_words.proofs.acts.put_store.Goals as goal

pub returns-in_err-put_numbered-clause-err : goal.returns-in_err-put_numbered-clause-err
unfolding store_text
returns-in_err-put_numbered-clause-err c =
    on_err _ (first_of _ _ (codes "store " ++ decimal c.args.key) (codes " " ++ decimal c.args.offset ++ codes " " ++ hex_text c.args.bytes.now ++ codes " " ++ decimal c.args.times) _
    c.in_err-put_numbered.ensures.err (simp append_assoc))

pub returns-in_err-put_numbered-2-clause-err : goal.returns-in_err-put_numbered-2-clause-err
unfolding store_text
returns-in_err-put_numbered-2-clause-err c =
    on_err _ (then_of _ _ _ (codes "store " ++ decimal c.args.key) (codes " " ++ decimal c.args.offset ++ (codes " " ++ hex_text c.args.bytes.now ++ codes " " ++ decimal c.args.times)) _
    c.in_ok-put_numbered.ensures.ok
    (first_of _ _ (codes " " ++ decimal c.args.offset) (codes " " ++ hex_text c.args.bytes.now ++ codes " " ++ decimal c.args.times) _ c.in_err-put_numbered-2.ensures.err (simp append_assoc))
    (simp append_assoc))

pub returns-clause-err : goal.returns-clause-err
unfolding store_text
returns-clause-err c =
    err_then c.put_repeated.result
    (λ has. then_of _ _ _ (codes "store " ++ decimal c.args.key) (codes " " ++ decimal c.args.offset ++ (codes " " ++ hex_text c.args.bytes.now ++ codes " " ++ decimal c.args.times)) _
    c.in_ok-put_numbered.ensures.ok
    (then_of _ _ _ (codes " " ++ decimal c.args.offset) (codes " " ++ hex_text c.args.bytes.now ++ codes " " ++ decimal c.args.times) _ c.in_ok-put_numbered-2.ensures.ok has (simp append_assoc))
    (simp append_assoc))
    c.put_repeated.ensures.err
