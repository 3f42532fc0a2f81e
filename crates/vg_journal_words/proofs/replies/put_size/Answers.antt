use Rattle.std.proofs.Common.{◌++◌, append_assoc}
use Rattle.std.specs.Prelude.{codes, decimal}
use Rattle.vg_laws.proofs.Results.{err_then}
use Rattle.vg_journal_words.specs.Text.{size_text}
use Rattle.vg_journal_words.proofs.LineFronts.{then_of}
use Rattle.vg_journal_words.proofs.replies.put_size.Goals as goal

pub returns-clause-err : goal.returns-clause-err
unfolding size_text
returns-clause-err c =
    err_then c.put_numbered.result
    (λ has. then_of _ _ _ (codes " size ")
    (decimal c.args.geometry.now.width ++ codes " " ++ decimal c.args.geometry.now.height ++ codes " " ++ decimal c.args.geometry.now.format ++ (codes " " ++ decimal c.args.geometry.now.bytes)) _
    c.in_ok-put.ensures.ok
    (then_of _ _ _ (decimal c.args.geometry.now.width ++ codes " " ++ decimal c.args.geometry.now.height ++ codes " " ++ decimal c.args.geometry.now.format) (codes " " ++ decimal c.args.geometry.now.bytes) _
    (rw (← c.from.ensures, ← c.from-2.ensures, ← c.from-3.ensures) c.in_ok-put_three.ensures.ok) has (simp append_assoc))
    (simp append_assoc))
    c.put_numbered.ensures.err
