use Rattle.std.proofs.Common.{◌++◌, List, ℕ, append_assoc, subst}
use Rattle.std.specs.Prelude.{codes, decimal}
use Rattle.vg_laws.proofs.Results.{on_err, err_then}
use Rattle.vg_text.specs.Text.{hex_text}
use Rattle.vg_journal_words.specs.Text.{shape_text}
use Rattle.vg_machine.specs.Lines.{request_text}
use Rattle.vg_list.specs.Front.{HasFront}
use Rattle.vg_journal_words.proofs.LineFronts.{first_of, then_of}
use Rattle.vg_machine.proofs.spelled.put_request.Goals as goal

pub returns-in_err-put_shape-clause-err : goal.returns-in_err-put_shape-clause-err
unfolding request_text
returns-in_err-put_shape-clause-err c =
    on_err _ (then_of _ _ _ (decimal c.args.request.now.lane ++ codes " " ++ decimal c.args.request.now.ordinal ++ codes " " ++ decimal c.args.request.now.room)
    (codes " " ++ shape_text c.args.request.now.shape ++ codes " " ++ hex_text c.args.request.now.bytes) _
    (rw (← c.from.ensures, ← c.from-2.ensures) c.in_ok-put_three.ensures.ok)
    (then_of _ _ _ (codes " ") (shape_text c.args.request.now.shape ++ codes " " ++ hex_text c.args.request.now.bytes) _ c.in_ok-put.ensures.ok
    (first_of _ _ (shape_text c.args.request.now.shape) (codes " " ++ hex_text c.args.request.now.bytes) _ c.in_err-put_shape.ensures.err (simp append_assoc)) (simp append_assoc))
    (simp append_assoc))

pub returns-clause-err : goal.returns-clause-err
unfolding request_text
returns-clause-err c =
    err_then c.put_bytes.result
    (λ has. then_of _ _ _ (decimal c.args.request.now.lane ++ codes " " ++ decimal c.args.request.now.ordinal ++ codes " " ++ decimal c.args.request.now.room)
    (codes " " ++ shape_text c.args.request.now.shape ++ codes " " ++ hex_text c.args.request.now.bytes) _
    (rw (← c.from.ensures, ← c.from-2.ensures) c.in_ok-put_three.ensures.ok)
    (then_of _ _ _ (codes " ") (shape_text c.args.request.now.shape ++ codes " " ++ hex_text c.args.request.now.bytes) _ c.in_ok-put.ensures.ok
    (then_of _ _ _ (shape_text c.args.request.now.shape) (codes " " ++ hex_text c.args.request.now.bytes) _ c.in_ok-put_shape.ensures.ok
    (subst (λ (l : List ℕ). HasFront c.put_shape.new.out c.put_bytes.new.self (codes " " ++ hex_text l)) c.as_slice.ensures has) (simp append_assoc)) (simp append_assoc))
    (simp append_assoc))
    c.put_bytes.ensures.err
