use Rattle.std.proofs.Common.{◌++◌, append_assoc, refl}
use Rattle.std.specs.Prelude.{codes}
use Rattle.vg_laws.proofs.Results.{on_err}
use Rattle.vg_machine.specs.Lines.{reply_text, request_text, rest_of_command}
use Rattle.vg_journal_words.proofs.LineFronts.{first_of, then_of}
use Rattle.vg_machine.proofs.spelled.put_rest_of_command.Goals as goal

pub returns-in_err-put_reply-clause-err : goal.returns-in_err-put_reply-clause-err
unfolding rest_of_command
returns-in_err-put_reply-clause-err c =
    on_err _ (then_of _ _ _ (codes " cmd ") (request_text c.args.request.now ++ codes " = " ++ reply_text c.args.reply.now ++ codes "\n") _ c.in_ok-put.ensures.ok
    (then_of _ _ _ (request_text c.args.request.now) (codes " = " ++ reply_text c.args.reply.now ++ codes "\n") _ c.in_ok-put_request.ensures.ok
    (then_of _ _ _ (codes " = ") (reply_text c.args.reply.now ++ codes "\n") _ c.in_ok-put-2.ensures.ok
    (first_of _ _ (reply_text c.args.reply.now) (codes "\n") _ c.in_err-put_reply.ensures.err refl) (simp append_assoc)) (simp append_assoc))
    (simp append_assoc))
