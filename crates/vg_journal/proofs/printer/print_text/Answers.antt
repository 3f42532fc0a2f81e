use Rattle.std.proofs.Common.{}
use Rattle.vg_laws.proofs.Results.{on_err}
use Rattle.vg_journal.proofs.PrintingLemmas.{some_of}
use Rattle.vg_journal.proofs.JournalLemmas.{front_part, front_some, rest_some}
use Rattle.vg_journal.proofs.printer.print_text.Goals as goal

pub returns-in_err-print_front-clause-some : goal.returns-in_err-print_front-clause-some
returns-in_err-print_front-clause-some g c = on_err _ (front_some _ _ c.args.journal.now c.in_err-print_front.ensures.some)

pub returns-in_err-print_front-clause-part : goal.returns-in_err-print_front-clause-part
returns-in_err-print_front-clause-part g c = λ is. front_part _ _ c.args.journal.now c.in_err-print_front.ensures.some

pub returns-in_err-put-clause-some : goal.returns-in_err-put-clause-some
returns-in_err-put-clause-some g c = on_err _ (front_some _ _ c.args.journal.now (some_of _ _ _ _ c.in_ok-print_front.ensures.ok))

pub returns-in_err-put-clause-part : goal.returns-in_err-put-clause-part
returns-in_err-put-clause-part g c = λ is. front_part _ _ c.args.journal.now (some_of _ _ _ _ c.in_ok-print_front.ensures.ok)

pub returns-in_err-hand_on-clause-some : goal.returns-in_err-hand_on-clause-some
returns-in_err-hand_on-clause-some g c =
    on_err _ (rest_some _ _ _ c.args.journal.now _ _ c.in_ok-print_front.ensures.ok c.in_ok-put.ensures c.in_err-hand_on.ensures.failed)
