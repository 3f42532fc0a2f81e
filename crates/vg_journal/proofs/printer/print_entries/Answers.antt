use Rattle.std.proofs.Common.{refl}
use Rattle.vg_laws.proofs.Results.{on_err, err_then, ok_then}
use Rattle.vg_journal.proofs.LineLemmas.{all_lines}
use Rattle.vg_journal.proofs.PrintingLemmas.{first_some, second_some, two_printed}
use Rattle.vg_journal.proofs.printer.print_entries.Goals as goal

pub returns-in_err-print_log-clause-some : goal.returns-in_err-print_log-clause-some
returns-in_err-print_log-clause-some g c =
    let (es, lines, joined) = c.parts.ensures in
    on_err _ (first_some _ _ _ _ _ _ c.in_err-print_log.ensures.some (all_lines es _ _ _ _ lines joined refl))

pub returns-clause-ok : goal.returns-clause-ok
returns-clause-ok g c =
    let (es, lines, joined) = c.parts.ensures in
    ok_then c.print_whole.result (two_printed _ _ _ c.args.buffer.now.items c.parts.result.0.now _ _ _ _ c.in_ok-print_log.ensures.ok (all_lines es _ _ _ _ lines joined c.len.ensures)) c.print_whole.ensures.ok

pub returns-clause-some : goal.returns-clause-some
returns-clause-some g c =
    let (es, lines, joined) = c.parts.ensures in
    err_then c.print_whole.result (second_some _ _ _ c.args.buffer.now.items c.parts.result.0.now _ _ _ c.in_ok-print_log.ensures.ok (all_lines es _ _ _ _ lines joined c.len.ensures)) c.print_whole.ensures.some
