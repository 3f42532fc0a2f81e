use Rattle.vg_laws.proofs.Results.{on_err, err_then, ok_then}
use Rattle.vg_journal.proofs.JournalLemmas.{head_some, head_printed, entries_some, entries_printed, counts_some, counts_printed, frames_some, frames_printed}
use Rattle.vg_journal.proofs.printer.print_front.Goals as goal

pub returns-in_err-print_head-clause-some : goal.returns-in_err-print_head-clause-some
returns-in_err-print_head-clause-some g c = on_err _ (head_some _ _ c.args.journal.now _ c.requires c.in_err-print_head.ensures.some)

pub returns-in_err-print_entries-clause-some : goal.returns-in_err-print_entries-clause-some
returns-in_err-print_entries-clause-some g c =
    let head = head_printed _ _ c.args.journal.now _ _ c.requires c.in_ok-print_head.ensures.ok in
    on_err _ (entries_some _ _ _ c.args.journal.now _ head c.in_err-print_entries.ensures.some)

pub returns-in_err-print_counts-clause-some : goal.returns-in_err-print_counts-clause-some
returns-in_err-print_counts-clause-some g c =
    let head = head_printed _ _ c.args.journal.now _ _ c.requires c.in_ok-print_head.ensures.ok in
    let entries = entries_printed _ _ _ c.args.journal.now _ _ head c.in_ok-print_entries.ensures.ok in
    on_err _ (counts_some _ _ _ c.args.journal.now _ entries c.in_err-print_counts.ensures.some)

pub returns-clause-ok : goal.returns-clause-ok
returns-clause-ok g c =
    let head = head_printed _ _ c.args.journal.now _ _ c.requires c.in_ok-print_head.ensures.ok in
    let entries = entries_printed _ _ _ c.args.journal.now _ _ head c.in_ok-print_entries.ensures.ok in
    let counts = counts_printed _ _ _ c.args.journal.now _ _ entries c.in_ok-print_counts.ensures.ok in
    ok_then _ (frames_printed _ _ _ c.args.journal.now _ _ _ counts c.as_slice.ensures) c.print_frames.ensures.ok

pub returns-clause-some : goal.returns-clause-some
returns-clause-some g c =
    let head = head_printed _ _ c.args.journal.now _ _ c.requires c.in_ok-print_head.ensures.ok in
    let entries = entries_printed _ _ _ c.args.journal.now _ _ head c.in_ok-print_entries.ensures.ok in
    let counts = counts_printed _ _ _ c.args.journal.now _ _ entries c.in_ok-print_counts.ensures.ok in
    err_then _ (frames_some _ _ _ c.args.journal.now _ _ counts c.as_slice.ensures) c.print_frames.ensures.some
