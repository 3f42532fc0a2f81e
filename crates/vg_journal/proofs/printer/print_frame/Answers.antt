use Rattle.vg_laws.proofs.Results.{on_err}
use Rattle.vg_journal.proofs.PrintingLemmas.{frame_printed, line_some, pixels_some, some_of, some_then, printed_then}
use Rattle.vg_journal.proofs.printer.print_frame.Goals as goal

pub returns-in_err-print_frame_line-clause-some : goal.returns-in_err-print_frame_line-clause-some
returns-in_err-print_frame_line-clause-some g c = on_err _ (line_some _ _ _ _ _ c.in_err-print_frame_line.ensures.some)

pub returns-in_err-print_pixels-clause-some : goal.returns-in_err-print_pixels-clause-some
returns-in_err-print_pixels-clause-some g c =
    on_err _ (pixels_some _ _ _ _ _ (some_then _ _ _ _ _ _ c.in_ok-print_frame_line.ensures.ok c.in_err-print_pixels.ensures.some))

pub returns-in_err-put-clause-some : goal.returns-in_err-put-clause-some
returns-in_err-put-clause-some g c =
    on_err _ (pixels_some _ _ _ _ _ (some_of _ _ _ _ (printed_then _ _ _ _ _ _ _ c.in_ok-print_frame_line.ensures.ok c.in_ok-print_pixels.ensures.ok)))

pub returns-clause-ok : goal.returns-clause-ok
returns-clause-ok g c =
    frame_printed _ _ _ _ _ _ _ _ _ c.in_ok-print_frame_line.ensures.ok c.in_ok-print_pixels.ensures.ok c.in_ok-put.ensures
