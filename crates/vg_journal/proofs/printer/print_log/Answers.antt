use Rattle.std.proofs.Common.{◌≡◌, ◌++◌, ◌∙◌, ℕ, List, ap}
use Rattle.std.specs.List.{concat}
use Rattle.vg_laws.proofs.Results.{on_err, err_then, ok_then}
use Rattle.vg_journal.proofs.PrintingLemmas.{first_some, second_some, two_printed}
use Rattle.vg_journal.proofs.printer.print_log.Goals as goal

pub returns-in_err-print_pieces-clause-some : goal.returns-in_err-print_pieces-clause-some
returns-in_err-print_pieces-clause-some g c =
    on_err c.from_residual.result
    (first_some _ _ c.args.buffer.now.items (concat c.pieces.result.0.now) c.pieces.result.1.now c.args.text.now c.in_err-print_pieces.ensures.some c.pieces.ensures)

pub returns-clause-ok : goal.returns-clause-ok
returns-clause-ok g c =
    let whole : concat c.pieces.result.0.now ++ c.spelling.result ≡ c.args.text.now = ap (λ (l : List ℕ). concat c.pieces.result.0.now ++ l) c.spelling.ensures ∙ c.pieces.ensures in
    ok_then c.print_spelling.result
    (two_printed _ _ _ c.args.buffer.now.items (concat c.pieces.result.0.now) c.spelling.result c.args.text.now c.print_pieces.new.buffer.items c.print_spelling.new.buffer.items c.in_ok-print_pieces.ensures.ok whole)
    c.print_spelling.ensures.ok

pub returns-clause-some : goal.returns-clause-some
returns-clause-some g c =
    let whole : concat c.pieces.result.0.now ++ c.spelling.result ≡ c.args.text.now = ap (λ (l : List ℕ). concat c.pieces.result.0.now ++ l) c.spelling.ensures ∙ c.pieces.ensures in
    err_then c.print_spelling.result
    (second_some _ _ _ c.args.buffer.now.items (concat c.pieces.result.0.now) c.spelling.result c.args.text.now c.print_pieces.new.buffer.items c.in_ok-print_pieces.ensures.ok whole)
    c.print_spelling.ensures.some
