use Rattle.std.proofs.Common.{ℕ, List, subst}
use Rattle.vg_laws.proofs.Results.{on_err}
use Rattle.vg_journal.specs.PrintingWithin.{PrintedSome}
use Rattle.vg_journal.proofs.PrintingLemmas.{some_none, some_taken}
use Rattle.vg_journal.proofs.printer.print_bytes.Goals as goal

pub returns-in_err-hand_on_piece-clause-some : goal.returns-in_err-hand_on_piece-clause-some
returns-in_err-hand_on_piece-clause-some g c =
    let P : List ℕ → Type 0 = λ text. PrintedSome (g.K.Sink.held c.args.sink.now) (g.K.Sink.held c.hand_on_piece.new.sink) text in
    on_err _ (subst P c.in_ok-put.ensures (some_taken _ _ _ c.in_err-hand_on_piece.ensures.failed))

pub returns-in_err-put-clause-some : goal.returns-in_err-put-clause-some
returns-in_err-put-clause-some g c = on_err _ (some_none _ _)
