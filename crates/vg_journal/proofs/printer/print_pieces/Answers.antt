use Rattle.std.proofs.Common.{◌++◌, ◌∙◌, ℕ, List, subst, arith}
use Rattle.vg_laws.proofs.Results.{on_err}
use Rattle.vg_journal.specs.PrintingWithin.{Printed, PrintedSome}
use Rattle.vg_journal.proofs.PieceLemmas.{piece_text, pieces_are}
use Rattle.vg_journal.proofs.PrintingLemmas.{all_printed, some_more, printed_more}
use Rattle.vg_journal.proofs.printer.print_pieces.Goals as goal

pub returns-in_err-print_spelling-clause-some : goal.returns-in_err-print_spelling-clause-some
returns-in_err-print_spelling-clause-some g c =
    let held = g.K.Sink.held in
    let pieces = c.args.pieces.now in
    let old = c.args.buffer.now.items in
    let here : PrintedSome (held c.loop-piece.sink) (held c.print_spelling.new.sink) (c.loop-piece.buffer.items ++ c.piece-item.result) =
    subst (λ (l : List ℕ). PrintedSome (held c.loop-piece.sink) (held c.print_spelling.new.sink) (c.loop-piece.buffer.items ++ l)) c.spelling.ensures c.in_err-print_spelling.ensures.some in
    on_err c.from_residual.result
    (subst (λ (l : List ℕ). PrintedSome (held c.args.sink.now) (held c.print_spelling.new.sink) (old ++ l)) (pieces_are 0 pieces)
    (some_more piece_text 0 pieces c.loop-piece.piece-index c.loop-piece.piece-index c.piece-item.result _ _ _ _ old c.loop-piece.buffer.items c.loop-piece.invariant.printed here (omega arith) c.loop-piece-test.true c.piece-item.is))

pub loop-piece-preserved : goal.loop-piece-preserved
loop-piece-preserved g c =
    let held = g.K.Sink.held in
    let pieces = c.args.pieces.now in
    let old = c.args.buffer.now.items in
    let here : Printed (held c.loop-piece.sink) (held c.print_spelling.new.sink) (c.loop-piece.buffer.items ++ c.piece-item.result) c.print_spelling.new.buffer.items =
    subst (λ (l : List ℕ). Printed (held c.loop-piece.sink) (held c.print_spelling.new.sink) (c.loop-piece.buffer.items ++ l) c.print_spelling.new.buffer.items) c.spelling.ensures c.in_ok-print_spelling.ensures.ok in
    record {
      printed = printed_more piece_text 0 pieces c.loop-piece.piece-index c.loop-piece.piece-index c.piece-item.result _ _ _ _ old c.loop-piece.buffer.items c.print_spelling.new.buffer.items c.loop-piece.invariant.printed here (omega arith) c.loop-piece-test.true c.piece-item.is;
      same = c.in_ok-print_spelling.ensures.same ∙ c.loop-piece.invariant.same;
    }

pub returns-clause-ok : goal.returns-clause-ok
returns-clause-ok g c =
    subst (λ (l : List ℕ). Printed (g.K.Sink.held c.args.sink.now) (g.K.Sink.held c.loop-piece.sink) (c.args.buffer.now.items ++ l) c.loop-piece.buffer.items) (pieces_are 0 c.args.pieces.now)
    (all_printed piece_text 0 c.args.pieces.now c.loop-piece.piece-index _ _ c.args.buffer.now.items c.loop-piece.buffer.items c.loop-piece.invariant.printed (omega (arith, c.loop-piece-test.false)))
