use Rattle.std.proofs.Common.{◌≡◌, ◌++◌, take}
use Rattle.vg_text.specs.Text.{numbered}
use Rattle.vg_journal.specs.PrintingWithin.{Printed}
use Rattle.vg_journal.proofs.PieceLemmas.{piece_text}
use Rattle.vg_journal.proofs.printer.print_pieces.Given as goal

abbrev pub invariant-loop-piece : goal.invariant-loop-piece
invariant-loop-piece g l =
    record {
      printed : Printed (g.K.Sink.held l.fn.sink) (g.K.Sink.held l.sink) (l.fn.buffer.items ++ numbered piece_text 0 (take l.piece-index l.pieces)) l.buffer.items;
      same : g.K.Sink.faults l.sink ≡ g.K.Sink.faults l.fn.sink;
    }
