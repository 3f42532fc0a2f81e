use Rattle.std.proofs.Common.{◌≡◌, ◌++◌, length}
use Rattle.vg_journal.specs.PrintingWithin.{Printed}
use Rattle.vg_journal.proofs.printer.print_spelling.Given as goal

abbrev pub invariant-loop-text : goal.invariant-loop-text
invariant-loop-text g l =
    record {
      printed : Printed (g.K.Sink.held l.fn.sink) (g.K.Sink.held l.sink) (l.fn.buffer.items ++ l.fn.text) (l.buffer.items ++ l.text);
      same : g.K.Sink.faults l.sink ≡ g.K.Sink.faults l.fn.sink;
    }

abbrev pub decreases-loop-text : goal.decreases-loop-text
decreases-loop-text g l = length l.text
