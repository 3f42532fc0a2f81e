use Rattle.std.proofs.Common.{◌≡◌, ◌+◌, ◌++◌, take}
use Rattle.vg_journal.specs.PrintingWithin.{Printed}
use Rattle.vg_text.specs.Text.{numbered}
use Rattle.vg_journal.specs.Text.{entry_line}
use Rattle.vg_journal.proofs.printer.print_whole.Given as goal

abbrev pub invariant-loop-at : goal.invariant-loop-at
invariant-loop-at g l =
    record {
      printed : Printed (g.K.Sink.held l.fn.sink) (g.K.Sink.held l.sink) (l.fn.buffer.items ++ numbered entry_line (l.before + 1) (take l.at l.entries)) l.buffer.items;
      same : g.K.Sink.faults l.sink ≡ g.K.Sink.faults l.fn.sink;
    }
