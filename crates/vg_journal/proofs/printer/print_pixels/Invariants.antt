use Rattle.std.proofs.Common.{◌≡◌, ◌++◌, ◌-◌, ◌≤◌, length, take}
use Rattle.vg_journal.specs.PrintingWithin.{Printed}
use Rattle.vg_journal.proofs.printer.print_pixels.Given as goal

abbrev pub invariant-loop-at : goal.invariant-loop-at
invariant-loop-at g l =
    record {
      printed : Printed (g.K.Sink.held l.fn.sink) (g.K.Sink.held l.sink) (l.fn.buffer.items ++ take l.at l.pixels) l.buffer.items;
      same : g.K.Sink.faults l.sink ≡ g.K.Sink.faults l.fn.sink;
      within : l.at ≤ length l.pixels;
    }

abbrev pub decreases-loop-at : goal.decreases-loop-at
decreases-loop-at g l = length l.pixels - l.at
