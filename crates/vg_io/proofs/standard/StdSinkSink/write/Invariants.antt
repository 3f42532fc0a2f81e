use Rattle.std.proofs.Common.{◌≡◌}
use Rattle.std.specs.Io.KnownBytes.{Keeps}
use Rattle.vg_io.proofs.standard.StdSinkSink.write.Given as goal

abbrev pub invariant-loop : goal.invariant-loop
invariant-loop g l =
    (l.self-inside.faults ≡ l.fn.self.faults) × Keeps (g.W.Write.contents l.fn.self.inner) (g.W.Write.contents l.self-inside.writer)
