use Rattle.std.proofs.Common.{◌≡◌}
use Rattle.std.specs.Io.KnownBytes.{Keeps}
use Rattle.vg_io.proofs.standard.StdSourceSource.read.Given as goal

abbrev pub invariant-loop : goal.invariant-loop
invariant-loop g l =
    (l.self-inside.faults ≡ l.fn.self.faults) × Keeps (g.R.Read.remaining l.fn.self.inner) (g.R.Read.remaining l.self-inside.reader)
