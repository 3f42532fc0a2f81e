use Rattle.std.proofs.Common.{drop}
use Rattle.vg_cargo.specs.Walked.{IsWritten}
use Rattle.vg_cargo.proofs.gather.scatter.Given as goal

abbrev pub invariant-loop-segment : goal.invariant-loop-segment
invariant-loop-segment l = IsWritten l.room l.bytes l.start (drop l.segment-index l.segments)
