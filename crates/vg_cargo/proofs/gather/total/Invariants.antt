use Rattle.std.proofs.Common.{drop}
use Rattle.vg_cargo.specs.Walked.{IsSummed}
use Rattle.vg_cargo.proofs.gather.total.Given as goal

abbrev pub invariant-loop-segment : goal.invariant-loop-segment
invariant-loop-segment l = IsSummed l.segments l.total (drop l.segment-index l.segments)
