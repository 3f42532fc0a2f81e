use Rattle.std.proofs.Common.{drop}
use Rattle.vg_cargo.specs.Walked.{IsRead}
use Rattle.vg_cargo.proofs.gather.gather.Given as goal

abbrev pub invariant-loop-segment : goal.invariant-loop-segment
invariant-loop-segment l = IsRead l.memory l.base (drop l.segment-index l.segments) l.bytes.items
