use Rattle.std.proofs.Common.{length}
use Rattle.vg_journal_read.proofs.ReadLemmas.{IsReading}
use Rattle.vg_journal_read.proofs.whole.read_pieces.Given as goal

abbrev pub invariant-loop-frames : goal.invariant-loop-frames
invariant-loop-frames l = IsReading l.bytes l.state l.pieces l.rest l.entries l.frames.items

abbrev pub decreases-loop-frames : goal.decreases-loop-frames
decreases-loop-frames l = length l.rest
