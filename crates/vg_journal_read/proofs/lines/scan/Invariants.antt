use Rattle.std.proofs.Common.{length}
use Rattle.vg_journal_read.proofs.ScanLemmas.{IsScanning}
use Rattle.vg_journal_read.proofs.lines.scan.Given as goal

abbrev pub invariant-loop-words : goal.invariant-loop-words
invariant-loop-words l = IsScanning l.bytes l.state l.pieces l.rest l.entries_at l.frames_at

abbrev pub decreases-loop-words : goal.decreases-loop-words
decreases-loop-words l = length l.rest
