use Rattle.vg_journal.specs.declared.journal.Journal.{Journal}
use Rattle.vg_journal_lines.specs.Pieces.{JournalInRange}
use Rattle.vg_judge.specs.Outline.{IsOutline}
use Rattle.vg_tracing.specs.TracingWithin.{AreTraced}
use Rattle.vg_tracing.proofs.tracing.traced.Given as goal

abbrev pub invariant-loop-n : goal.invariant-loop-n
invariant-loop-n l = (journal : Journal) → JournalInRange journal → IsOutline l.bytes journal l.outline → AreTraced journal l.n l.entries l.drawn
