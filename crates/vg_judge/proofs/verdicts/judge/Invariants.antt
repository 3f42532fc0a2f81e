use Rattle.std.proofs.Common.{◌≡◌, List, length}
use Rattle.vg_machine.specs.Entries.{Entry}
use Rattle.vg_journal.specs.declared.journal.Journal.{Journal}
use Rattle.vg_journal_lines.specs.Pieces.{JournalInRange}
use Rattle.vg_judge.specs.JudgingWithin.{IsJudging}
use Rattle.vg_judge.specs.Outline.{IsOutline}
use Rattle.vg_judge.proofs.verdicts.judge.Given as goal

abbrev pub invariant-loop-n : goal.invariant-loop-n
invariant-loop-n l = (journal : Journal) → JournalInRange journal → IsOutline l.bytes journal l.outline → (done : List Entry) × (length done ≡ l.n) × IsJudging journal done l.judging
