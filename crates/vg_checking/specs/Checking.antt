-- What is found of a text that is a journal.
use Rattle.std.specs.Prelude.{◌≡◌, ℕ, List, length}
use Rattle.vg_journal.specs.declared.journal.Journal.{Journal}
use Rattle.vg_journal_lines.specs.Refusals.{IsJournal}
use Rattle.vg_judge.specs.Verdicts.{IsLegal, IsWrong}
use Rattle.vg_checking.specs.declared.checking.Checked.{Checked}
use Rattle.vg_checking.specs.declared.checking.Checked.TheVariants.{Legal, Wrong}

-- The text is the journal of a legal history with so many entries and frames, or a journal in which this is wrong first.
abbrev pub IsFound : List ℕ → Checked → Type 0
IsFound bytes (Legal entries frames) =
    (journal : Journal) × IsJournal bytes journal × IsLegal journal × (entries ≡ length journal.entries) × (frames ≡ length journal.frames)
IsFound bytes (Wrong entry) = (journal : Journal) × IsJournal bytes journal × IsWrong journal entry
