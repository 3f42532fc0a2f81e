-- The commands that read a journal, and `check`, which says whether it is that of a legal history.
use Rattle.std.specs.Prelude.{◌≡◌, ◌≤◌, ◌⊎◌, ℕ, List, [], ◌∷◌, ◌++◌, length, codes, decimal, Option, IfSome}
use Rattle.vg_io.specs.Streams.{IsAtEnd, Takes, TakesSome}
use Rattle.vg_journal.specs.declared.journal.Journal.{Journal}
use Rattle.vg_journal_lines.specs.Refusals.{IsJournal}
use Rattle.vg_judge.specs.Verdicts.{IsLegal, IsWrong}
use Rattle.vg_checking.specs.declared.checking.Checked.{Checked}
use Rattle.vg_checking.specs.declared.checking.Checked.TheVariants as checkeds
use Rattle.vg_checking.specs.Checking.{IsFound}
use Rattle.vg_run.specs.Headline.{IsRun}
use Rattle.vg_run.specs.Generates.{IsGenOfSome}
use Rattle.vg_limits.specs.Limits.{version_2}

-- The words after the program's name are `check`.
abbrev pub IsCheck : List (List ℕ) → Type 0
IsCheck words = words ≡ codes "check" ∷ []

-- They are `origins`.
abbrev pub IsOrigins : List (List ℕ) → Type 0
IsOrigins words = words ≡ codes "origins" ∷ []

-- They are `upgrade`.
abbrev pub IsUpgrade : List (List ℕ) → Type 0
IsUpgrade words = words ≡ codes "upgrade" ∷ []

-- They are those of a command that reads a journal and judges it.
abbrev pub JudgesJournal : List (List ℕ) → Type 0
JudgesJournal words = IsCheck words ⊎ IsOrigins words

-- They are those of a command that reads a journal.
abbrev pub ReadsJournal : List (List ℕ) → Type 0
ReadsJournal words = IsCheck words ⊎ IsOrigins words ⊎ IsUpgrade words

-- They are those of a command.
abbrev pub IsCommand : List (List ℕ) → Type 0
IsCommand words = IsRun words ⊎ IsCheck words ⊎ IsGenOfSome words ⊎ IsOrigins words ⊎ IsUpgrade words

-- No more bytes than a journal may have that is read.
abbrev pub IsCheckable : List ℕ → Type 0
IsCheckable bytes = length bytes ≤ version_2.journal

-- The line `legal E entries F frames`.
unfoldable pub legal_text : (entries frames : ℕ) → List ℕ
legal_text entries frames = codes "legal " ++ decimal entries ++ codes " entries " ++ decimal frames ++ codes " frames\n"

-- The line `wrong N`.
unfoldable pub wrong_text : ℕ → List ℕ
wrong_text entry = codes "wrong " ++ decimal entry ++ codes "\n"

-- What is said of a journal.
abbrev pub checked_text : Checked → List ℕ
checked_text (checkeds.Legal entries frames) = legal_text entries frames
checked_text (checkeds.Wrong entry) = wrong_text entry

-- The bytes are the journal of a legal history, and the sink took the line that says so, with the numbers of its entries and frames.
abbrev pub WritesLegal : Option (List ℕ) → Option (List ℕ) → List ℕ → Type 0
WritesLegal held held' bytes =
    (journal : Journal) × IsCheckable bytes × IsJournal bytes journal × IsLegal journal × Takes held held' (legal_text (length journal.entries) (length journal.frames))

-- From a source to a sink: the source was read to its end, and what it gave is such a journal.
abbrev pub Checks : Option (List ℕ) → Option (List ℕ) → Option (List ℕ) → Option (List ℕ) → Type 0
Checks left left' held held' = IsAtEnd left' × IfSome left (WritesLegal held held')

-- The bytes are a journal in which this is wrong first, and the sink took the line that says so.
abbrev pub WritesWrong : ℕ → Option (List ℕ) → Option (List ℕ) → List ℕ → Type 0
WritesWrong entry held held' bytes = (journal : Journal) × IsCheckable bytes × IsJournal bytes journal × IsWrong journal entry × Takes held held' (wrong_text entry)

abbrev pub ChecksWrong : ℕ → Option (List ℕ) → Option (List ℕ) → Option (List ℕ) → Option (List ℕ) → Type 0
ChecksWrong entry left left' held held' = IsAtEnd left' × IfSome left (WritesWrong entry held held')

-- The bytes are a journal, and the sink took a front of what is said of it: nothing, or more.
abbrev pub WritesFound : Option (List ℕ) → Option (List ℕ) → List ℕ → Type 0
WritesFound held held' bytes = (checked : Checked) × IsCheckable bytes × IsFound bytes checked × TakesSome held held' (checked_text checked)

abbrev pub ChecksPartly : Option (List ℕ) → Option (List ℕ) → Option (List ℕ) → Option (List ℕ) → Type 0
ChecksPartly left left' held held' = IsAtEnd left' × IfSome left (WritesFound held held')
