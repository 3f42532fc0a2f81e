-- The command `origins`, which reads a journal and says whose bytes its frames have.
use Rattle.std.specs.Prelude.{ℕ, List, Option, IfSome}
use Rattle.vg_io.specs.Streams.{IsAtEnd, Takes, TakesSome}
use Rattle.vg_journal.specs.declared.journal.Journal.{Journal}
use Rattle.vg_journal_lines.specs.Refusals.{IsJournal}
use Rattle.vg_judge.specs.Verdicts.{IsLegal}
use Rattle.vg_tracing.specs.declared.found.Found.{Found}
use Rattle.vg_tracing.specs.declared.found.Found.TheVariants as found
use Rattle.vg_tracing.specs.Origins.{AreClientsOf, AreOrigins}
use Rattle.vg_tracing.specs.Text.{origins_text}
use Rattle.vg_run.specs.Checks.{IsCheckable, wrong_text}

-- What is said of a journal.
abbrev pub found_text : Found → List ℕ
found_text (found.Drawn frames) = origins_text frames.items
found_text (found.Wrong entry) = wrong_text entry

-- The bytes are the journal of a legal history, and the sink took the lines that say whose bytes each frame has.
abbrev pub WritesOrigins : Option (List ℕ) → Option (List ℕ) → List ℕ → Type 0
WritesOrigins held held' bytes =
    (journal : Journal) × IsCheckable bytes × IsJournal bytes journal × IsLegal journal
    × ((frames : List ℕ) × AreClientsOf journal frames × Takes held held' (origins_text frames))

-- From a source to a sink: the source was read to its end, and what it gave is such a journal.
abbrev pub Tells : Option (List ℕ) → Option (List ℕ) → Option (List ℕ) → Option (List ℕ) → Type 0
Tells left left' held held' = IsAtEnd left' × IfSome left (WritesOrigins held held')

-- The bytes are a journal, and the sink took a front of what is said of it: nothing, or more.
abbrev pub WritesSomeOrigins : Option (List ℕ) → Option (List ℕ) → List ℕ → Type 0
WritesSomeOrigins held held' bytes = (origins : Found) × IsCheckable bytes × AreOrigins bytes origins × TakesSome held held' (found_text origins)

abbrev pub TellsPartly : Option (List ℕ) → Option (List ℕ) → Option (List ℕ) → Option (List ℕ) → Type 0
TellsPartly left left' held held' = IsAtEnd left' × IfSome left (WritesSomeOrigins held held')
