-- How the reading of a journal ended, and how the writing of what was found.
use Rattle.std.specs.Prelude.{◌≡◌, ◌<◌, ◌++◌, ℕ, drop, length, List, Option, IfSome}
use Rattle.vg_io.specs.Streams.{Rose, Takes, TakesSome}
use Rattle.vg_journal_lines.specs.Refusals.{IsRefusedAt}
use Rattle.vg_checking.specs.Checking.{IsFound}
use Rattle.vg_checking.specs.declared.checking.Checked.{Checked}
use Rattle.vg_checking.specs.declared.checking.Checked.TheVariants as checkeds
use Rattle.vg_tracing.specs.Origins.{AreOrigins}
use Rattle.vg_tracing.specs.declared.found.Found.{Found}
use Rattle.vg_tracing.specs.declared.found.Found.TheVariants as found
use Rattle.vg_run.specs.declared.journals.Question.{Question}
use Rattle.vg_run.specs.declared.journals.Question.TheVariants.{Check, Origins, Upgrade}
use Rattle.vg_run.specs.declared.top.Status.{Status}
use Rattle.vg_run.specs.declared.top.Status.TheVariants.{Done, Usage, ReadFault, WriteFault, TooLong, NoMemory}
use Rattle.vg_run.specs.declared.top.Status.TheVariants as statuses
use Rattle.vg_run.specs.Checks.{Checks, ChecksPartly, IsCheckable, checked_text}
use Rattle.vg_run.specs.Origins.{Tells, TellsPartly, found_text}
use Rattle.vg_run.specs.Upgrade.{IsUpgraded, Upgrades, UpgradesPartly}
use Rattle.vg_limits.specs.Limits.{version_2}

-- Why nothing was found of what a source had.
abbrev pub Unchecked : Status → Option (List ℕ) → ℕ → ℕ → Type 0
Unchecked (statuses.Journal line) left faults faults' = IfSome left (λ bytes. IsCheckable bytes × IsRefusedAt bytes line) × (faults' ≡ faults)
Unchecked ReadFault left faults faults' = Rose faults faults'
Unchecked TooLong left faults faults' = IfSome left (λ bytes. version_2.journal < length bytes) × (faults' ≡ faults)
Unchecked NoMemory left faults faults' = faults' ≡ faults
Unchecked (statuses.Script line kind) left faults faults' = ⊥
Unchecked (statuses.Wrong entry) left faults faults' = ⊥
Unchecked Done left faults faults' = ⊥
Unchecked Usage left faults faults' = ⊥
Unchecked WriteFault left faults faults' = ⊥

-- How the call ends where all that was found is written.
abbrev pub status_of : Checked → Status
status_of (checkeds.Legal entries frames) = Done
status_of (checkeds.Wrong entry) = statuses.Wrong entry

abbrev pub status_of_origins : Found → Status
status_of_origins (found.Drawn frames) = Done
status_of_origins (found.Wrong entry) = statuses.Wrong entry

-- What is written: a text, and behind it the journal's own bytes from a place on.
abbrev pub written : List ℕ → ℕ → List ℕ → List ℕ
written text rest bytes = text ++ drop rest bytes

-- What a command says of a journal: the text that it writes, and how it ends where all of that is written.
abbrev pub Says : Question → List ℕ → Status → List ℕ → Type 0
Says Check bytes end text = (checked : Checked) × IsFound bytes checked × (end ≡ status_of checked) × (text ≡ checked_text checked)
Says Origins bytes end text = (origins : Found) × AreOrigins bytes origins × (end ≡ status_of_origins origins) × (text ≡ found_text origins)
Says Upgrade bytes end text = IsUpgraded bytes text × (end ≡ Done)

-- What the sink took where all is done, and where a write failed.
abbrev pub Answers : Question → Option (List ℕ) → Option (List ℕ) → Option (List ℕ) → Option (List ℕ) → Type 0
Answers Check = Checks
Answers Origins = Tells
Answers Upgrade = Upgrades

abbrev pub AnswersPartly : Question → Option (List ℕ) → Option (List ℕ) → Option (List ℕ) → Option (List ℕ) → Type 0
AnswersPartly Check = ChecksPartly
AnswersPartly Origins = TellsPartly
AnswersPartly Upgrade = UpgradesPartly

-- It is asked whether the journal is that of a legal history, or what only such a journal has.
abbrev pub Judges : Question → Type 0
Judges Upgrade = ⊥
Judges asked = Unit {0}

-- It ends with what was found.
abbrev pub EndsFound : Status → Type 0
EndsFound Done = Unit {0}
EndsFound (statuses.Wrong entry) = Unit {0}
EndsFound status = ⊥

-- And with a wrong entry only where that is asked.
abbrev pub IsEndOf : Question → Status → Type 0
IsEndOf Upgrade (statuses.Wrong entry) = ⊥
IsEndOf asked end = Unit {0}

-- How the writing of a text ended: with all of it and this status, or with a fault behind a front of it.
abbrev pub Told : Status → Status → List ℕ → Option (List ℕ) → Option (List ℕ) → ℕ → ℕ → Type 0
Told Done all text held held' faults faults' = (all ≡ Done) × Takes held held' text × (faults' ≡ faults)
Told (statuses.Wrong entry) all text held held' faults faults' = (all ≡ statuses.Wrong entry) × Takes held held' text × (faults' ≡ faults)
Told WriteFault all text held held' faults faults' = Rose faults faults' × TakesSome held held' text
Told NoMemory all text held held' faults faults' = ⊥
Told (statuses.Script line kind) all text held held' faults faults' = ⊥
Told (statuses.Journal line) all text held held' faults faults' = ⊥
Told TooLong all text held held' faults faults' = ⊥
Told ReadFault all text held held' faults faults' = ⊥
Told Usage all text held held' faults faults' = ⊥
