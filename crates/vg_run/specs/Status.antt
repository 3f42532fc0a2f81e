use Rattle.std.specs.Prelude.{◌≡◌, ℕ, ◌<◌, length, List, Option, IfSome}
use Rattle.vg_io.specs.Streams.{Rose, Takes, TakesPart, TakesSome}
use Rattle.vg_machine.specs.Entries.{Entry}
use Rattle.vg_script.specs.declared.types.Script.{Script}
use Rattle.vg_run.specs.declared.top.Status.{Status}
use Rattle.vg_run.specs.declared.top.Status.TheVariants.{Done, Usage, ReadFault, WriteFault, TooLong, NoMemory}
use Rattle.vg_run.specs.declared.top.Status.TheVariants as statuses
use Rattle.vg_script.specs.Grammar.{Faulty}
use Rattle.vg_run.specs.Headline.{IsWithin}
use Rattle.vg_legal.specs.Legal.{Legal, journal_of}
use Rattle.vg_journal.specs.Text.{text_of}

-- Why a script couldn't be had from a source that had these bytes: its text has that fault, a read failed, it has more bytes than a script may have, or memory ran out.
abbrev pub Unread : Status → Option (List ℕ) → ℕ → ℕ → Type 0
Unread (statuses.Script line kind) left faults faults' = IfSome left (λ bytes. IsWithin bytes × Faulty bytes line kind) × (faults' ≡ faults)
Unread ReadFault left faults faults' = Rose faults faults'
Unread TooLong left faults faults' = IfSome left (λ bytes. 16777216 < length bytes) × (faults' ≡ faults)
Unread NoMemory left faults faults' = faults' ≡ faults
Unread (statuses.Wrong entry) left faults faults' = ⊥
Unread (statuses.Journal line) left faults faults' = ⊥
Unread Done left faults faults' = ⊥
Unread Usage left faults faults' = ⊥
Unread WriteFault left faults faults' = ⊥

-- The sink took the journal of a history that is legal for the script, or a front of it.
abbrev pub Wrote : Script → Option (List ℕ) → Option (List ℕ) → Type 0
Wrote script held held' = (H : List Entry) × Legal script H × Takes held held' (text_of (journal_of script H))

abbrev pub WroteSome : Script → Option (List ℕ) → Option (List ℕ) → Type 0
WroteSome script held held' = (H : List Entry) × Legal script H × TakesSome held held' (text_of (journal_of script H))

abbrev pub WrotePart : Script → Option (List ℕ) → Option (List ℕ) → Type 0
WrotePart script held held' = (H : List Entry) × Legal script H × TakesPart held held' (text_of (journal_of script H))

-- How the run of a script ended.
abbrev pub Ended : Status → Script → Option (List ℕ) → Option (List ℕ) → ℕ → ℕ → Type 0
Ended Done script held held' faults faults' = Wrote script held held' × (faults' ≡ faults)
Ended WriteFault script held held' faults faults' = Rose faults faults' × WroteSome script held held'
Ended NoMemory script held held' faults faults' = WrotePart script held held' × (faults' ≡ faults)
Ended (statuses.Script line kind) script held held' faults faults' = ⊥
Ended (statuses.Wrong entry) script held held' faults faults' = ⊥
Ended (statuses.Journal line) script held held' faults faults' = ⊥
Ended TooLong script held held' faults faults' = ⊥
Ended ReadFault script held held' faults faults' = ⊥
Ended Usage script held held' faults faults' = ⊥

-- What ends without a fault of a read or a write.
abbrev pub IsFaultless : Status → Type 0
IsFaultless ReadFault = ⊥
IsFaultless WriteFault = ⊥
IsFaultless status = Unit {0}

-- How `run` can end, and how `check` and `gen` can.
abbrev pub EndsRun : Status → Type 0
EndsRun Usage = ⊥
EndsRun (statuses.Wrong entry) = ⊥
EndsRun (statuses.Journal line) = ⊥
EndsRun status = Unit {0}

abbrev pub EndsCheck : Status → Type 0
EndsCheck Usage = ⊥
EndsCheck (statuses.Script line kind) = ⊥
EndsCheck status = Unit {0}

abbrev pub EndsGen : Status → Type 0
EndsGen Done = Unit {0}
EndsGen WriteFault = Unit {0}
EndsGen NoMemory = Unit {0}
EndsGen status = ⊥
