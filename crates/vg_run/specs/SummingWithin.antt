-- How the running of a workload ended, and the writing of its summary.
use Rattle.std.specs.Prelude.{◌≡◌, ℕ, List, Option}
use Rattle.vg_io.specs.Streams.{Rose}
use Rattle.vg_machine.specs.Entries.{Entry}
use Rattle.vg_script.specs.declared.types.Script.{Script}
use Rattle.vg_script.specs.Grammar.{Parses}
use Rattle.vg_journal.specs.declared.journal.Journal.{Journal}
use Rattle.vg_legal.specs.Legal.{IsLegalJournal, Legal, journal_of}
use Rattle.vg_gen.specs.Generated.{generated}
use Rattle.vg_run.specs.declared.top.Status.{Status}
use Rattle.vg_run.specs.declared.top.Status.TheVariants.{Done, WriteFault}
use Rattle.vg_run.specs.Generates.{Sums, SumsPartly, summary_text}

-- The journal is that of a history that is legal for the workload.
abbrev pub IsJournalOf : (number clients : ℕ) → Journal → Type 0
IsJournalOf number clients journal = (script : Script) × Parses (generated number clients) script × IsLegalJournal script journal

-- The text is its summary.
abbrev pub IsSummaryOf : (number clients : ℕ) → List ℕ → Type 0
IsSummaryOf number clients text = (script : Script) × Parses (generated number clients) script × ((H : List Entry) × Legal script H × (text ≡ summary_text clients (journal_of script H)))

-- With all of it, or with a fault behind a front of it.
abbrev pub Summed : Status → (number clients : ℕ) → Option (List ℕ) → Option (List ℕ) → ℕ → ℕ → Type 0
Summed Done number clients held held' faults faults' = Sums number clients held held' × (faults' ≡ faults)
Summed WriteFault number clients held held' faults faults' = Rose faults faults' × SumsPartly number clients held held'
Summed status number clients held held' faults faults' = ⊥
