-- The command `upgrade`, which reads a journal and writes the same journal with the queues of version 2.
use Rattle.std.specs.Prelude.{◌≡◌, ℕ, List, ◌++◌, codes, decimal, Option, IfSome}
use Rattle.vg_io.specs.Streams.{IsAtEnd, Takes, TakesSome}
use Rattle.vg_client_holds.specs.declared.setup.Setup.{Setup}
use Rattle.vg_text.specs.Text.{numbered}
use Rattle.vg_journal.specs.declared.journal.Journal.{Journal}
use Rattle.vg_journal.specs.Text.{display_line, text_of}
use Rattle.vg_journal_lines.specs.Refusals.{IsJournal}
use Rattle.vg_run.specs.Checks.{IsCheckable}

-- The same journal with queues of these sizes.
abbrev pub with_queues : ℕ × ℕ → Journal → Journal
with_queues queues journal = record journal { setup = record journal.setup { queues = queues } }

-- The text of a journal with the queues of version 2.
abbrev pub upgraded_text : Journal → List ℕ
upgraded_text journal = text_of (with_queues (256, 64) journal)

-- The bytes are those of a journal, and the text is that of the same with the queues of version 2.
abbrev pub IsUpgraded : List ℕ → List ℕ → Type 0
IsUpgraded bytes text = (journal : Journal) × IsJournal bytes journal × (text ≡ upgraded_text journal)

-- The bytes are a journal, and the sink took the text of the same with the queues of version 2.
abbrev pub WritesUpgraded : Option (List ℕ) → Option (List ℕ) → List ℕ → Type 0
WritesUpgraded held held' bytes = (journal : Journal) × IsCheckable bytes × IsJournal bytes journal × Takes held held' (upgraded_text journal)

-- From a source to a sink: the source was read to its end, and what it gave is such a journal.
abbrev pub Upgrades : Option (List ℕ) → Option (List ℕ) → Option (List ℕ) → Option (List ℕ) → Type 0
Upgrades left left' held held' = IsAtEnd left' × IfSome left (WritesUpgraded held held')

-- The bytes are a journal, and the sink took a front of that text: nothing, or more.
abbrev pub WritesSomeUpgraded : Option (List ℕ) → Option (List ℕ) → List ℕ → Type 0
WritesSomeUpgraded held held' bytes = (journal : Journal) × IsCheckable bytes × IsJournal bytes journal × TakesSome held held' (upgraded_text journal)

abbrev pub UpgradesPartly : Option (List ℕ) → Option (List ℕ) → Option (List ℕ) → Option (List ℕ) → Type 0
UpgradesPartly left left' held held' = IsAtEnd left' × IfSome left (WritesSomeUpgraded held held')

-- The lines of version 2 in front of that of the queues.
unfoldable pub upgraded_front : Setup → List ℕ
upgraded_front setup = codes "vgpu-journal 2\n" ++ numbered display_line 0 setup.displays ++ codes "memory " ++ decimal setup.pages ++ codes "\n"

-- The bytes are those of a journal with this setup.
abbrev pub IsTextWith : List ℕ → Setup → Type 0
IsTextWith bytes setup = (journal : Journal) × IsJournal bytes journal × (setup ≡ journal.setup)
