-- Setups, displays and journals that differ in the sizes of the queues alone.
use Rattle.std.specs.Prelude.{ℕ}
use Rattle.vg_client_holds.specs.declared.setup.Setup.{Setup}
use Rattle.vg_device.specs.State.{State}
use Rattle.vg_journal.specs.declared.journal.Journal.{Journal}

-- The same setup with queues of these sizes.
abbrev pub other_queues : Setup → ℕ × ℕ → Setup
other_queues setup queues = record setup { queues = queues }

-- The same display with queues of these sizes in its setup.
abbrev pub requeued : State → ℕ × ℕ → State
requeued state queues = record state { setup = other_queues state.setup queues }

-- The same journal with queues of these sizes in its setup.
abbrev pub with_other_queues : Journal → ℕ × ℕ → Journal
with_other_queues journal queues = record journal { setup = other_queues journal.setup queues }
