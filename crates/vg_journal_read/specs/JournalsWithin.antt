-- A journal from what its lines say.
use Rattle.std.specs.Prelude.{List}
use Rattle.vg_machine.specs.Entries.{Entry}
use Rattle.vg_scanout.specs.declared.scanout.Frame.{Frame}
use Rattle.vg_journal.specs.declared.journal.Journal.{Journal}
use Rattle.vg_journal_lines.specs.declared.state.State.{State}
use Rattle.vg_journal_lines.specs.Versions.{queues_of}
use Rattle.vg_journal_read.specs.Features.{accepted_by_lines}

-- The journal whose lines say this, with these entries and frames.
abbrev pub journal_of : State → List Entry → List Frame → Journal
journal_of state entries frames = record {
  setup = record { displays = state.displays; pages = state.pages; accepted = accepted_by_lines state.left_out; clients = state.clients; queues = queues_of state.version; host = state.host };
  entries = entries;
  control = state.control;
  cursor = state.cursor;
  frames = frames;
}
