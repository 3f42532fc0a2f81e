-- What is said of a journal beside its entries and frames, from what its lines say.
use Rattle.std.specs.Prelude.{◌≤◌, ◌-◌, ◌^◌, ℕ, List}
use Rattle.vg_journal.specs.declared.journal.Journal.{Journal}
use Rattle.vg_journal_lines.specs.Refusals.{IsJournal}
use Rattle.vg_journal_lines.specs.Versions.{queues_of}
use Rattle.vg_journal_read.specs.declared.lines.Scanned.{Scanned}
use Rattle.vg_journal_read.specs.Features.{accepted_by_lines}
use Rattle.vg_judge.specs.declared.verdicts.Outline.{Outline}
use Rattle.vg_judge.specs.Outline.{IsOutline}

abbrev pub outline_of : Scanned → Outline
outline_of scanned = record {
  setup = record {
    displays = scanned.state.displays;
    pages = scanned.state.pages;
    accepted = accepted_by_lines scanned.state.left_out;
    clients = scanned.state.clients;
    queues = queues_of scanned.state.version;
    host = scanned.state.host;
  };
  entries = scanned.state.entries;
  control = scanned.state.control;
  cursor = scanned.state.cursor;
  frames = scanned.state.frames;
  entries_at = scanned.entries_at;
  frames_at = scanned.frames_at;
}

-- The text is a journal's, of which this is said; each entry takes two bytes of it at least.
pub record IsOutlined (bytes : List ℕ) (outline : Outline) : Type 0 where
  pub journal : Journal
  pub is_journal : IsJournal bytes journal
  pub is_outline : IsOutline bytes journal outline
  pub few : outline.entries ≤ 2 ^ 31 - 1
