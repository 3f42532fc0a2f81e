-- What is known of a journal once its lines were read.
use Rattle.std.specs.Prelude.{◌≡◌, ℕ, List, ◌++◌, length}
use Rattle.vg_journal.specs.declared.journal.Journal.{Journal}
use Rattle.vg_journal_lines.specs.Pieces.{done_of, entry_pieces, frame_pieces, numbered_pieces, whole}
use Rattle.vg_journal_lines.specs.Refusals.{IsJournal}
use Rattle.vg_journal_read.specs.declared.lines.Scanned.{Scanned}

-- A part of a text begins at this place.
abbrev pub StandsAt : List ℕ → List ℕ → ℕ → Type 0
StandsAt bytes part at = (front rest : List ℕ) × (bytes ≡ front ++ part ++ rest) × (length front ≡ at)

-- The text is a journal's, of which this is known: what its lines say, and where its entries and its frames begin.
pub record IsScanned (bytes : List ℕ) (scanned : Scanned) : Type 0 where
  pub journal : Journal
  pub is_journal : IsJournal bytes journal
  pub state : scanned.state ≡ done_of journal
  pub entries : StandsAt bytes (whole (numbered_pieces entry_pieces 1 journal.entries)) scanned.entries_at
  pub frames : StandsAt bytes (whole (numbered_pieces frame_pieces 1 journal.frames)) scanned.frames_at
