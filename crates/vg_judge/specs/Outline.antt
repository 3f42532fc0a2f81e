-- Where the entries and the frames of a journal stand in its text.
use Rattle.std.specs.Prelude.{◌≡◌, ℕ, List, ◌++◌, length}
use Rattle.vg_journal.specs.declared.journal.Journal.{Journal}
use Rattle.vg_journal_lines.specs.Pieces.{entry_pieces, frame_pieces, numbered_pieces, whole}
use Rattle.vg_judge.specs.declared.verdicts.Outline.{Outline}

-- A text stands in others behind so many bytes.
pub record StandsAt (bytes : List ℕ) (at : ℕ) (text : List ℕ) : Type 0 where
  pub front : List ℕ
  pub rest : List ℕ
  pub count : length front ≡ at
  pub place : bytes ≡ front ++ (text ++ rest)

-- What is said of a journal beside its entries and frames, and the places of these in the journal's text.
pub record IsOutline (bytes : List ℕ) (journal : Journal) (outline : Outline) : Type 0 where
  pub setup : outline.setup ≡ journal.setup
  pub entries : outline.entries ≡ length journal.entries
  pub control : outline.control ≡ journal.control
  pub cursor : outline.cursor ≡ journal.cursor
  pub frames : outline.frames ≡ length journal.frames
  pub entries_at : StandsAt bytes outline.entries_at (whole (numbered_pieces entry_pieces 1 journal.entries))
  pub frames_at : StandsAt bytes outline.frames_at (whole (numbered_pieces frame_pieces 1 journal.frames))
