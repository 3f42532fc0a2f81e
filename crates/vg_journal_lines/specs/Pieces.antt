-- The pieces of a journal, and what is read of them.
use Rattle.std.specs.Prelude.{◌≡◌, ℕ, Bool, true, false, ◌+◌, ◌≤◌, ◌==◌, if◌then◌else◌, List, [], ◌∷◌, ◌++◌, bit_and, length, Some}
use Rattle.std.specs.List.{All}
use Rattle.vg_config.specs.Features.{EDID, RESOURCE_BLOB, RESOURCE_UUID, VIRGL}
use Rattle.vg_client_holds.specs.declared.setup.Setup.{Setup}
use Rattle.vg_client_holds.specs.Setup.{IsSetup, parties}
use Rattle.vg_machine.specs.Entries.{Entry}
use Rattle.vg_scanout.specs.declared.scanout.Frame.{Frame}
use Rattle.vg_scanout.specs.Scanout.{frame_bytes}
use Rattle.vg_journal.specs.declared.journal.Journal.{Journal}
use Rattle.vg_line_words.specs.Words.{AreBelow}
use Rattle.vg_journal_lines.specs.declared.head.Feature.{Feature}
use Rattle.vg_journal_lines.specs.declared.head.Feature.TheVariants.{Edid, Uuid, Blob, Context}
use Rattle.vg_journal_lines.specs.declared.state.LeftOut.{LeftOut}
use Rattle.vg_journal_lines.specs.declared.state.Stage.TheVariants as stages
use Rattle.vg_journal_lines.specs.declared.state.State.{State}
use Rattle.vg_journal_lines.specs.Words.{clients_words, display_words, end_words, frame_words, frames_words, head_of, host_words, joined, memory_words, queues_words, rings_words, title_words, without_words}
use Rattle.vg_journal_lines.specs.declared.head.Version.{Version}
use Rattle.vg_journal_lines.specs.declared.head.Version.TheVariants.{One, Two}
use Rattle.vg_journal_lines.specs.Versions.{version_of}
use Rattle.vg_journal_lines.specs.Read.{pixels_of}
use Rattle.vg_journal_lines.specs.Ranges.{HeadInRange, IsCount}
use Rattle.vg_journal_lines.specs.Entries.{EntryInRange, entry_words}
use Rattle.vg_journal_lines.specs.States.{AFrame, AnEntry, Item, Nothing, run, start}

-- A frame of a journal: its pixels have four bytes each.
pub record FrameInRange (frame : Frame) : Type 0 where
  pub head : HeadInRange (head_of frame)
  pub count : length frame.pixels ≡ pixels_of (head_of frame)
  pub pixels : AreBelow 256 frame.pixels

-- A journal that can be read.
pub record JournalInRange (journal : Journal) : Type 0 where
  pub setup : IsSetup journal.setup
  pub entries : All (EntryInRange (parties journal.setup.clients journal.setup.host)) journal.entries
  pub count : IsCount (length journal.entries)
  pub control : IsCount journal.control
  pub cursor : IsCount journal.cursor
  pub frames : All FrameInRange journal.frames
  pub frame_count : IsCount (length journal.frames)
  pub few : frame_bytes journal.frames ≤ 268435456

-- The pieces of things one after another, each with its number.
abbrev pub numbered_pieces : {X : Type 0} → (ℕ → X → List (List ℕ)) → ℕ → List X → List (List ℕ)
numbered_pieces pieces n [] = []
numbered_pieces pieces n (x ∷ xs) = pieces n x ++ numbered_pieces pieces (n + 1) xs

abbrev pub display_pieces : ℕ → ℕ × ℕ → List (List ℕ)
display_pieces n size = joined (display_words n size) ∷ []

abbrev pub entry_pieces : ℕ → Entry → List (List ℕ)
entry_pieces n entry = joined (entry_words n entry) ∷ []

abbrev pub frame_pieces : ℕ → Frame → List (List ℕ)
frame_pieces n frame = joined (frame_words n (head_of frame)) ∷ frame.pixels ∷ []

unfoldable pub without_piece : ℕ → ℕ → Feature → List (List ℕ)
without_piece accepted bit feature = if bit_and accepted bit == 0 then joined (without_words feature) ∷ [] else []

unfoldable pub without_pieces : ℕ → List (List ℕ)
without_pieces accepted =
    without_piece accepted EDID Edid ++ without_piece accepted RESOURCE_UUID Uuid ++ without_piece accepted RESOURCE_BLOB Blob
    ++ without_piece accepted VIRGL Context

abbrev pub queues_pieces : Version → List (List ℕ)
queues_pieces One = []
queues_pieces Two = joined queues_words ∷ []

abbrev pub host_pieces : Bool → List (List ℕ)
host_pieces true = joined host_words ∷ []
host_pieces false = []

abbrev pub head_pieces : Setup → List (List ℕ)
head_pieces setup =
    joined (title_words (version_of setup.queues)) ∷ [] ++ numbered_pieces display_pieces 0 setup.displays
    ++ joined (memory_words setup.pages) ∷ queues_pieces (version_of setup.queues) ++ without_pieces setup.accepted
    ++ joined (clients_words setup.clients) ∷ host_pieces setup.host

abbrev pub count_pieces : ℕ → ℕ → ℕ → List (List ℕ)
count_pieces control cursor frames = joined (rings_words (control, cursor)) ∷ joined (frames_words frames) ∷ []

abbrev pub pieces_of : Journal → List (List ℕ)
pieces_of journal =
    head_pieces journal.setup ++ numbered_pieces entry_pieces 1 journal.entries
    ++ count_pieces journal.control journal.cursor (length journal.frames)
    ++ numbered_pieces frame_pieces 1 journal.frames ++ joined end_words ∷ []

-- Pieces as they stand in a text: with a line end behind each.
abbrev pub whole : List (List ℕ) → List ℕ
whole [] = []
whole (piece ∷ pieces) = piece ++ 10 ∷ whole pieces

-- What is left out of these features.
unfoldable pub left_out_of : ℕ → LeftOut
left_out_of accepted = record {
  edid = bit_and accepted EDID == 0;
  uuid = bit_and accepted RESOURCE_UUID == 0;
  blob = bit_and accepted RESOURCE_BLOB == 0;
  context = bit_and accepted VIRGL == 0;
}

-- The state behind a journal's last line.
abbrev pub done_of : Journal → State
done_of journal = record {
  stage = stages.Done;
  version = version_of journal.setup.queues;
  displays = journal.setup.displays;
  pages = journal.setup.pages;
  left_out = left_out_of journal.setup.accepted;
  clients = journal.setup.clients;
  host = journal.setup.host;
  entries = length journal.entries;
  control = journal.control;
  cursor = journal.cursor;
  frames = length journal.frames;
  bytes = frame_bytes journal.frames;
}

-- Entries and frames among what pieces give.
abbrev pub entries_in : List Item → List Entry
entries_in [] = []
entries_in (Nothing ∷ items) = entries_in items
entries_in (AnEntry entry ∷ items) = entry ∷ entries_in items
entries_in (AFrame frame ∷ items) = entries_in items

abbrev pub frames_in : List Item → List Frame
frames_in [] = []
frames_in (Nothing ∷ items) = frames_in items
frames_in (AnEntry entry ∷ items) = frames_in items
frames_in (AFrame frame ∷ items) = frame ∷ frames_in items

-- Pieces that are read as a journal: after the last one the state is that behind the journal's last line, and what they give are
-- its entries and its frames.
pub record IsReadAs (pieces : List (List ℕ)) (journal : Journal) : Type 0 where
  pub items : List Item
  pub run_is : run start pieces ≡ Some (done_of journal, items)
  pub entries : entries_in items ≡ journal.entries
  pub frames : frames_in items ≡ journal.frames
