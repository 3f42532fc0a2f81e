-- Whose bytes each frame of a journal has.
use Rattle.std.specs.Prelude.{◌≡◌, ◌↔◌, ℕ, true, List, Some, length, slice_get, slice_index}
use Rattle.vg_scanout.specs.declared.scanout.Frame.{Frame}
use Rattle.vg_journal.specs.declared.journal.Journal.{Journal}
use Rattle.vg_journal_lines.specs.Refusals.{IsJournal}
use Rattle.vg_judge.specs.Verdicts.{IsLegal, IsWrong}
use Rattle.vg_painted.specs.Inks.{tags}
use Rattle.vg_painted.specs.Paint.{painting}
use Rattle.vg_drawn.specs.Sets.{AreTagsBelow}
use Rattle.vg_drawn.specs.Words.{has_client}
use Rattle.vg_tracing.specs.declared.found.Found.{Found}
use Rattle.vg_tracing.specs.declared.found.Found.TheVariants.{Drawn, Wrong}

-- The client stored a byte that this frame, number n from 0, shows: it is the client of an entry in the tags of one of its bytes.
abbrev pub HasDrawn : Journal → ℕ → Frame → ℕ → Type 0
HasDrawn journal n frame client = AreTagsBelow journal.entries client ((painting tags journal.setup journal.entries).frames n) (length frame.pixels)

-- For each frame there is the set of exactly these clients.
pub record AreClientsOf (journal : Journal) (sets : List ℕ) : Type 0 where
  pub count : length sets ≡ length journal.frames
  pub clients : (n client : ℕ) (frame : Frame) → slice_get journal.frames n ≡ Some frame → has_client (slice_index sets n) client ≡ true ↔ HasDrawn journal n frame client

-- The text is the journal of a legal history with frames of these clients, or a journal in which this is wrong first.
abbrev pub AreOrigins : List ℕ → Found → Type 0
AreOrigins bytes (Drawn sets) = (journal : Journal) × IsJournal bytes journal × IsLegal journal × AreClientsOf journal sets.items
AreOrigins bytes (Wrong entry) = (journal : Journal) × IsJournal bytes journal × IsWrong journal entry
