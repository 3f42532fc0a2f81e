-- A journal read whole.
use Rattle.std.proofs.Common.{◌≡◌, ℕ, ◌+◌, List, [], ◌∷◌, ◌++◌, Result, Ok, Err, IfOk, IfErr, refl, sym, ap, ◌∙◌, subst}
use Rattle.vg_laws.proofs.Options.{some_is}
use Rattle.vg_machine.specs.Entries.{Entry}
use Rattle.vg_scanout.specs.declared.scanout.Frame.{Frame}
use Rattle.vg_journal.specs.declared.journal.Journal.{Journal}
use Rattle.vg_journal.specs.Text.{text_of}
use Rattle.vg_journal_lines.specs.declared.state.State.{State}
use Rattle.vg_journal_lines.specs.States.{Item, start}
use Rattle.vg_journal_lines.specs.Pieces.{IsReadAs, JournalInRange, done_of, entries_in, frames_in}
use Rattle.vg_journal_lines.specs.Refusals.{IsJournal, IsRefusedAt}
use Rattle.vg_journal_lines.specs.Versions.{queues_of}
use Rattle.vg_journal_lines.proofs.HeadLaws.{queues_told}
use Rattle.vg_journal_lines.proofs.StepLemmas.{accepted_told}
use Rattle.vg_journal_lines.proofs.RunLaws.{entries_append, frames_append}
use Rattle.vg_journal_read.specs.declared.pieces.Part.{Part}
use Rattle.vg_journal_read.specs.PiecesWithin.{WentOn, item_of}
use Rattle.vg_journal_read.specs.ScansWithin.{Passed}
use Rattle.vg_journal_read.specs.Features.{accepted_by_lines}
use Rattle.vg_journal_read.specs.JournalsWithin.{journal_of}
use Rattle.vg_journal_read.proofs.RunLemmas.{IsAt, at_more, at_start}

-- How far a reader is that keeps entries and frames.
pub record IsReading (bytes : List ℕ) (state : State) (pieces : ℕ) (rest : List ℕ) (entries : List Entry) (frames : List Frame) : Type 0 where
  pub at : IsAt bytes state pieces rest
  pub entries_are : entries_in at.items ≡ entries
  pub frames_are : frames_in at.items ≡ frames

pub reading_start : (bytes : List ℕ) → IsReading bytes start 0 bytes [] []
reading_start bytes = record { at = at_start bytes; entries_are = refl; frames_are = refl }

abbrev pub passed : (old new : State) (bytes : List ℕ) (part : Part) (piece after : List ℕ) → WentOn old new bytes part piece after → Passed old new bytes after
passed old new bytes part piece after w = record { piece = piece; item = item_of part piece; cut = w.cut; step_is = w.step_is }

pub reading_more : (bytes : List ℕ) (old new : State) (pieces : ℕ) (rest after : List ℕ) (part : Part) (piece : List ℕ) (es es' : List Entry) (fs fs' : List Frame)
    → IsReading bytes old pieces rest es fs → WentOn old new rest part piece after
    → es' ≡ es ++ entries_in (item_of part piece ∷ []) → fs' ≡ fs ++ frames_in (item_of part piece ∷ [])
    → IsReading bytes new (pieces + 1) after es' fs'
reading_more bytes old new pieces rest after part piece es es' fs fs' r w entries frames =
    let one : List Item = item_of part piece ∷ [] in
    record {
      at = at_more bytes old new pieces rest after r.at (passed old new rest part piece after w);
      entries_are = entries_append r.at.items one ∙ ap (λ l. l ++ entries_in one) r.entries_are ∙ sym entries;
      frames_are = frames_append r.at.items one ∙ ap (λ l. l ++ frames_in one) r.frames_are ∙ sym frames;
    }

-- What is known at the end.
pub read_is : (bytes : List ℕ) (state : State) (pieces : ℕ) (rest : List ℕ) (es : List Entry) (fs : List Frame) (r : IsReading bytes state pieces rest es fs) (journal : Journal)
    → IsJournal bytes journal → IsReadAs r.at.front journal → IsJournal bytes (journal_of state es fs)
read_is bytes state pieces rest es fs r journal is read =
    let same : (state, r.at.items) ≡ (done_of journal, read.items) = some_is (state, r.at.items) (done_of journal, read.items) (sym r.at.run_is ∙ read.run_is) in
    let known : state ≡ done_of journal = ap (λ (a : State × List Item). a.0) same in
    let entries : es ≡ journal.entries = sym r.entries_are ∙ ap (λ (a : State × List Item). entries_in a.1) same ∙ read.entries in
    let frames : fs ≡ journal.frames = sym r.frames_are ∙ ap (λ (a : State × List Item). frames_in a.1) same ∙ read.frames in
    let accepted : accepted_by_lines state.left_out ≡ journal.setup.accepted = ap (λ (s : State). accepted_by_lines s.left_out) known ∙ accepted_told journal.setup.accepted is.in_range.setup.accepted in
    let queues : queues_of state.version ≡ journal.setup.queues = ap (λ (s : State). queues_of s.version) known ∙ queues_told journal.setup.queues is.in_range.setup.queues in
    let whole : journal_of state es fs ≡ journal = λ i. record {
      setup = record { displays = (known i).displays; pages = (known i).pages; accepted = accepted i; clients = (known i).clients; queues = queues i; host = (known i).host };
      entries = entries i;
      control = (known i).control;
      cursor = (known i).cursor;
      frames = frames i;
    } in
    subst (IsJournal bytes) (sym whole) is

-- A journal's text is read as that journal.
pub every_journal : {E : Type 0} (bytes : List ℕ) (r : Result (Result Journal ℕ) E)
    → ((a b : Journal) → JournalInRange a → JournalInRange b → text_of a ≡ text_of b → a ≡ b)
    → IfOk r (λ read. IfOk read (IsJournal bytes)) → IfOk r (λ read. IfErr read (IsRefusedAt bytes))
    → IfOk r (λ read. (journal : Journal) → IsJournal bytes journal → read ≡ Ok journal)
every_journal bytes (Ok (Ok other)) one found refused = λ journal is. ap Ok (one other journal found.in_range is.in_range (sym found.text ∙ is.text))
every_journal bytes (Ok (Err n)) one found refused = λ journal is. absurd (refused.none journal is)
every_journal bytes (Err e) one found refused = tt
