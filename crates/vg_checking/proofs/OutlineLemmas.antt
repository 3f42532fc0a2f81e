-- What is said of a journal beside its entries and frames.
use Rattle.std.proofs.Common.{◌≡◌, ◌≤◌, ◌+◌, ◌*◌, ℕ, List, [], ◌∷◌, ◌++◌, length, codes, decimal, arith, ap, ◌∙◌, append_assoc, length-append}
use Rattle.vg_history.specs.declared.entry.Entry.TheVariants as entries
use Rattle.vg_machine.specs.Entries.{Entry}
use Rattle.vg_act_lines.specs.Words.{act_words, reply_words}
use Rattle.vg_command_lines.specs.Words.{command_reply_words, request_words}
use Rattle.vg_journal.specs.declared.journal.Journal.{Journal}
use Rattle.vg_journal_lines.specs.declared.state.State.{State}
use Rattle.vg_journal_lines.specs.Entries.{entry_words}
use Rattle.vg_journal_lines.specs.Words.{joined}
use Rattle.vg_journal_lines.specs.Pieces.{done_of, entry_pieces, frame_pieces, numbered_pieces, whole}
use Rattle.vg_journal_lines.specs.Versions.{queues_of}
use Rattle.vg_journal_lines.proofs.HeadLaws.{queues_told}
use Rattle.vg_journal_lines.proofs.StepLemmas.{accepted_told}
use Rattle.vg_journal_read.specs.declared.lines.Scanned.{Scanned}
use Rattle.vg_journal_read.specs.Scans.{IsScanned, StandsAt}
use Rattle.vg_judge.specs.Outline.{IsOutline}
use Rattle.vg_judge.specs.Outline as outlines
use Rattle.vg_journal_read.specs.Features.{accepted_by_lines}
use Rattle.vg_checking.specs.Outlining.{IsOutlined, outline_of}
use Rattle.vg_limits.specs.Limits.{version_2}

-- each entry's line takes two bytes at least
line_long : (n : ℕ) (entry : Entry) → 1 ≤ length (joined (entry_words n entry))
line_long n (entries.Act client call act reply) =
    let long = length-append (decimal n) (32 ∷ joined (decimal client ∷ decimal call ∷ codes "act" ∷ (act_words act ++ codes "=" ∷ reply_words reply))) in
    omega (arith, long)
line_long n (entries.Command client call request reply) =
    let long = length-append (decimal n) (32 ∷ joined (decimal client ∷ decimal call ∷ codes "cmd" ∷ (request_words request ++ codes "=" ∷ command_reply_words reply))) in
    omega (arith, long)

lines_long : (n : ℕ) (entries : List Entry) → 2 * length entries ≤ length (whole (numbered_pieces entry_pieces n entries))
lines_long n [] = omega arith
lines_long n (entry ∷ more) =
    let next = lines_long (n + 1) more in
    let first = line_long n entry in
    let long = length-append (joined (entry_words n entry)) (10 ∷ whole (numbered_pieces entry_pieces (n + 1) more)) in
    omega (arith, next, first, long)

-- a part of a text is no longer than the text
part_short : (bytes part : List ℕ) (at : ℕ) → StandsAt bytes part at → length part ≤ length bytes
part_short bytes part at (front, rest, is, count) =
    let whole_is : length bytes ≡ length (front ++ part ++ rest) = ap (λ (xs : List ℕ). length xs) is in
    let outer = length-append (front ++ part) rest in
    let inner = length-append front part in
    omega (arith, whole_is, outer, inner)

stands : (bytes part : List ℕ) (at : ℕ) → StandsAt bytes part at → outlines.StandsAt bytes at part
stands bytes part at (front, rest, is, count) = record { front = front; rest = rest; count = count; place = is ∙ append_assoc front part rest }

pub is_outlined : (bytes : List ℕ) (scanned : Scanned) → length bytes ≤ version_2.journal → IsScanned bytes scanned → IsOutlined bytes (outline_of scanned)
is_outlined bytes scanned short is =
    let journal : Journal = is.journal in
    let known : scanned.state ≡ done_of journal = is.state in
    let accepted : accepted_by_lines scanned.state.left_out ≡ journal.setup.accepted = ap (λ (s : State). accepted_by_lines s.left_out) known ∙ accepted_told journal.setup.accepted is.is_journal.in_range.setup.accepted in
    let queues : queues_of scanned.state.version ≡ journal.setup.queues = ap (λ (s : State). queues_of s.version) known ∙ queues_told journal.setup.queues is.is_journal.in_range.setup.queues in
    let setup : (outline_of scanned).setup ≡ journal.setup = λ i. record { displays = (known i).displays; pages = (known i).pages; accepted = accepted i; clients = (known i).clients; queues = queues i; host = (known i).host } in
    let entries : scanned.state.entries ≡ length journal.entries = ap (λ (s : State). s.entries) known in
    let long = lines_long 1 journal.entries in
    let part = part_short bytes (whole (numbered_pieces entry_pieces 1 journal.entries)) scanned.entries_at is.entries in
    record {
      journal = journal;
      is_journal = is.is_journal;
      is_outline = record {
        setup = setup;
        entries = entries;
        control = ap (λ (s : State). s.control) known;
        cursor = ap (λ (s : State). s.cursor) known;
        frames = ap (λ (s : State). s.frames) known;
        entries_at = stands bytes (whole (numbered_pieces entry_pieces 1 journal.entries)) scanned.entries_at is.entries;
        frames_at = stands bytes (whole (numbered_pieces frame_pieces 1 journal.frames)) scanned.frames_at is.frames;
      };
      few = omega (arith, entries, long, part);
    }
