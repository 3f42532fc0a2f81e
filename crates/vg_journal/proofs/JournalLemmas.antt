use Rattle.std.proofs.Common.{ℕ, codes, ◌≡◌, List, [], ◌++◌, length, Option, ap, ◌∙◌, refl, subst, arith, sym, append_assoc, length-append}
use Rattle.vg_io.specs.Streams.{TakesPart, TakesSome}
use Rattle.vg_scanout.specs.declared.scanout.Frame.{Frame}
use Rattle.vg_journal.specs.declared.journal.Journal.{Journal}
use Rattle.vg_journal.specs.PrintingWithin.{Printed, PrintedSome}
use Rattle.vg_text.specs.Text.{numbered}
use Rattle.vg_journal.specs.Text.{head_text, entry_line, counts_text, frame_text, front_text, text_of}
use Rattle.vg_journal.proofs.PrintingLemmas.{printed_then, some_then, some_taken, some_longer, taken_part}

-- The head of a journal and its entries.
abbrev pub entries_of : Journal → List ℕ
entries_of journal = head_text journal.setup ++ numbered entry_line 1 journal.entries

-- All of a journal in front of its frames.
abbrev pub front_of : Journal → List ℕ
front_of journal = entries_of journal ++ counts_text journal.control journal.cursor (length journal.frames)

-- A front of the head and the entries is one of all but the last line.
in_entries : (a b : Option (List ℕ)) (journal : Journal) → PrintedSome a b (entries_of journal) → PrintedSome a b (front_text journal)
in_entries a b journal some =
    some_longer a b (front_of journal) (numbered frame_text 1 journal.frames)
    (some_longer a b (entries_of journal) (counts_text journal.control journal.cursor (length journal.frames)) some)

-- The head, where nothing was pending.
pub head_printed : (a b : Option (List ℕ)) (journal : Journal) (p0 p1 : List ℕ) → p0 ≡ [] → Printed a b (p0 ++ head_text journal.setup) p1 → Printed a b (head_text journal.setup) p1
head_printed a b journal p0 p1 none printed = subst (λ ys. Printed a b (ys ++ head_text journal.setup) p1) none printed

pub head_some : (a b : Option (List ℕ)) (journal : Journal) (p0 : List ℕ) → p0 ≡ [] → PrintedSome a b (p0 ++ head_text journal.setup) → PrintedSome a b (front_text journal)
head_some a b journal p0 none some =
    in_entries a b journal
    (some_longer a b (head_text journal.setup) (numbered entry_line 1 journal.entries) (subst (λ ys. PrintedSome a b (ys ++ head_text journal.setup)) none some))

pub entries_some : (a b c : Option (List ℕ)) (journal : Journal) (p1 : List ℕ) → Printed a b (head_text journal.setup) p1 → PrintedSome b c (p1 ++ numbered entry_line 1 journal.entries) → PrintedSome a c (front_text journal)
entries_some a b c journal p1 printed some = in_entries a c journal (some_then a b c _ p1 _ printed some)

pub entries_printed : (a b c : Option (List ℕ)) (journal : Journal) (p1 p2 : List ℕ) → Printed a b (head_text journal.setup) p1 → Printed b c (p1 ++ numbered entry_line 1 journal.entries) p2 → Printed a c (entries_of journal) p2
entries_printed a b c journal p1 p2 printed more = printed_then a b c _ p1 _ p2 printed more

pub counts_some : (a b c : Option (List ℕ)) (journal : Journal) (p2 : List ℕ) → Printed a b (entries_of journal) p2 → PrintedSome b c (p2 ++ counts_text journal.control journal.cursor (length journal.frames)) → PrintedSome a c (front_text journal)
counts_some a b c journal p2 printed some =
    some_longer a c (front_of journal) (numbered frame_text 1 journal.frames) (some_then a b c _ p2 _ printed some)

pub counts_printed : (a b c : Option (List ℕ)) (journal : Journal) (p2 p3 : List ℕ) → Printed a b (entries_of journal) p2 → Printed b c (p2 ++ counts_text journal.control journal.cursor (length journal.frames)) p3 → Printed a c (front_of journal) p3
counts_printed a b c journal p2 p3 printed more = printed_then a b c _ p2 _ p3 printed more

pub frames_some : (a b c : Option (List ℕ)) (journal : Journal) (p3 : List ℕ) (slice : List Frame) → Printed a b (front_of journal) p3 → slice ≡ journal.frames → PrintedSome b c (p3 ++ numbered frame_text 1 slice) → PrintedSome a c (front_text journal)
frames_some a b c journal p3 slice printed is_slice some =
    some_then a b c _ p3 _ printed (subst (λ xs. PrintedSome b c (p3 ++ numbered frame_text 1 xs)) is_slice some)

pub frames_printed : (a b c : Option (List ℕ)) (journal : Journal) (p3 p4 : List ℕ) (slice : List Frame) → Printed a b (front_of journal) p3 → slice ≡ journal.frames → Printed b c (p3 ++ numbered frame_text 1 slice) p4 → Printed a c (front_text journal) p4
frames_printed a b c journal p3 p4 slice printed is_slice more =
    printed_then a b c _ p3 _ p4 printed (subst (λ xs. Printed b c (p3 ++ numbered frame_text 1 xs) p4) is_slice more)

-- The last of the buffer is not taken whole.
pub rest_some : (a b c : Option (List ℕ)) (journal : Journal) (p4 p5 : List ℕ) → Printed a b (front_text journal) p4 → p5 ≡ p4 ++ codes "end\n" → TakesSome b c p5 → PrintedSome a c (text_of journal)
rest_some a b c journal p4 p5 printed is_put some =
    some_then a b c _ p4 _ printed (subst (PrintedSome b c) is_put (some_taken b c p5 some))

-- A front of all but the last line is one of the whole, and not all of it.
pub front_some : (a b : Option (List ℕ)) (journal : Journal) → PrintedSome a b (front_text journal) → PrintedSome a b (text_of journal)
front_some a b journal some = some_longer a b (front_text journal) (codes "end\n") some

pub front_part : (a b : Option (List ℕ)) (journal : Journal) → PrintedSome a b (front_text journal) → TakesPart a b (text_of journal)
front_part a b journal some =
    let four : length (codes "end\n") ≡ 4 = refl in
    let front = ap length some.whole in
    let size = length-append some.front some.rest in
    let all = length-append (front_text journal) (codes "end\n") in
    let whole : some.front ++ (some.rest ++ codes "end\n") ≡ text_of journal = sym (append_assoc some.front some.rest (codes "end\n")) ∙ ap (λ ys. ys ++ codes "end\n") some.whole in
    taken_part a b (text_of journal) some.front (some.rest ++ codes "end\n") some.taken whole (omega (arith, four, front, size, all))
