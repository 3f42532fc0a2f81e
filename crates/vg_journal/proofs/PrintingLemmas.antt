use Rattle.std.proofs.Common.{ℕ, codes, ◌≡◌, ◌+◌, ◌<◌, ◌≤◌, List, get_or, [], ◌++◌, length, take, drop, Option, Some, None, append_assoc, append-nil, sym, ap, ◌∙◌, refl, subst}
use Rattle.std.proofs.Math.Seq.{take-add}
use Rattle.std.proofs.lemmas.List.{take-append-drop, take_all, take_at}
use Rattle.vg_io.specs.Streams.{Takes, TakesPart, TakesSome}
use Rattle.vg_io.proofs.StreamLemmas.{takes_both}
use Rattle.vg_journal.specs.PrintingWithin.{Printed, PrintedSome}
use Rattle.vg_scanout.specs.declared.scanout.Frame.{Frame}
use Rattle.vg_text.specs.Text.{numbered}
use Rattle.vg_text.proofs.NumberedLemmas.{numbered_append, written_more}
use Rattle.vg_journal.specs.Text.{frame_line, frame_text}

-- A sink that is left alone takes nothing.
pub takes_nothing : (a : Option (List ℕ)) → Takes a a []
takes_nothing None = tt
takes_nothing (Some xs) = sym (append-nil xs)

-- Nothing is handed on: all is pending.
pub printed_none : (a : Option (List ℕ)) (text : List ℕ) → Printed a a text text
printed_none a text = record { front = []; taken = takes_nothing a; whole = refl }

-- No text more yet.
pub printed_start : (a : Option (List ℕ)) (text : List ℕ) → Printed a a (text ++ []) text
printed_start a text = record { front = []; taken = takes_nothing a; whole = sym (append-nil text) }

-- A front is handed on: what is behind it is pending.
pub printed_front : (a b : Option (List ℕ)) (text front pending : List ℕ) → Takes a b front → front ++ pending ≡ text → Printed a b text pending
printed_front a b text front pending taken whole = record { front = front; taken = taken; whole = whole }

-- More text behind what was pending.
pub printed_then : (a b c : Option (List ℕ)) (text pending more pending' : List ℕ) → Printed a b text pending → Printed b c (pending ++ more) pending' → Printed a c (text ++ more) pending'
printed_then a b c text pending more pending' first second =
    record {
      front = first.front ++ second.front;
      taken = takes_both a b c _ _ first.taken second.taken;
      whole = append_assoc first.front second.front pending' ∙ ap (λ ys. first.front ++ ys) second.whole
          ∙ sym (append_assoc first.front pending more) ∙ ap (λ ys. ys ++ more) first.whole;
    }

-- What was pending is handed on, with more text behind it.
pub taken_then : (a b c : Option (List ℕ)) (text pending : List ℕ) → Printed a b text pending → Takes b c pending → Takes a c text
taken_then a b c text pending first second = subst (Takes a c) first.whole (takes_both a b c _ _ first.taken second)

-- A front of nothing.
pub some_none : (a : Option (List ℕ)) (text : List ℕ) → PrintedSome a a text
some_none a text = record { front = []; rest = text; taken = takes_nothing a; whole = refl }

-- The front of a text is one of a longer text.
pub some_longer : (a b : Option (List ℕ)) (text more : List ℕ) → PrintedSome a b text → PrintedSome a b (text ++ more)
some_longer a b text more some =
    record {
      front = some.front;
      rest = some.rest ++ more;
      taken = some.taken;
      whole = sym (append_assoc some.front some.rest more) ∙ ap (λ ys. ys ++ more) some.whole;
    }

-- What was printed but for its end is a front.
pub some_of : (a b : Option (List ℕ)) (text pending : List ℕ) → Printed a b text pending → PrintedSome a b text
some_of a b text pending printed =
    record { front = printed.front; rest = pending; taken = printed.taken; whole = printed.whole }

-- A front of what was pending and of more text behind it.
pub some_then : (a b c : Option (List ℕ)) (text pending more : List ℕ) → Printed a b text pending → PrintedSome b c (pending ++ more) → PrintedSome a c (text ++ more)
some_then a b c text pending more first second =
    record {
      front = first.front ++ second.front;
      rest = second.rest;
      taken = takes_both a b c _ _ first.taken second.taken;
      whole = append_assoc first.front second.front second.rest ∙ ap (λ ys. first.front ++ ys) second.whole
          ∙ sym (append_assoc first.front pending more) ∙ ap (λ ys. ys ++ more) first.whole;
    }

-- The two ways to say that a front was taken.
pub some_taken : (a b : Option (List ℕ)) (text : List ℕ) → TakesSome a b text → PrintedSome a b text
some_taken a b text taken =
    record { front = take taken.0 text; rest = drop taken.0 text; taken = taken.1; whole = take-append-drop taken.0 text }

pub taken_some : (a b : Option (List ℕ)) (text : List ℕ) → PrintedSome a b text → TakesSome a b text
taken_some a b text some =
    let front : some.front ≡ take (length some.front) text =
    sym (take_at some.front some.rest (length some.front) refl) ∙ ap (take (length some.front)) some.whole in
    (length some.front, subst (Takes a b) front some.taken)

-- A front that leaves something.
pub taken_part : (a b : Option (List ℕ)) (text front rest : List ℕ) → Takes a b front → front ++ rest ≡ text → length front < length text → TakesPart a b text
taken_part a b text front rest taken whole less =
    let same : front ≡ take (length front) text = sym (take_at front rest (length front) refl) ∙ ap (take (length front)) whole in
    (length front, less, subst (Takes a b) same taken)

-- One text of a list more.
pub printed_more : {X : Type 0} (text : ℕ → X → List ℕ) (n : ℕ) (xs : List X) (i j : ℕ) (x d : X) (a b c : Option (List ℕ)) (old pending pending' : List ℕ) → Printed a b (old ++ numbered text n (take i xs)) pending → Printed b c (pending ++ text j x) pending' → j ≡ n + i → i < length xs → x ≡ get_or xs i d → Printed a c (old ++ numbered text n (take (i + 1) xs)) pending'
printed_more text n xs i j x d a b c old pending pending' first second place within is_read =
    subst (λ ys. Printed a c ys pending') (written_more text n xs i j x d old _ _ refl refl place within is_read)
    (printed_then a b c _ _ _ _ first second)

-- A front of one text of a list more.
pub some_more : {X : Type 0} (text : ℕ → X → List ℕ) (n : ℕ) (xs : List X) (i j : ℕ) (x d : X) (a b c : Option (List ℕ)) (old pending : List ℕ) → Printed a b (old ++ numbered text n (take i xs)) pending → PrintedSome b c (pending ++ text j x) → j ≡ n + i → i < length xs → x ≡ get_or xs i d → PrintedSome a c (old ++ numbered text n xs)
some_more text n xs i j x d a b c old pending first second place within is_read =
    let front : PrintedSome a c (old ++ numbered text n (take (i + 1) xs)) =
    subst (PrintedSome a c) (written_more text n xs i j x d old _ _ refl refl place within is_read)
    (some_then a b c _ _ _ first second) in
    let whole : old ++ numbered text n (take (i + 1) xs) ++ numbered text (n + length (take (i + 1) xs)) (drop (i + 1) xs) ≡ old ++ numbered text n xs =
    append_assoc old _ _
    ∙ ap (λ ys. old ++ ys) (sym (numbered_append text n (take (i + 1) xs) (drop (i + 1) xs)) ∙ ap (numbered text n) (take-append-drop (i + 1) xs)) in
    subst (PrintedSome a c) whole (some_longer a c _ _ front)

-- All texts of a list.
pub all_printed : {X : Type 0} (text : ℕ → X → List ℕ) (n : ℕ) (xs : List X) (i : ℕ) (a b : Option (List ℕ)) (old pending : List ℕ) → Printed a b (old ++ numbered text n (take i xs)) pending → length xs ≤ i → Printed a b (old ++ numbered text n xs) pending
all_printed text n xs i a b old pending printed all = subst (λ ys. Printed a b (old ++ numbered text n ys) pending) (take_all i xs all) printed

-- A text that is put behind what is pending.
pub printed_put : (a b : Option (List ℕ)) (text pending more pending' : List ℕ) → Printed a b text pending → pending' ≡ pending ++ more → Printed a b (text ++ more) pending'
printed_put a b text pending more pending' first is_put =
    record {
      front = first.front;
      taken = first.taken;
      whole = ap (λ ys. first.front ++ ys) is_put ∙ sym (append_assoc first.front pending more) ∙ ap (λ ys. ys ++ more) first.whole;
    }

strip_whole : (front pixels piece : List ℕ) (at : ℕ) → piece ≡ take (length piece) (drop at pixels) → (front ++ take at pixels) ++ piece ≡ front ++ take (at + length piece) pixels
strip_whole front pixels piece at is =
    append_assoc front (take at pixels) piece ∙ ap (λ ys. front ++ ys) (ap (λ ys. take at pixels ++ ys) is ∙ sym (take-add at (length piece) pixels))

-- One strip more of pixels.
pub strip_printed : (a b c : Option (List ℕ)) (front pixels piece pending pending' : List ℕ) (at : ℕ) → Printed a b (front ++ take at pixels) pending → piece ≡ take (length piece) (drop at pixels)
    → Printed b c (pending ++ piece) pending' → Printed a c (front ++ take (at + length piece) pixels) pending'
strip_printed a b c front pixels piece pending pending' at first is second =
    subst (λ ys. Printed a c ys pending') (strip_whole front pixels piece at is) (printed_then a b c (front ++ take at pixels) pending piece pending' first second)

-- A front of it.
pub strip_some : (a b c : Option (List ℕ)) (front pixels piece pending : List ℕ) (at : ℕ) → Printed a b (front ++ take at pixels) pending → piece ≡ take (length piece) (drop at pixels)
    → PrintedSome b c (pending ++ piece) → PrintedSome a c (front ++ pixels)
strip_some a b c front pixels piece pending at first is second =
    let so_far = subst (PrintedSome a c) (strip_whole front pixels piece at is) (some_then a b c (front ++ take at pixels) pending piece first second) in
    let n = at + length piece in
    subst (PrintedSome a c) (append_assoc front (take n pixels) (drop n pixels) ∙ ap (λ ys. front ++ ys) (take-append-drop n pixels))
    (some_longer a c (front ++ take n pixels) (drop n pixels) so_far)

-- All strips.
pub strips_printed : (a b : Option (List ℕ)) (front pixels pending : List ℕ) (at : ℕ) → Printed a b (front ++ take at pixels) pending → length pixels ≤ at → Printed a b (front ++ pixels) pending
strips_printed a b front pixels pending at printed all = subst (λ ys. Printed a b (front ++ ys) pending) (take_all at pixels all) printed

-- A frame: its line, its pixels, and a line end.
frame_whole : (old : List ℕ) (n : ℕ) (frame : Frame) → ((old ++ frame_line n frame) ++ frame.pixels) ++ codes "\n" ≡ old ++ frame_text n frame
frame_whole old n frame = simp append_assoc

pub frame_printed : (a b c : Option (List ℕ)) (old p0 p1 p2 : List ℕ) (n : ℕ) (frame : Frame) → Printed a b (old ++ frame_line n frame) p0 → Printed b c (p0 ++ frame.pixels) p1 → p2 ≡ p1 ++ codes "\n"
    → Printed a c (old ++ frame_text n frame) p2
frame_printed a b c old p0 p1 p2 n frame first second is_put =
    subst (λ ys. Printed a c ys p2) (frame_whole old n frame) (printed_put a c _ p1 (codes "\n") p2 (printed_then a b c _ p0 frame.pixels p1 first second) is_put)

-- A front of its line and its pixels.
pub pixels_some : (a b : Option (List ℕ)) (old : List ℕ) (n : ℕ) (frame : Frame) → PrintedSome a b ((old ++ frame_line n frame) ++ frame.pixels) → PrintedSome a b (old ++ frame_text n frame)
pixels_some a b old n frame some = subst (PrintedSome a b) (frame_whole old n frame) (some_longer a b _ (codes "\n") some)

-- A front of its line.
pub line_some : (a b : Option (List ℕ)) (old : List ℕ) (n : ℕ) (frame : Frame) → PrintedSome a b (old ++ frame_line n frame) → PrintedSome a b (old ++ frame_text n frame)
line_some a b old n frame some = pixels_some a b old n frame (some_longer a b _ frame.pixels some)

-- The next part of a text moves to what is pending, and what is pending is handed on.
pub next_printed : (a b c : Option (List ℕ)) (text p0 r0 p1 r1 p2 : List ℕ) → Printed a b text (p0 ++ r0) → p1 ++ r1 ≡ p0 ++ r0 → Printed b c p1 p2 → Printed a c text (p2 ++ r1)
next_printed a b c text p0 r0 p1 r1 p2 first moved second =
    record {
      front = first.front ++ second.front;
      taken = takes_both a b c _ _ first.taken second.taken;
      whole = append_assoc first.front second.front (p2 ++ r1)
          ∙ ap (λ ys. first.front ++ ys) (sym (append_assoc second.front p2 r1) ∙ ap (λ ys. ys ++ r1) second.whole ∙ moved) ∙ first.whole;
    }

-- A front of it.
pub next_some : (a b c : Option (List ℕ)) (text p0 r0 p1 r1 : List ℕ) → Printed a b text (p0 ++ r0) → p1 ++ r1 ≡ p0 ++ r0 → TakesSome b c p1 → PrintedSome a c text
next_some a b c text p0 r0 p1 r1 first moved second =
    let some = some_longer b c p1 r1 (some_taken b c p1 second) in
    record {
      front = first.front ++ some.front;
      rest = some.rest;
      taken = takes_both a b c _ _ first.taken some.taken;
      whole = append_assoc first.front some.front some.rest ∙ ap (λ ys. first.front ++ ys) (some.whole ∙ moved) ∙ first.whole;
    }

-- Nothing is left to move.
pub spelled_whole : (a b : Option (List ℕ)) (text p r : List ℕ) → Printed a b text (p ++ r) → r ≡ [] → Printed a b text p
spelled_whole a b text p r printed none = subst (Printed a b text) (ap (λ ys. p ++ ys) none ∙ append-nil p) printed

-- A text in two parts, one after the other.
pub two_printed : (a b c : Option (List ℕ)) (old first second text p0 p1 : List ℕ) → Printed a b (old ++ first) p0 → first ++ second ≡ text → Printed b c (p0 ++ second) p1 → Printed a c (old ++ text) p1
two_printed a b c old first second text p0 p1 one whole two =
    subst (λ ys. Printed a c ys p1) (append_assoc old first second ∙ ap (λ ys. old ++ ys) whole) (printed_then a b c _ p0 second p1 one two)

-- A front of the first, and a front of the second behind the first.
pub first_some : (a b : Option (List ℕ)) (old first second text : List ℕ) → PrintedSome a b (old ++ first) → first ++ second ≡ text → PrintedSome a b (old ++ text)
first_some a b old first second text some whole =
    subst (PrintedSome a b) (append_assoc old first second ∙ ap (λ ys. old ++ ys) whole) (some_longer a b _ second some)

pub second_some : (a b c : Option (List ℕ)) (old first second text p0 : List ℕ) → Printed a b (old ++ first) p0 → first ++ second ≡ text → PrintedSome b c (p0 ++ second) → PrintedSome a c (old ++ text)
second_some a b c old first second text p0 one whole some =
    subst (PrintedSome a c) (append_assoc old first second ∙ ap (λ ys. old ++ ys) whole) (some_then a b c _ p0 second one some)
