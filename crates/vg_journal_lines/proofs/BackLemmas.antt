-- What is read to its end: the frames, the entries and the counts.
use Rattle.std.proofs.Common.{◌≡◌, ◌⊎◌, inl, inr, ℕ, ◌+◌, ◌-◌, ◌≤◌, ◌==◌, Bool, true, false, nat_le, List, [], ◌∷◌, ◌++◌, length, if◌then◌else◌, Some, None, arith, refl, sym, ap, ◌∙◌}
use Rattle.std.proofs.lemmas.Bool.{eqb-true, eqb-false, leb-true}
use Rattle.std.proofs.lemmas.List.Elements.{All-head, All-tail, All-cons, All-nil}
use Rattle.std.proofs.lemmas.List.Sums.{sum_by-cons}
use Rattle.std.specs.List.{All}
use Rattle.vg_laws.proofs.Options.{some_is}
use Rattle.vg_scanout.specs.declared.scanout.Frame.{Frame}
use Rattle.vg_scanout.specs.Scanout.{frame_bytes}
use Rattle.vg_line_words.specs.Words.{AreBelow, lacks, parts_at}
use Rattle.vg_line_words.proofs.PartLemmas.{joined-parts}
use Rattle.vg_act_lines.proofs.PartLaws.{then_parts}
use Rattle.vg_journal_lines.specs.declared.counts.FrameHead.{FrameHead}
use Rattle.vg_journal_lines.specs.declared.state.Stage.{Stage}
use Rattle.vg_journal_lines.specs.declared.state.Stage.TheVariants as stages
use Rattle.vg_journal_lines.specs.declared.state.State.{State}
use Rattle.vg_journal_lines.specs.Words.{end_words, frame_words, joined}
use Rattle.vg_journal_lines.specs.Read.{frame_of, is_end, pixels_of}
use Rattle.vg_journal_lines.specs.Ranges.{HeadInRange}
use Rattle.vg_journal_lines.specs.States.{AFrame, Item, Next, Nothing, end_step, frame_with, head_step, piece_step, run, step, with_head, words_step}
use Rattle.vg_journal_lines.specs.Pieces.{FrameInRange, frame_pieces, numbered_pieces}
use Rattle.vg_journal_lines.proofs.TestLaws.{passes}
use Rattle.vg_journal_lines.proofs.CountLaws.{end_only, frame_only}
use Rattle.vg_journal_lines.proofs.CutLemmas.{ran}
use Rattle.vg_journal_lines.proofs.StepLemmas.{HasLine, at_end, at_frame, at_pixels}

-- The words of a line that came.
pub words_of : (stage : Stage) (state : State) (piece : List ℕ) (next : Next) → HasLine stage → piece_step stage state piece ≡ Some next → words_step stage state (parts_at 32 piece) ≡ Some next
words_of stages.Title state piece next line is = (passes (lacks 10 piece) (words_step stages.Title state (parts_at 32 piece)) next is).1
words_of stages.Displays state piece next line is = (passes (lacks 10 piece) (words_step stages.Displays state (parts_at 32 piece)) next is).1
words_of stages.Queues state piece next line is = (passes (lacks 10 piece) (words_step stages.Queues state (parts_at 32 piece)) next is).1
words_of stages.Features state piece next line is = (passes (lacks 10 piece) (words_step stages.Features state (parts_at 32 piece)) next is).1
words_of stages.Host state piece next line is = (passes (lacks 10 piece) (words_step stages.Host state (parts_at 32 piece)) next is).1
words_of stages.Entries state piece next line is = (passes (lacks 10 piece) (words_step stages.Entries state (parts_at 32 piece)) next is).1
words_of stages.Frames state piece next line is = (passes (lacks 10 piece) (words_step stages.Frames state (parts_at 32 piece)) next is).1
words_of (stages.Frame left) state piece next line is = (passes (lacks 10 piece) (words_step (stages.Frame left) state (parts_at 32 piece)) next is).1
words_of (stages.Pixels head left) state piece next line is = absurd line
words_of stages.Done state piece next line is = absurd line

pub line_is : (piece : List ℕ) (words : List (List ℕ)) → parts_at 32 piece ≡ words → piece ≡ joined words
line_is piece words is = sym (joined-parts 32 piece) ∙ ap joined is

-- Nothing is left.
abbrev pub IsOver : State → Type 0
IsOver state = state.stage ≡ stages.Done

-- What is left behind a piece.
pub left_behind : (state t : State) (i : Item) (piece : List ℕ) (pieces : List (List ℕ)) (all : State × List Item) → run state (piece ∷ pieces) ≡ Some all → step state piece ≡ Some (t, i) → (js : List Item) × (run t pieces ≡ Some (all.0, js))
left_behind state t i piece pieces all is first =
    let r = ran state piece pieces all is in
    let next : (t, i) ≡ r.next = some_is (t, i) r.next (sym first ∙ r.first) in
    (r.more.1, ap (λ n. run n.0 pieces) next ∙ r.rest ∙ ap (λ n. Some (n.0, r.more.1)) r.is)

-- The first step of a run.
pub first_step : (state : State) (piece : List ℕ) (pieces : List (List ℕ)) (all : State × List Item) → run state (piece ∷ pieces) ≡ Some all → (next : Next) × (step state piece ≡ Some next)
first_step state piece pieces all is = let r = ran state piece pieces all is in (r.next, r.first)

pub at_start : (state : State) (all : State × List Item) → run state [] ≡ Some all → state ≡ all.0
at_start state all is = ap (λ a. a.0) (some_is (state, []) all is)

-- Frames.
record IsLast (state : State) (left count bytes : ℕ) (piece : List ℕ) : Type 0 where
  none : left ≡ 0
  piece_is : piece ≡ joined end_words
  goes : step (at_frame state left count bytes) piece ≡ Some (at_end (at_frame state left count bytes), Nothing)

record IsHead (state : State) (left count bytes : ℕ) (piece : List ℕ) : Type 0 where
  head : FrameHead
  more : ℕ
  some : left ≡ more + 1
  piece_is : piece ≡ joined (frame_words (count + 1) head)
  fits : HeadInRange head
  few : bytes + pixels_of head ≤ 268435456
  goes : step (at_frame state left count bytes) piece ≡ Some (at_pixels state head more count (bytes + pixels_of head), Nothing)

less_one : (left : ℕ) → (left == 0) ≡ false → left ≡ left - 1 + 1
less_one left some = let other = eqb-false left 0 some in omega (arith, other)

frame_by : (b : Bool) (state : State) (left count bytes : ℕ) (piece : List ℕ) (next : Next) → (left == 0) ≡ b
    → step (at_frame state left count bytes) piece ≡ Some next
    → (if b then end_step (at_frame state left count bytes) (parts_at 32 piece) else head_step (left - 1) (at_frame state left count bytes) (parts_at 32 piece)) ≡ Some next
    → IsLast state left count bytes piece ⊎ IsHead state left count bytes piece
frame_by true state left count bytes piece next none goes is =
    let last : Next = (at_end (at_frame state left count bytes), Nothing) in
    let told = passes (is_end (parts_at 32 piece)) (Some last) next is in
    inl (record { none = eqb-true left 0 none; piece_is = line_is piece end_words (end_only (parts_at 32 piece) told.0); goes = goes ∙ sym told.1 })
frame_by false state left count bytes piece next some goes is =
    let before = at_frame state left count bytes in
    let m = then_parts (with_head (left - 1) before) (frame_of (count + 1) (parts_at 32 piece)) next is in
    let read = frame_only (count + 1) m.0 (parts_at 32 piece) m.1 in
    let told = passes (nat_le (bytes + pixels_of m.0) 268435456) (Some (at_pixels state m.0 (left - 1) count (bytes + pixels_of m.0), Nothing)) next m.2 in
    inr (record {
      head = m.0;
      more = left - 1;
      some = less_one left some;
      piece_is = line_is piece (frame_words (count + 1) m.0) read.0;
      fits = read.2;
      few = leb-true _ _ told.0;
      goes = goes ∙ sym told.1;
    })

frame_came : (state : State) (left count bytes : ℕ) (piece : List ℕ) (next : Next) → step (at_frame state left count bytes) piece ≡ Some next → IsLast state left count bytes piece ⊎ IsHead state left count bytes piece
frame_came state left count bytes piece next is =
    frame_by (left == 0) state left count bytes piece next refl is (words_of (stages.Frame left) (at_frame state left count bytes) piece next tt is)

record ArePixels (state : State) (head : FrameHead) (left count bytes : ℕ) (piece : List ℕ) : Type 0 where
  size : length piece ≡ pixels_of head
  goes : step (at_pixels state head left count bytes) piece ≡ Some (at_frame state left (count + 1) bytes, AFrame (frame_with head piece))

pixels_came : (state : State) (head : FrameHead) (left count bytes : ℕ) (piece : List ℕ) (next : Next) → step (at_pixels state head left count bytes) piece ≡ Some next → ArePixels state head left count bytes piece
pixels_came state head left count bytes piece next is =
    let told = passes (length piece == pixels_of head) (Some (at_frame state left (count + 1) bytes, AFrame (frame_with head piece))) next is in
    record { size = eqb-true (length piece) (pixels_of head) told.0; goes = is ∙ sym told.1 }

-- So many frames, and the last line.
pub record FramesLeft (left count bytes : ℕ) (pieces : List (List ℕ)) : Type 0 where
  pub frames : List Frame
  pub many : length frames ≡ left
  pub are : pieces ≡ numbered_pieces frame_pieces (count + 1) frames ++ joined end_words ∷ []
  pub fit : All FrameInRange frames
  pub few : bytes + frame_bytes frames ≤ 268435456

pub over_none : (state : State) (piece : List ℕ) (pieces : List (List ℕ)) (all : State × List Item) → state.stage ≡ stages.Done → run state (piece ∷ pieces) ≡ Some all → ⊥
over_none state piece pieces all over is =
    let first = first_step state piece pieces all is in
    let none : None ≡ Some first.0 = ap (λ stage. piece_step stage state piece) (sym over) ∙ first.1 in
    absurd cc

last_left : (state : State) (left count bytes : ℕ) (piece : List ℕ) (pieces : List (List ℕ)) (all : State × List Item) → bytes ≤ 268435456 → run (at_frame state left count bytes) (piece ∷ pieces) ≡ Some all
    → IsLast state left count bytes piece → FramesLeft left count bytes (piece ∷ pieces)
last_left state left count bytes piece [] all few is last = record {
  frames = [];
  many = sym last.none;
  are = ap (λ p. p ∷ []) last.piece_is;
  fit = All-nil FrameInRange;
  few = omega (arith, few);
}
last_left state left count bytes piece (next ∷ pieces) all few is last =
    let rest = left_behind (at_frame state left count bytes) (at_end (at_frame state left count bytes)) Nothing piece (next ∷ pieces) all is last.goes in
    absurd (over_none (at_end (at_frame state left count bytes)) next pieces (all.0, rest.0) refl rest.1)

no_pixels : (state : State) (head : FrameHead) (left count bytes : ℕ) (all : State × List Item) → run (at_pixels state head left count bytes) [] ≡ Some all → IsOver all.0 → ⊥
no_pixels state head left count bytes all is over =
    let same : at_pixels state head left count bytes ≡ all.0 = at_start (at_pixels state head left count bytes) all is in
    let no : stages.Pixels head left ≡ stages.Done = ap (λ (s : State). s.stage) same ∙ over in
    absurd cc

no_last : (state : State) (left count bytes : ℕ) (all : State × List Item) → run (at_frame state left count bytes) [] ≡ Some all → IsOver all.0 → ⊥
no_last state left count bytes all is over =
    let same : at_frame state left count bytes ≡ all.0 = at_start (at_frame state left count bytes) all is in
    let no : stages.Frame left ≡ stages.Done = ap (λ (s : State). s.stage) same ∙ over in
    absurd cc

-- One frame more.
one_frame : (left more count bytes : ℕ) (head : FrameHead) (piece pixels : List ℕ) (pieces : List (List ℕ)) → left ≡ more + 1 → piece ≡ joined (frame_words (count + 1) head) → HeadInRange head
    → length pixels ≡ pixels_of head → AreBelow 256 pixels → FramesLeft more (count + 1) (bytes + pixels_of head) pieces → FramesLeft left count bytes (piece ∷ pixels ∷ pieces)
one_frame left more count bytes head piece pixels pieces some piece_is fits size below rest =
    let frame : Frame = frame_with head pixels in
    let sum : frame_bytes (frame ∷ rest.frames) ≡ length pixels + frame_bytes rest.frames = sum_by-cons (λ (f : Frame). length f.pixels) frame rest.frames in
    let many = rest.many in
    let few = rest.few in
    record {
      frames = frame ∷ rest.frames;
      many = omega (arith, many, some);
      are = λ i. piece_is i ∷ pixels ∷ rest.are i;
      fit = All-cons FrameInRange frame rest.frames (record { head = fits; count = size; pixels = below }) rest.fit;
      few = omega (arith, few, sum, size);
    }

abbrev pub Bytes : List (List ℕ) → Type 0
Bytes pieces = All (λ p. AreBelow 256 p) pieces

head_alone : (state : State) (left count bytes : ℕ) (piece : List ℕ) (all : State × List Item) → run (at_frame state left count bytes) (piece ∷ []) ≡ Some all → IsOver all.0 → IsHead state left count bytes piece → ⊥
head_alone state left count bytes piece all is over head =
    let rest = left_behind (at_frame state left count bytes) (at_pixels state head.head head.more count (bytes + pixels_of head.head)) Nothing piece [] all is head.goes in
    no_pixels state head.head head.more count (bytes + pixels_of head.head) (all.0, rest.0) rest.1 over

one_piece : (state : State) (left count bytes : ℕ) (piece : List ℕ) (all : State × List Item) → bytes ≤ 268435456 → run (at_frame state left count bytes) (piece ∷ []) ≡ Some all → IsOver all.0
    → IsLast state left count bytes piece ⊎ IsHead state left count bytes piece → FramesLeft left count bytes (piece ∷ [])
one_piece state left count bytes piece all few is over (inl last) = last_left state left count bytes piece [] all few is last
one_piece state left count bytes piece all few is over (inr head) = absurd (head_alone state left count bytes piece all is over head)

two_pieces : (state : State) (left count bytes : ℕ) (piece pixels : List ℕ) (pieces : List (List ℕ)) (all : State × List Item) → bytes ≤ 268435456 → Bytes (piece ∷ pixels ∷ pieces)
    → run (at_frame state left count bytes) (piece ∷ pixels ∷ pieces) ≡ Some all
    → ((left' count' bytes' : ℕ) (js : List Item) → bytes' ≤ 268435456 → run (at_frame state left' count' bytes') pieces ≡ Some (all.0, js) → FramesLeft left' count' bytes' pieces)
    → IsLast state left count bytes piece ⊎ IsHead state left count bytes piece → FramesLeft left count bytes (piece ∷ pixels ∷ pieces)
two_pieces state left count bytes piece pixels pieces all few below is rest (inl last) = last_left state left count bytes piece (pixels ∷ pieces) all few is last
two_pieces state left count bytes piece pixels pieces all few below is rest (inr head) =
    let bytes' = bytes + pixels_of head.head in
    let before = at_pixels state head.head head.more count bytes' in
    let behind = left_behind (at_frame state left count bytes) before Nothing piece (pixels ∷ pieces) all is head.goes in
    let first = first_step before pixels pieces (all.0, behind.0) behind.1 in
    let came = pixels_came state head.head head.more count bytes' pixels first.0 first.1 in
    let more = left_behind before (at_frame state head.more (count + 1) bytes') (AFrame (frame_with head.head pixels)) pixels pieces (all.0, behind.0) behind.1 came.goes in
    let pixels_below = All-head (λ p. AreBelow 256 p) pixels pieces (All-tail (λ p. AreBelow 256 p) piece (pixels ∷ pieces) below) in
    one_frame left head.more count bytes head.head piece pixels pieces head.some head.piece_is head.fits came.size pixels_below
    (rest head.more (count + 1) bytes' more.0 head.few more.1)

pub frames_left : (state : State) (left count bytes : ℕ) (pieces : List (List ℕ)) (all : State × List Item) → bytes ≤ 268435456 → Bytes pieces
    → run (at_frame state left count bytes) pieces ≡ Some all → IsOver all.0 → FramesLeft left count bytes pieces
frames_left state left count bytes [] all few below is over = absurd (no_last state left count bytes all is over)
frames_left state left count bytes (piece ∷ []) all few below is over =
    let first = first_step (at_frame state left count bytes) piece [] all is in
    one_piece state left count bytes piece all few is over (frame_came state left count bytes piece first.0 first.1)
frames_left state left count bytes (piece ∷ pixels ∷ pieces) all few below is over =
    let first = first_step (at_frame state left count bytes) piece (pixels ∷ pieces) all is in
    let rest = All-tail (λ p. AreBelow 256 p) pixels pieces (All-tail (λ p. AreBelow 256 p) piece (pixels ∷ pieces) below) in
    two_pieces state left count bytes piece pixels pieces all few below is
    (λ left' count' bytes' js few' is'. frames_left state left' count' bytes' pieces (all.0, js) few' rest is' over)
    (frame_came state left count bytes piece first.0 first.1)
