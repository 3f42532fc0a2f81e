-- A display that stores clients' numbers goes over one entry more: the frames that it makes have the words of its screens and images.
use Rattle.std.proofs.Common.{◌≡◌, ◌⊎◌, inl, inr, ⊎_elim, ℕ, suc, ◌+◌, ◌-◌, ◌^◌, ◌<◌, ◌≤◌, ◌&&◌, true, false, cond, nat_le, List, [], ◌∷◌, ◌++◌, length, map, Option, Some, None, slice_get, slice_index, refl, sym, ap, subst, ◌∙◌, arith}
use Rattle.std.specs.List.{All}
use Rattle.std.specs.Option.{option_map}
use Rattle.std.proofs.lemmas.Bool.{cases_lt, le-ltb, lt-ltb}
use Rattle.std.proofs.lemmas.Bool.Decides.{nat_tests}
use Rattle.std.proofs.lemmas.List.{get_or_past, get_or-take, length-append, length-map, length-replicate, map-append}
use Rattle.std.proofs.lemmas.List.Elements.{All-push}
use Rattle.std.proofs.lemmas.Option.{slice_get-get_or}
use Rattle.vg_cursor.specs.declared.cursor.Cursor.{Cursor}
use Rattle.vg_cursor.specs.Blended.{blended}
use Rattle.vg_cursor.specs.Cursor.{cursor_of, unset}
use Rattle.vg_scanout.specs.declared.scanout.Frame.{Frame}
use Rattle.vg_scanout.specs.Scanout.{Screen, pixels_of_screen, screen_of, screen_pixels}
use Rattle.vg_scanout.proofs.ScreenLemmas.{length-blended}
use Rattle.vg_client_holds.specs.Setup.{IsSetup}
use Rattle.vg_client_holds.specs.declared.setup.Setup.{Setup}
use Rattle.vg_device.specs.State.{IsConsistent, State, counted, start}
use Rattle.vg_history.proofs.HistoryLemmas.{count_replay}
use Rattle.vg_machine.specs.CountedWithin.{act-counts, request-counts}
use Rattle.vg_machine.specs.Entries.{Entry}
use Rattle.vg_machine.specs.Replay as machine
use Rattle.vg_machine.specs.Replay.{after, replay}
use Rattle.vg_machine.proofs.ReplayLemmas.{replay-more}
use Rattle.vg_linked.specs.Consistent.{IsReplayed}
use Rattle.vg_painted.specs.Ink.{Painting}
use Rattle.vg_painted.specs.Inks.{numbers}
use Rattle.vg_painted.specs.Paint.{blended_at, framed, framed_at, fresh, moved, painted, painting}
use Rattle.vg_painted.specs.Painted.{AreRelated, IsPainted}
use Rattle.vg_painted.proofs.FrameLemmas.{IsMade, Makes, entry-makes}
use Rattle.vg_painted.proofs.PaintedLemmas.{first-or-behind, moved-frames, unset-hidden}
use Rattle.vg_painted.proofs.RelatedLemmas.{AreBy, AreLike, painting-more, painting-related}
use Rattle.vg_drawers.specs.Drawers.{by_client}
use Rattle.vg_drawers.specs.Shape.{frame_shape}
use Rattle.vg_drawers.proofs.AlikeLemmas.{Alike}
use Rattle.vg_drawers.proofs.DrawnLemmas.{drawers, painting-same}
use Rattle.vg_drawers.proofs.HistoryLemmas.{after-alike, replay-alike}
use Rattle.vg_drawers.proofs.PaintLemmas.{count-alike, framed_at-alike}
use Rattle.vg_drawers.proofs.ShapeLemmas.{get-mapped}
use Rattle.vg_drawn.specs.declared.drawn.Drawn.{Drawn}
use Rattle.vg_drawn.specs.Drawn.{FramesHave, HasRoom, IsDrawn, IsOfFew}
use Rattle.vg_drawn.specs.Frames.{frame_word, image_word}
use Rattle.vg_drawn.specs.NewFramesWithin.{AreAdded, AreOfNow, set_of}
use Rattle.vg_drawn.specs.Words.{union_below, word_of, words}

-- ---- numbers and words

abbrev IsFew : ℕ → ℕ → Type 0
IsFew entry client = (1 ≤ client) × (client ≤ 33)

abbrev IsOfByte : ℕ → ℕ → Type 0
IsOfByte byte word = word_of byte ≡ word

few-by : (n : ℕ) (H : List Entry) → All IsOfFew H → AreBy IsFew n H
few-by n [] all = tt
few-by n (entry ∷ more) all = (all 0 entry (omega arith), few-by (n + 1) more (λ k d within. all (suc k) d (omega (arith, within))))

word-of-few : (client : ℕ) → 1 ≤ client → client ≤ 33 → word_of client ≡ 2 ^ (client - 1)
word-of-few client one few =
    let low : nat_le 1 client ≡ true = grind (arith, nat_tests, one) in
    let high : nat_le client 33 ≡ true = grind (arith, nat_tests, few) in
    λ i. cond (low i && high i) (2 ^ (client - 1)) 0

words-like : AreLike IsFew IsOfByte (λ byte word. Unit {0}) drawers words
words-like = record {
  blank = refl;
  opaque = refl;
  stored = λ entry client page byte by. word-of-few client by.0 by.1;
  fetched = λ entry byte word is. is;
  shown = λ entry byte word is. is;
  plain = λ byte word is. tt;
  blended = λ x y x1 y1 x2 y2 are first second. tt;
  solid = tt;
}

related : (setup : Setup) (H : List Entry) → All IsOfFew H → AreRelated IsOfByte (λ byte word. Unit {0}) (painting drawers setup H) (painting words setup H)
related setup H few = painting-related IsFew IsOfByte (λ byte word. Unit {0}) drawers words words-like setup H (few-by 0 H few)

-- Each byte of screens and images is the number of the client of the word at its place.
record WordsStand (z : State) (p : Painting ℕ ℕ) : Type 0 where
  screens : (scanout : ℕ) (screen : Screen) → slice_get z.scanouts.screens scanout ≡ Some (Some screen) → (k : ℕ) → word_of (slice_index screen.pixels k) ≡ p.screens scanout k
  images : (scanout : ℕ) (cursor : Cursor) → slice_get z.cursors scanout ≡ Some cursor → (k : ℕ) → word_of (slice_index cursor.image k) ≡ p.images scanout k

words-stand : (setup : Setup) (H : List Entry) → All IsOfFew H → IsPainted (replay setup (map by_client H)) (painting numbers setup (map by_client H))
    → WordsStand (replay setup (map by_client H)) (painting words setup H)
words-stand setup H few are =
    let same = painting-same setup H in
    let of = related setup H few in
    record {
      screens = λ n screen is k. ap word_of (are.screens n screen is k ∙ (λ i. (same i).screens n k)) ∙ of.screens n k;
      images = λ n cursor is k. ap word_of (are.images n cursor is k ∙ (λ i. (same i).images n k)) ∙ of.images n k;
    }

-- ---- the set of a frame

hidden-same : (cursor : Cursor) (width : ℕ) (screen one other : ℕ → ℕ) → cursor.visible ≡ false → blended_at words cursor width screen one ≡ blended_at words cursor width screen other
hidden-same cursor width screen one other hidden = λ i place. go place i
  where
    go : (place : ℕ) → blended_at words cursor width screen one place ≡ blended_at words cursor width screen other place
    go place = rw hidden refl

image-is : (z : State) (p : Painting ℕ ℕ) (n width : ℕ) → WordsStand z p
    → blended_at words (cursor_of z.cursors n) width (p.screens n) (image_word (cursor_of z.cursors n)) ≡ blended_at words (cursor_of z.cursors n) width (p.screens n) (p.images n)
image-is z p n width stand =
    let cursor = cursor_of z.cursors n in
    elim (cases_lt n (length z.cursors)) [
      | inl there ↦ λ i. blended_at words cursor width (p.screens n) (λ k. stand.images n cursor (slice_get-get_or z.cursors n unset there) k i)
      | inr past ↦ hidden-same cursor width (p.screens n) (image_word cursor) (p.images n) (ap (λ (c : Cursor). c.visible) (get_or_past z.cursors n unset past) ∙ unset-hidden)
    ]

set-is : (z : State) (p : Painting ℕ ℕ) (frame : Frame) (screen : Screen) → WordsStand z p → slice_get z.scanouts.screens frame.scanout ≡ Some (Some screen)
    → set_of z frame ≡ union_below (blended_at words (cursor_of z.cursors frame.scanout) frame.width (p.screens frame.scanout) (p.images frame.scanout)) (length screen.pixels)
set-is z p frame screen stand there =
    let n = frame.scanout in
    let cursor = cursor_of z.cursors n in
    let pixels : screen_pixels n z.scanouts ≡ screen.pixels = ap (λ found. pixels_of_screen (screen_of found)) there in
    ap (λ (all : List ℕ). union_below (frame_word cursor frame.width all) (length all)) pixels
    ∙ (λ i. union_below (blended_at words cursor frame.width (λ k. stand.screens n screen there k i) (image_word cursor)) (length screen.pixels))
    ∙ ap (λ (at : ℕ → ℕ). union_below at (length screen.pixels)) (image-is z p n frame.width stand)

-- ---- frames of two displays of one shape

frame-length : (one other : Frame) → frame_shape one ≡ frame_shape other → length one.pixels ≡ length other.pixels
frame-length one other same =
    sym (length-replicate (length one.pixels) 0) ∙ ap (λ (frame : Frame). length frame.pixels) same ∙ length-replicate (length other.pixels) 0

-- The same frame of another display.
record AlsoThere (z : State) (n : ℕ) (frame : Frame) : Type 0 where
  other : Frame
  there : slice_get z.scanouts.frames n ≡ Some other
  alike : frame_shape other ≡ frame_shape frame

also-there : (s z : State) (n : ℕ) (frame : Frame) → Alike s z → slice_get s.scanouts.frames n ≡ Some frame → AlsoThere z n frame
also-there s z n frame e is =
    go (slice_get z.scanouts.frames n) refl
    (sym (get-mapped frame_shape z.scanouts.frames n) ∙ ap (λ (t : State). slice_get t.scanouts.frames n) (sym e) ∙ get-mapped frame_shape s.scanouts.frames n ∙ ap (option_map frame_shape) is)
  where
    same : {x y : Frame} → ◌≡◌ {A = Option Frame} (Some x) (Some y) → x ≡ y
    same eq = cc

    go : (found : Option Frame) → slice_get z.scanouts.frames n ≡ found → option_map frame_shape found ≡ Some (frame_shape frame) → AlsoThere z n frame
    go (Some other) at alike = record { other = other; there = at; alike = same alike }
    go None at alike = cc

-- ---- frames of an entry

-- Each frame from number `from` on is of a screen, with the cursor over it.
abbrev AreMade : ℕ → ℕ → State → Type 0
AreMade m from z = (n : ℕ) (frame : Frame) → from ≤ n → slice_get z.scanouts.frames n ≡ Some frame → IsMade m z.cursors z.scanouts.screens frame

are-made : (m : ℕ) (old new : State) → Makes m old new → AreMade m (length old.scanouts.frames) new
are-made m old new makes n frame from is =
    ⊎_elim (λ first. let low : n < length old.scanouts.frames = first.0 in absurd (omega (arith, low, from)))
    (λ behind. makes.made behind.1 frame behind.2)
    (first-or-behind old.scanouts.frames makes.more n frame (ap (λ (fs : List Frame). slice_get fs n) (sym makes.frames) ∙ is))

of-now : (m from : ℕ) (z : State) → AreMade m from z → AreOfNow z from
of-now m from z are n frame at is =
    let made = are n frame at is in
    record { screen = made.screen; there = made.there; width = made.width; height = made.height }

-- The frames of a display have these sets; those that it has more are made now.
record FramesGo (s s' z z' : State) (P p : Painting ℕ ℕ) (sets sets' : List ℕ) : Type 0 where
  m : ℕ
  m' : ℕ
  makes : Makes m s s'
  now : AreMade m' (length s.scanouts.frames) z'
  alike : Alike s' z'
  stand : WordsStand z' p
  kept : p.frames ≡ P.frames
  were : FramesHave s.scanouts.frames sets P.frames
  added : AreAdded z' sets sets'

frames-over : (s s' z z' : State) (P p : Painting ℕ ℕ) (sets sets' : List ℕ) → FramesGo s s' z z' P p sets sets' → FramesHave s'.scanouts.frames sets' (framed words s s' p).frames
frames-over s s' z z' P p sets sets' go = (go.added.count ∙ sym (count-alike words s' z' go.alike), each)
  where
    many : length sets ≡ length s.scanouts.frames
    many = go.were.0

    Q : ℕ → ℕ → ℕ
    Q = (framed words s s' p).frames

    old : (n : ℕ) (frame : Frame) → n < length s.scanouts.frames → slice_get s.scanouts.frames n ≡ Some frame → slice_index sets' n ≡ union_below (Q n) (length frame.pixels)
    old n frame within is =
        let below : n < length sets = omega (arith, within, many) in
        sym (get_or-take (length sets) sets' n 0 below)
        ∙ ap (λ (all : List ℕ). slice_index all n) go.added.before
        ∙ go.were.1 n frame is
        ∙ ap (λ (at : ℕ → ℕ → ℕ). union_below (at n) (length frame.pixels)) (sym go.kept)
        ∙ ap (λ b. union_below (cond b (p.frames n) (framed_at words s' (slice_get s'.scanouts.frames n) p (p.frames n))) (length frame.pixels)) (sym (lt-ltb n (length s.scanouts.frames) within))

    new : (n : ℕ) (frame : Frame) → length s.scanouts.frames ≤ n → slice_get s'.scanouts.frames n ≡ Some frame → slice_index sets' n ≡ union_below (Q n) (length frame.pixels)
    new n frame from is =
        let also = also-there s' z' n frame go.alike is in
        let made = go.now n also.other from also.there in
        let k = also.other.scanout in
        let at = blended_at words (cursor_of z'.cursors k) also.other.width (p.screens k) (p.images k) in
        let long : length made.screen.pixels ≡ length frame.pixels =
        sym (length-blended (cursor_of z'.cursors k) made.screen.binding.rect.width made.screen.pixels) ∙ ap (λ (all : List ℕ). length all) (sym made.pixels) ∙ frame-length also.other frame also.alike
        in
        let row : framed_at words s' (slice_get s'.scanouts.frames n) p (p.frames n) ≡ at =
        framed_at-alike words s' z' n p (p.frames n) go.alike ∙ ap (λ found. framed_at words z' found p (p.frames n)) also.there
        in
        go.added.each n also.other (omega (arith, from, many)) also.there
        ∙ set-is z' p also.other made.screen go.stand made.there
        ∙ ap (union_below at) long
        ∙ ap (λ (f : ℕ → ℕ). union_below f (length frame.pixels)) (sym row)
        ∙ ap (λ b. union_below (cond b (p.frames n) (framed_at words s' (slice_get s'.scanouts.frames n) p (p.frames n))) (length frame.pixels)) (sym (le-ltb n (length s.scanouts.frames) from))

    each : (n : ℕ) (frame : Frame) → slice_get s'.scanouts.frames n ≡ Some frame → slice_index sets' n ≡ union_below (Q n) (length frame.pixels)
    each n frame is =
        ⊎_elim (λ first. old n frame first.0 first.1) (λ behind. new n frame behind.0 is)
        (first-or-behind s.scanouts.frames go.makes.more n frame (ap (λ (fs : List Frame). slice_get fs n) (sym go.makes.frames) ∙ is))

-- ---- one entry more

painting-over : (setup : Setup) (H : List Entry) (entry : Entry) → painting words setup (H ++ entry ∷ []) ≡ painted words (replay setup H) entry (painting words setup H)
painting-over setup H entry = painting-more words H entry (start setup) (fresh words)

-- The display has done the entry, and what is known of displays.
pub record HasStepped (entry : Entry) (old new : Drawn) : Type 0 where
  pub few : IsOfFew entry
  pub display : new.display ≡ after old.display (by_client entry)
  pub added : AreAdded new.display old.frames.items new.frames.items
  pub painted : (setup : Setup) (H : List Entry) → IsPainted (replay setup H) (painting numbers setup H)

pub goes-over : (entry : Entry) (old new : Drawn) → HasStepped entry old new → (setup : Setup) (H : List Entry) → IsDrawn setup H old → IsDrawn setup (H ++ entry ∷ []) new
goes-over entry old new stepped setup H is = record {
  setup_is = is.setup_is;
  few = few;
  display = display;
  frames =
      subst (λ (t : State). FramesHave t.scanouts.frames new.frames.items (painting words setup (H ++ entry ∷ [])).frames) (sym (replay-more setup H entry))
      (subst (λ (q : Painting ℕ ℕ). FramesHave s'.scanouts.frames new.frames.items q.frames) (sym (painting-over setup H entry)) (frames-over s s' z new.display P p old.frames.items new.frames.items go));
}
  where
    s : State
    s = replay setup H

    s' : State
    s' = after s entry

    z : State
    z = replay setup (map by_client H)

    P : Painting ℕ ℕ
    P = painting words setup H

    p : Painting ℕ ℕ
    p = moved words (counted s) entry P

    few : All IsOfFew (H ++ entry ∷ [])
    few = All-push IsOfFew H entry is.few stepped.few

    more : map by_client (H ++ entry ∷ []) ≡ map by_client H ++ by_client entry ∷ []
    more = map-append by_client H (entry ∷ [])

    display : new.display ≡ replay setup (map by_client (H ++ entry ∷ []))
    display = stepped.display ∙ ap (λ t. after t (by_client entry)) is.display ∙ sym (replay-more setup (map by_client H) (by_client entry)) ∙ ap (replay setup) (sym more)

    stepped' : new.display ≡ after z (by_client entry)
    stepped' = stepped.display ∙ ap (λ t. after t (by_client entry)) is.display

    made : AreMade (z.entries + 1) (length z.scanouts.frames) new.display
    made = subst (AreMade (z.entries + 1) (length z.scanouts.frames)) (sym stepped') (are-made (z.entries + 1) z (after z (by_client entry)) (entry-makes z (by_client entry)))

    all : WordsStand new.display (painting words setup (H ++ entry ∷ []))
    all =
        subst (λ t. WordsStand t (painting words setup (H ++ entry ∷ []))) (sym display)
        (words-stand setup (H ++ entry ∷ []) few (stepped.painted setup (map by_client (H ++ entry ∷ []))))

    stand : WordsStand new.display (framed words s s' p)
    stand = subst (WordsStand new.display) (painting-over setup H entry) all

    go : FramesGo s s' z new.display P p old.frames.items new.frames.items
    go = record {
      m = s.entries + 1;
      m' = z.entries + 1;
      makes = entry-makes s entry;
      now = subst (λ n. AreMade (z.entries + 1) n new.display) (sym (count-alike words s z (replay-alike setup H))) made;
      alike = subst (Alike s') (sym stepped') (after-alike s z entry (replay-alike setup H));
      stand = record { screens = stand.screens; images = stand.images };
      kept = moved-frames words (counted s) entry P;
      were = is.frames;
      added = stepped.added;
    }

-- ---- before the sets are added

-- What is asked there of the display, and of how many sets there are.
pub record MayAdd (display : State) (sets : List ℕ) : Type 0 where
  pub cursors : length display.scanouts.screens ≤ length display.cursors
  pub frames : length sets ≤ length display.scanouts.frames
  pub made : AreOfNow display (length sets)

pub may-add : (entry : Entry) (old : Drawn) (display : State) → ((setup : Setup) (H : List Entry) → IsSetup setup → IsReplayed setup (replay setup H)) → HasRoom old → display ≡ after old.display (by_client entry)
    → MayAdd display old.frames.items
may-add entry old display replayed room stepped = subst (λ t. MayAdd t old.frames.items) (sym at) (record {
  cursors = omega (arith, consistent.screens, consistent.cursors);
  frames = omega (arith, many, ap (λ (fs : List Frame). length fs) makes.frames, length-append z.scanouts.frames makes.more);
  made = of-now (z.entries + 1) (length old.frames.items) (after z (by_client entry)) (subst (λ n. AreMade (z.entries + 1) n (after z (by_client entry))) (sym many) (are-made (z.entries + 1) z (after z (by_client entry)) makes));
})
  where
    setup : Setup
    setup = room.setup

    H : List Entry
    H = room.done

    z : State
    z = replay setup (map by_client H)

    at : display ≡ after z (by_client entry)
    at = stepped ∙ ap (λ t. after t (by_client entry)) room.is.display

    makes : Makes (z.entries + 1) z (after z (by_client entry))
    makes = entry-makes z (by_client entry)

    many : length old.frames.items ≡ length z.scanouts.frames
    many = room.is.frames.0 ∙ count-alike words (replay setup H) z (replay-alike setup H)

    consistent : IsConsistent (after z (by_client entry))
    consistent = subst IsConsistent (replay-more setup (map by_client H) (by_client entry)) (replayed setup (map by_client H ++ by_client entry ∷ []) room.is.setup_is).consistent

-- the display has counted the entries
pub has-room : (old : Drawn) → HasRoom old → old.display.entries < 2 ^ 31 - 1
has-room old room =
    let counted = count_replay machine.display act-counts request-counts (start room.setup) (map by_client room.done) in
    let same = ap (λ (t : State). t.entries) room.is.display in
    let long = length-map room.done by_client in
    let few = room.room in
    omega (arith, counted, same, long, few)
