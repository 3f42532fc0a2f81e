-- Lists whose elements are changed one after another, and the screens and frames of a flush.
use Rattle.std.proofs.Common.{◌≡◌, ℕ, zero, suc, ◌+◌, ◌*◌, ◌<◌, ◌≤◌, List, [], ◌∷◌, ◌++◌, length, map, take, drop, get_or, slice_set, refl, sym, ap, ◌∙◌, arith, add-one, append_assoc, drop-cons, Option, Some, None, Bool, true, false, cond}
use Rattle.std.proofs.lemmas.List.{append-nil, drop_all, take_all}
use Rattle.std.specs.List.{All}
use Rattle.std.proofs.lemmas.List.{length-map}
use Rattle.std.proofs.lemmas.List.Sums.{sum_by-append}
use Rattle.vg_places.proofs.Filled.{length-filled}
use Rattle.std.proofs.lemmas.List.Elements.{All-get_or, All-map}
use Rattle.vg_formats.specs.declared.rect.Rect.{Rect}
use Rattle.vg_scanout.specs.Scanout.{Screen}
use Rattle.vg_scanout.specs.declared.scanout.Frame.{Frame}
use Rattle.vg_scanout.specs.Scanout.{unbound_screen, is_bound_to, is_flushed, flushed_screen, flushed_pixels, area_of, after_flush, frame_bytes, new_frame, new_frames, new_frame_bytes, new_bytes, flush, ScanoutState}
use Rattle.std.proofs.lemmas.Bool.Decides.{nat_tests}
use Rattle.std.specs.Prelude.{Result, Ok, Err, nat_lt}
use Rattle.vg_laws.proofs.Numbers.{test-below}
use Rattle.vg_formats.specs.Pixels.{common_of}
use Rattle.vg_scanout.specs.Fits.{IsScreen}
use Rattle.vg_cursor.specs.declared.cursor.Cursor.{Cursor}
use Rattle.vg_cursor.specs.Blended.{blended, blended_place}
use Rattle.vg_cursor.specs.Cursor.{cursor_of}
use Rattle.vg_places.proofs.Places.{length-tabulate}
use Rattle.vg_places.specs.Places.{tabulate}

-- the first i elements were changed, and the next is changed now
front-more : {X : Type 0} (f : X → X) (xs : List X) (i : ℕ) (d : X) → i < length xs
    → slice_set (map f (take i xs) ++ drop i xs) i (f (get_or (map f (take i xs) ++ drop i xs) i d)) ≡ map f (take (suc i) xs) ++ drop (suc i) xs
front-more f [] i d within = absurd (omega arith)
front-more f (x ∷ xs) zero d within = refl
front-more f (x ∷ xs) (suc i) d within = ap (λ ys. f x ∷ ys) (front-more f xs i d (omega arith))

pub mapped-more : {X : Type 0} (f : X → X) (xs now : List X) (i : ℕ) (d : X) → i < length xs → now ≡ map f (take i xs) ++ drop i xs
    → slice_set now i (f (get_or now i d)) ≡ map f (take (i + 1) xs) ++ drop (i + 1) xs
mapped-more f xs now i d within so_far = rw add-one (ap (λ ys. slice_set ys i (f (get_or ys i d))) so_far ∙ front-more f xs i d within)

-- all elements were changed
pub mapped-all : {X : Type 0} (f : X → X) (xs : List X) (i : ℕ) → length xs ≤ i → map f (take i xs) ++ drop i xs ≡ map f xs
mapped-all f [] zero all = refl
mapped-all f [] (suc i) all = refl
mapped-all f (x ∷ xs) zero all = absurd (omega arith)
mapped-all f (x ∷ xs) (suc i) all = ap (λ ys. f x ∷ ys) (mapped-all f xs i (omega arith))

-- the element that is changed next is still as it was
front-next : {X : Type 0} (f : X → X) (xs : List X) (i : ℕ) (d : X) → i < length xs → get_or (map f (take i xs) ++ drop i xs) i d ≡ get_or xs i d
front-next f [] i d within = absurd (omega arith)
front-next f (x ∷ xs) zero d within = refl
front-next f (x ∷ xs) (suc i) d within = front-next f xs i d (omega arith)

pub mapped-next : {X : Type 0} (f : X → X) (xs now : List X) (i : ℕ) (d : X) → i < length xs → now ≡ map f (take i xs) ++ drop i xs → get_or now i d ≡ get_or xs i d
mapped-next f xs now i d within so_far = ap (λ ys. get_or ys i d) so_far ∙ front-next f xs i d within

pub mapped-holds : {X : Type 0} (P : X → Type 0) (f : X → X) (xs now : List X) (i : ℕ) (d : X) → i < length xs → now ≡ map f (take i xs) ++ drop i xs → All P xs → P (get_or now i d)
mapped-holds P f xs now i d within so_far all = rw (mapped-next f xs now i d within so_far) (All-get_or P xs i d within all)

-- the frames of the screens from number i on are that of screen i and those of the screens after it
pub new_frames-next : (entry id : ℕ) (rect : Rect) (surface : List ℕ) (cursors : List Cursor) (n i : ℕ) (screen : Option Screen) (screens : List (Option Screen)) → i < length screens → screen ≡ get_or screens i screen
    → new_frames entry id rect surface cursors n (drop i screens) ≡ new_frame entry id rect surface cursors n screen ++ new_frames entry id rect surface cursors (n + 1) (drop (i + 1) screens)
unfolding new_frames
new_frames-next entry id rect surface cursors n i screen screens within is =
    let next : drop i screens ≡ screen ∷ drop (suc i) screens = drop-cons screens i screen within ∙ ap (λ s. s ∷ drop (suc i) screens) (sym is) in
    let one : suc i ≡ i + 1 = omega arith in
    let counted : drop (suc i) screens ≡ drop (i + 1) screens = ap (λ m. drop m screens) one in
    ap (new_frames entry id rect surface cursors n) (next ∙ ap (λ more. screen ∷ more) counted)

-- the frames so far, one more of them or none, and those to come
pub frames-more : (frames more front rest all : List Frame) → more ≡ frames ++ front → frames ++ (front ++ rest) ≡ all → more ++ rest ≡ all
frames-more frames more front rest all so_far total = ap (λ fs. fs ++ rest) so_far ∙ append_assoc frames front rest ∙ total

pub new_frames-end : (entry id : ℕ) (rect : Rect) (surface : List ℕ) (cursors : List Cursor) (n i : ℕ) (screens : List (Option Screen)) (frames all : List Frame) → length screens ≤ i
    → frames ++ new_frames entry id rect surface cursors n (drop i screens) ≡ all → frames ≡ all
unfolding new_frames
new_frames-end entry id rect surface cursors n i screens frames all past total =
    let none : drop i screens ≡ [] = drop_all i screens past in
    sym (append-nil frames) ∙ (rw none at total)

chosen-screen : (b : Bool) (x y : Option Screen) → IsScreen x → IsScreen y → IsScreen (cond b x y)
chosen-screen true x y here there = here
chosen-screen false x y here there = there

pub unbound-screens : (id : ℕ) (screens : List (Option Screen)) → All IsScreen screens → All IsScreen (map (unbound_screen id) screens)
unbound-screens id screens all = All-map IsScreen (unbound_screen id) screens (λ k d within.
    let screen = get_or screens k d in
    chosen-screen (is_bound_to id screen) None screen tt (all k d within))

length-flushed : (rect : Rect) (surface : List ℕ) (screen : Screen) → length (flushed_pixels screen.binding rect surface screen.pixels) ≡ length screen.pixels
length-flushed rect surface screen =
    length-filled (area_of screen.binding.rect (common_of screen.binding.rect rect)) (4 * screen.binding.rect.width) _ screen.pixels

flushed-is : (rect : Rect) (surface : List ℕ) (screen : Option Screen) → IsScreen screen → IsScreen (flushed_screen rect surface screen)
flushed-is rect surface None here = here
flushed-is rect surface (Some screen) here =
    (length-flushed rect surface screen ∙ here.0, omega (arith, length-flushed rect surface screen, here.1))

pub flushed-screens : (id : ℕ) (rect : Rect) (surface : List ℕ) (screens : List (Option Screen)) → All IsScreen screens → All IsScreen (map (after_flush id rect surface) screens)
flushed-screens id rect surface screens all = All-map IsScreen (after_flush id rect surface) screens (λ k d within.
    let screen = get_or screens k d in
    chosen-screen (is_flushed id rect screen) (flushed_screen rect surface screen) screen (flushed-is rect surface screen (all k d within)) (all k d within))

length-chosen : {X : Type 0} (b : Bool) (xs ys : List X) → length xs ≡ length ys → length (cond b xs ys) ≡ length ys
length-chosen true xs ys same = same
length-chosen false xs ys same = refl

-- a cursor leaves a screen its size
pub length-blended : (cursor : Cursor) (width : ℕ) (pixels : List ℕ) → length (blended cursor width pixels) ≡ length pixels
unfolding blended
length-blended cursor width pixels =
    length-chosen cursor.visible (tabulate (length pixels) (blended_place cursor width pixels)) pixels (length-tabulate (blended_place cursor width pixels) (length pixels))

bytes-chosen : (b : Bool) (frame : Frame) (n : ℕ) → length frame.pixels ≡ n → frame_bytes (cond b (frame ∷ []) []) ≡ cond b n 0
bytes-chosen true frame n long = omega (arith, long)
bytes-chosen false frame n long = refl

bytes-of-none : (b : Bool) → frame_bytes (cond b [] []) ≡ 0
bytes-of-none true = refl
bytes-of-none false = refl

bytes-of-frame : (entry id : ℕ) (rect : Rect) (surface : List ℕ) (cursors : List Cursor) (n : ℕ) (screen : Option Screen) → frame_bytes (new_frame entry id rect surface cursors n screen) ≡ new_frame_bytes id rect screen
bytes-of-frame entry id rect surface cursors n None = bytes-of-none (is_flushed id rect None)
bytes-of-frame entry id rect surface cursors n (Some screen) = bytes-chosen (is_flushed id rect (Some screen)) _ (length screen.pixels)
    (length-blended (cursor_of cursors n) screen.binding.rect.width (flushed_pixels screen.binding rect surface screen.pixels) ∙ length-flushed rect surface screen)

bytes-of-frames : (entry id : ℕ) (rect : Rect) (surface : List ℕ) (cursors : List Cursor) (n : ℕ) (screens : List (Option Screen)) → frame_bytes (new_frames entry id rect surface cursors n screens) ≡ new_bytes id rect screens
unfolding new_frames
bytes-of-frames entry id rect surface cursors n [] = refl
bytes-of-frames entry id rect surface cursors n (screen ∷ more) =
    sum_by-append (λ (frame : Frame). length frame.pixels) (new_frame entry id rect surface cursors n screen) (new_frames entry id rect surface cursors (n + 1) more)
    ∙ (let first = bytes-of-frame entry id rect surface cursors n screen in
    let others = bytes-of-frames entry id rect surface cursors (n + 1) more in
    let all = sum_by-append (new_frame_bytes id rect) (screen ∷ []) more in
    omega (arith, first, others, all))

-- the bytes of all frames after a flush
pub bytes-flushed : (entry id : ℕ) (rect : Rect) (surface : List ℕ) (cursors : List Cursor) (screens : List (Option Screen)) (frames : List Frame)
    → frame_bytes (frames ++ new_frames entry id rect surface cursors 0 screens) ≡ frame_bytes frames + new_bytes id rect screens
bytes-flushed entry id rect surface cursors screens frames =
    let others = bytes-of-frames entry id rect surface cursors 0 screens in
    omega (arith, sum_by-append (λ (frame : Frame). length frame.pixels) frames (new_frames entry id rect surface cursors 0 screens), others)

-- a whole list was lent, each of its elements changed, and the list written back
pub written-back : {X : Type 0} (f : X → X) (old lent now : List X) (n : ℕ) → lent ≡ old → length lent ≡ n → now ≡ map f lent → take n (now ++ drop (length now) old) ≡ map f old
written-back f old lent now n same size changed =
    let long : length now ≡ length old = ap length changed ∙ length-map lent f ∙ ap length same in
    let rest : drop (length now) old ≡ [] = drop_all (length now) old (omega arith) in
    ap (λ ys. take n (now ++ ys)) rest ∙ ap (take n) (append-nil now) ∙ take_all n now (omega (arith, long, ap length same)) ∙ changed ∙ ap (map f) same

no-more-than : (a b : ℕ) → b ≤ a → nat_lt a b ≡ false
no-more-than a b within = grind (arith, nat_tests)

pub flush-refused : (entry id : ℕ) (rect : Rect) (surface : List ℕ) (cursors : List Cursor) (state : ScanoutState) → 268435456 < frame_bytes state.frames + new_bytes id rect state.screens
    → ◌≡◌ {A = ScanoutState × Result Unit ℕ} (state, Err 0x1201) (flush entry id rect surface cursors state)
unfolding flush
flush-refused entry id rect surface cursors state many =
    let bytes = bytes-flushed entry id rect surface cursors state.screens state.frames in
    let test : nat_lt 268435456 (frame_bytes (state.frames ++ new_frames entry id rect surface cursors 0 state.screens)) ≡ true = test-below _ _ (omega (arith, bytes, many)) in
    rw test refl

pub flush-done : (entry id : ℕ) (rect : Rect) (surface : List ℕ) (cursors : List Cursor) (state : ScanoutState) (screens : List (Option Screen)) (frames : List Frame)
    → frame_bytes state.frames + new_bytes id rect state.screens ≤ 268435456 → screens ≡ map (after_flush id rect surface) state.screens
    → frames ≡ state.frames ++ new_frames entry id rect surface cursors 0 state.screens
    → ◌≡◌ {A = ScanoutState × Result Unit ℕ} (record { screens = screens; frames = frames }, Ok tt) (flush entry id rect surface cursors state)
unfolding flush
flush-done entry id rect surface cursors state screens frames few shown made =
    let bytes = bytes-flushed entry id rect surface cursors state.screens state.frames in
    let test : nat_lt 268435456 (frame_bytes (state.frames ++ new_frames entry id rect surface cursors 0 state.screens)) ≡ false = no-more-than _ _ (omega (arith, bytes, few)) in
    rw (test, shown, made) refl
