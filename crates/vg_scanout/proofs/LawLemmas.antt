-- Each frame is of its scanout's screen and cursor.
use Rattle.std.proofs.Common.{◌≡◌, ◌<◌, ℕ, zero, suc, ◌+◌, ◌*◌, Bool, true, false, cond, pos, ◌+ℤ◌, ◌-ℤ◌, List, [], ◌∷◌, ◌++◌, length, map, Option, Some, None, refl, ap, ◌∙◌, subst, arith}
use Rattle.std.specs.Prelude.{slice_get, slice_index}
use Rattle.std.specs.List.{All}
use Rattle.std.proofs.lemmas.List.Elements.{All-tail}
use Rattle.std.proofs.lemmas.Option.{get_or_from_slice_get, slice_get_within}
use Rattle.vg_cursor.specs.declared.cursor.Cursor.{Cursor}
use Rattle.vg_cursor.specs.Blended.{blended, over}
use Rattle.vg_cursor.specs.Cursor.{cursor_of}
use Rattle.vg_formats.specs.declared.rect.Rect.{Rect}
use Rattle.vg_scanout.specs.declared.scanout.Frame.{Frame}
use Rattle.vg_scanout.specs.Fits.{IsScreen}
use Rattle.vg_scanout.specs.FrameOf.{FrameOf, IsFrame, MakesFrames}
use Rattle.vg_scanout.specs.Scanout.{ScanoutState, Screen, after_flush, flushed, flushed_screen, frame_of, is_flushed, new_frame, new_frames, screen_at, screen_of, snapped}
use Rattle.vg_scanout.proofs.ScreenLemmas.{flushed-screens, length-blended}

-- what vg_cursor's law says of a blended screen
pub record CoverEach : Type 0 where
  pub covered : (cursor : Cursor) (width height : ℕ) (old : List ℕ) (i j x y c : ℕ)
      → cursor.visible ≡ true → length old ≡ 4 * width * height → x < width → y < height → i < 64 → j < 64 → c < 4
      → pos x ≡ cursor.x -ℤ pos cursor.hot_x +ℤ pos i → pos y ≡ cursor.y -ℤ pos cursor.hot_y +ℤ pos j
      → slice_get (blended cursor width old) (4 * (width * y + x) + c) ≡ Some (over cursor.image i j c (slice_index old (4 * (width * y + x) + c)))
  pub apart : (cursor : Cursor) (width height : ℕ) (old : List ℕ) (x y c : ℕ)
      → length old ≡ 4 * width * height → x < width → y < height → c < 4
      → ((i j : ℕ) → i < 64 → j < 64 → pos x ≡ cursor.x -ℤ pos cursor.hot_x +ℤ pos i → pos y ≡ cursor.y -ℤ pos cursor.hot_y +ℤ pos j → ⊥)
      → slice_get (blended cursor width old) (4 * (width * y + x) + c) ≡ slice_get old (4 * (width * y + x) + c)
  pub hidden : (cursor : Cursor) (width : ℕ) (old : List ℕ) → cursor.visible ≡ false → blended cursor width old ≡ old

-- the frame of a screen
made : ℕ → List Cursor → ℕ → Screen → Frame
made entry cursors scanout screen = record {
  scanout = scanout;
  width = screen.binding.rect.width;
  height = screen.binding.rect.height;
  entry = entry;
  pixels = blended (cursor_of cursors scanout) screen.binding.rect.width screen.pixels;
}

frame-is : CoverEach → (entry : ℕ) (cursors : List Cursor) (scanout : ℕ) (screen : Screen) → IsScreen (Some screen)
    → FrameOf entry (cursor_of cursors scanout) screen (made entry cursors scanout screen)
unfolding made
frame-is law entry cursors scanout screen is =
    let cursor = cursor_of cursors scanout in
    let rect = screen.binding.rect in
    record {
      entry_is = refl;
      width = refl;
      height = refl;
      size = length-blended cursor rect.width screen.pixels ∙ is.0;
      covered = λ shown i j x y c across down four over_it. law.covered cursor rect.width rect.height screen.pixels i j x y c shown is.0 across down over_it.0 over_it.1 four over_it.2 over_it.3;
      apart = λ x y c across down four none. law.apart cursor rect.width rect.height screen.pixels x y c is.0 across down four (λ i j left top at_x at_y. none i j (left, top, at_x, at_y));
      hidden = law.hidden cursor rect.width screen.pixels;
    }

-- the one frame that a list of one has
of-one : (entry : ℕ) (cursors : List Cursor) (screens : List (Option Screen)) (k : ℕ) (one frame : Frame) → IsFrame entry cursors screens one → slice_get (one ∷ []) k ≡ Some frame → IsFrame entry cursors screens frame
of-one entry cursors screens zero one frame is there = subst (IsFrame entry cursors screens) (same there) is
  where
    same : {x y : Frame} → ◌≡◌ {A = Option Frame} (Some x) (Some y) → x ≡ y
    same eq = cc
of-one entry cursors screens (suc k) one frame is there = cc

-- those of a scanout whose screen is this
frames-of : CoverEach → (entry : ℕ) (cursors : List Cursor) (screens : List (Option Screen)) (scanout : ℕ) (screen : Option Screen) → IsScreen screen → slice_get screens scanout ≡ Some screen
    → (k : ℕ) (frame : Frame) → slice_get (frame_of entry cursors scanout screen) k ≡ Some frame → IsFrame entry cursors screens frame
unfolding made
frames-of law entry cursors screens scanout None is at k frame there = cc
frames-of law entry cursors screens scanout (Some screen) is at k frame there =
    of-one entry cursors screens k (made entry cursors scanout screen) frame (screen, at, frame-is law entry cursors scanout screen is) there

-- a place of two lists one after the other
in-either : {X : Type 0} (P : X → Type 0) (xs ys : List X) → ((k : ℕ) (x : X) → slice_get xs k ≡ Some x → P x) → ((k : ℕ) (x : X) → slice_get ys k ≡ Some x → P x)
    → (k : ℕ) (x : X) → slice_get (xs ++ ys) k ≡ Some x → P x
in-either P [] ys first second k x at = second k x at
in-either P (z ∷ xs) ys first second zero x at = first 0 x at
in-either P (z ∷ xs) ys first second (suc k) x at = in-either P xs ys (λ n. first (suc n)) second k x at

pub chosen-frames : (P : Frame → Type 0) (b : Bool) (xs : List Frame) → (b ≡ true → (k : ℕ) (x : Frame) → slice_get xs k ≡ Some x → P x) → (k : ℕ) (x : Frame) → slice_get (cond b xs []) k ≡ Some x → P x
chosen-frames P true xs each k x at = each refl k x at
chosen-frames P false xs each k x at = cc

pub flushed-at : (id : ℕ) (rect : Rect) (surface : List ℕ) (screen : Option Screen) (screens : List (Option Screen)) (n : ℕ) → slice_get screens n ≡ Some (after_flush id rect surface screen)
    → is_flushed id rect screen ≡ true → slice_get screens n ≡ Some (flushed_screen rect surface screen)
flushed-at id rect surface screen screens n at test =
    at ∙ ap (λ (b : Bool). Some (cond b (flushed_screen rect surface screen) screen)) test

-- those of the screens from number n on, of which the list after the flush is all
frames-from : CoverEach → (entry id : ℕ) (rect : Rect) (surface : List ℕ) (cursors : List Cursor) (all : List (Option Screen)) (n : ℕ) (screens : List (Option Screen))
    → All IsScreen (map (after_flush id rect surface) screens)
    → ((k : ℕ) (screen : Option Screen) → slice_get (map (after_flush id rect surface) screens) k ≡ Some screen → slice_get all (n + k) ≡ Some screen)
    → (k : ℕ) (frame : Frame) → slice_get (new_frames entry id rect surface cursors n screens) k ≡ Some frame → IsFrame entry cursors all frame
unfolding new_frames
frames-from law entry id rect surface cursors all n [] are there = λ k frame at. cc
frames-from law entry id rect surface cursors all n (screen ∷ screens) are there =
    let after = after_flush id rect surface screen in
    let rest = map (after_flush id rect surface) screens in
    let here : slice_get all n ≡ Some after = subst (λ (m : ℕ). slice_get all m ≡ Some after) (omega arith) (there 0 after refl) in
    let is : IsScreen after = are 0 after (omega arith) in
    in-either (IsFrame entry cursors all) (new_frame entry id rect surface cursors n screen) (new_frames entry id rect surface cursors (n + 1) screens)
    (chosen-frames (IsFrame entry cursors all) (is_flushed id rect screen) (frame_of entry cursors n (flushed_screen rect surface screen))
    (λ test. frames-of law entry cursors all n (flushed_screen rect surface screen)
    (subst IsScreen (ap (λ (b : Bool). cond b (flushed_screen rect surface screen) screen) test) is)
    (flushed-at id rect surface screen all n here test)))
    (frames-from law entry id rect surface cursors all (n + 1) screens (All-tail IsScreen after rest are)
    (λ k s at. subst (λ (m : ℕ). slice_get all m ≡ Some s) (omega arith) (there (suc k) s at)))

pub makes-flushed : CoverEach → (entry id : ℕ) (rect : Rect) (surface : List ℕ) (cursors : List Cursor) (state : ScanoutState) → All IsScreen state.screens
    → MakesFrames entry cursors state (flushed entry id rect surface cursors state)
makes-flushed law entry id rect surface cursors state are = (
  new_frames entry id rect surface cursors 0 state.screens,
  refl,
  frames-from law entry id rect surface cursors (map (after_flush id rect surface) state.screens) 0 state.screens (flushed-screens id rect surface state.screens are)
      (λ k screen at. subst (λ (m : ℕ). slice_get (map (after_flush id rect surface) state.screens) m ≡ Some screen) (omega arith) at),
)

snapped-of : CoverEach → (entry : ℕ) (cursors : List Cursor) (scanout : ℕ) (screens : List (Option Screen)) → All IsScreen screens → (found : Option (Option Screen)) → slice_get screens scanout ≡ found
    → (k : ℕ) (frame : Frame) → slice_get (frame_of entry cursors scanout (screen_of found)) k ≡ Some frame → IsFrame entry cursors screens frame
snapped-of law entry cursors scanout screens are None is k frame at = cc
snapped-of law entry cursors scanout screens are (Some screen) is k frame at =
    frames-of law entry cursors screens scanout screen (holds-at screens scanout screen are is) is k frame at
  where
    holds-at : (xs : List (Option Screen)) (n : ℕ) (x : Option Screen) → All IsScreen xs → slice_get xs n ≡ Some x → IsScreen x
    holds-at xs n x all found = subst IsScreen (get_or_from_slice_get xs n x None found) (all n None (slice_get_within xs n x found))

pub makes-snapped : CoverEach → (entry scanout : ℕ) (cursors : List Cursor) (state : ScanoutState) → All IsScreen state.screens → MakesFrames entry cursors state (snapped entry cursors scanout state)
makes-snapped law entry scanout cursors state are =
    (frame_of entry cursors scanout (screen_at scanout state), refl, snapped-of law entry cursors scanout state.screens are (slice_get state.screens scanout) refl)
