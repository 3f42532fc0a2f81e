-- A flush makes a frame of each scanout that it touches, and of no other.
use Rattle.std.proofs.Common.{◌≡◌, ◌<◌, ℕ, zero, suc, ◌+◌, Bool, true, false, cond, List, [], ◌∷◌, ◌++◌, Option, Some, None, refl, subst, arith}
use Rattle.std.specs.Prelude.{slice_get, max}
use Rattle.std.proofs.lemmas.Bool.Decides.{nat_tests}
use Rattle.vg_cursor.specs.declared.cursor.Cursor.{Cursor}
use Rattle.vg_formats.specs.declared.rect.Rect.{Rect}
use Rattle.vg_formats.specs.Pixels.{Covers}
use Rattle.vg_scanout.specs.declared.scanout.Frame.{Frame}
use Rattle.vg_scanout.specs.Scanout.{ScanoutState, Screen, flushed, flushed_screen, frame_of, is_flushed, new_frames}
use Rattle.vg_scanout.specs.Touched.{AreOfTouched, IsTouched, MakesTouched, Touches}

module _ (id : ℕ) (rect : Rect) where
  touched-by : (screen : Screen) → is_flushed id rect (Some screen) ≡ true → Touches id rect screen
  touched-by screen is =
      let own = screen.binding.rect in
      record {
        bound = grind (arith, nat_tests);
        x = max own.x rect.x;
        y = max own.y rect.y;
        own = (grind (arith, nat_tests), grind (arith, nat_tests), grind (arith, nat_tests), grind (arith, nat_tests));
        flushed = (grind (arith, nat_tests), grind (arith, nat_tests), grind (arith, nat_tests), grind (arith, nat_tests));
      }

  flushed-by : (screen : Screen) → Touches id rect screen → is_flushed id rect (Some screen) ≡ true
  flushed-by screen is =
      let bound : screen.binding.resource ≡ id = is.bound in
      let own : Covers screen.binding.rect is.x is.y = is.own in
      let flushed : Covers rect is.x is.y = is.flushed in
      grind (arith, nat_tests)

  -- the frame is of a scanout that is touched, of those from number n on
  IsFrom : ℕ → List (Option Screen) → Frame → Type 0
  IsFrom n screens frame = (m : ℕ) × (frame.scanout ≡ n + m) × IsTouched id rect screens m

  HasFrame : List Frame → ℕ → Type 0
  HasFrame frames scanout = (k : ℕ) × (frame : Frame) × (slice_get frames k ≡ Some frame) × (frame.scanout ≡ scanout)

  -- the frames are those of the scanouts from number n on that are touched
  record AreFrom (n : ℕ) (screens : List (Option Screen)) (frames : List Frame) : Type 0 where
    touched : (k : ℕ) (frame : Frame) → slice_get frames k ≡ Some frame → IsFrom n screens frame
    each : (m : ℕ) → IsTouched id rect screens m → HasFrame frames (n + m)
    rising : (j k : ℕ) (one other : Frame) → j < k → slice_get frames j ≡ Some one → slice_get frames k ≡ Some other → one.scanout < other.scanout

  none-from : (n : ℕ) → AreFrom n [] []
  none-from n = record {
    touched = λ k frame at. cc;
    each = λ m (screen, at, rest). cc;
    rising = λ j k one other before at behind. cc;
  }

  -- counted from the next number on
  from-next : (n : ℕ) (screen : Option Screen) (screens : List (Option Screen)) (frame : Frame) → IsFrom (n + 1) screens frame → IsFrom n (screen ∷ screens) frame
  unfolding IsFrom
  from-next n screen screens frame (m, at, is) = (suc m, omega (arith, at), is)

  -- one that makes no frame in front of them
  apart-from : (n : ℕ) (screen : Option Screen) (screens : List (Option Screen)) (frames : List Frame) → ((one : Screen) → screen ≡ Some one → Touches id rect one → ⊥)
      → AreFrom (n + 1) screens frames → AreFrom n (screen ∷ screens) frames
  unfolding HasFrame
  apart-from n screen screens frames apart are = record {
    touched = λ k frame at. from-next n screen screens frame (are.touched k frame at);
    each = each-one;
    rising = are.rising;
  }
    where
      same : (one : Screen) → ◌≡◌ {A = Option (Option Screen)} (Some screen) (Some (Some one)) → screen ≡ Some one
      same one at = cc

      each-one : (m : ℕ) → IsTouched id rect (screen ∷ screens) m → HasFrame frames (n + m)
      each-one zero (one, at, rest) = absurd (apart one (same one at) rest)
      each-one (suc m) is = let (k, frame, at, number) = are.each m is in (k, frame, at, omega (arith, number))

  -- one that makes a frame in front of them
  with-from : (n : ℕ) (screen : Screen) (screens : List (Option Screen)) (frame : Frame) (frames : List Frame) → Touches id rect screen → frame.scanout ≡ n
      → AreFrom (n + 1) screens frames → AreFrom n (Some screen ∷ screens) (frame ∷ frames)
  unfolding IsFrom HasFrame
  with-from n screen screens frame frames is number are = record {
    touched = touched-one;
    each = each-one;
    rising = rising-one;
  }
    where
      same : {x y : Frame} → ◌≡◌ {A = Option Frame} (Some x) (Some y) → x ≡ y
      same eq = cc

      here : IsFrom n (Some screen ∷ screens) frame
      here = (0, omega (arith, number), (screen, refl, is))

      touched-one : (k : ℕ) (x : Frame) → slice_get (frame ∷ frames) k ≡ Some x → IsFrom n (Some screen ∷ screens) x
      touched-one zero x at = subst (IsFrom n (Some screen ∷ screens)) (same at) here
      touched-one (suc k) x at = from-next n (Some screen) screens x (are.touched k x at)

      each-one : (m : ℕ) → IsTouched id rect (Some screen ∷ screens) m → HasFrame (frame ∷ frames) (n + m)
      each-one zero is = (0, frame, refl, omega (arith, number))
      each-one (suc m) is = let (k, x, at, is_number) = are.each m is in (suc k, x, at, omega (arith, is_number))

      behind : (x : Frame) → IsFrom (n + 1) screens x → n < x.scanout
      behind x (m, at, rest) = omega (arith, at)

      rising-one : (j k : ℕ) (one other : Frame) → j < k → slice_get (frame ∷ frames) j ≡ Some one → slice_get (frame ∷ frames) k ≡ Some other → one.scanout < other.scanout
      rising-one j zero one other before at there = omega (arith, before)
      rising-one zero (suc k) one other before at there =
          let first : frame ≡ one = same at in
          let above : n < other.scanout = behind other (are.touched k other there) in
          subst (λ (x : Frame). x.scanout < other.scanout) first (omega (arith, number, above))
      rising-one (suc j) (suc k) one other before at there = are.rising j k one other (omega (arith, before)) at there

  module _ (entry : ℕ) (surface : List ℕ) (cursors : List Cursor) where
    -- one more, whether it is touched or not
    one-more : (n : ℕ) (screen : Option Screen) (screens : List (Option Screen)) (frames : List Frame) (b : Bool) → is_flushed id rect screen ≡ b → AreFrom (n + 1) screens frames
        → AreFrom n (screen ∷ screens) (cond b (frame_of entry cursors n (flushed_screen rect surface screen)) [] ++ frames)
    one-more n None screens frames true is are = cc
    one-more n (Some screen) screens frames true is are = with-from n screen screens _ frames (touched-by screen is) refl are
    one-more n screen screens frames false is are = apart-from n screen screens frames (λ one same touched. unflushed screen one same is (flushed-by one touched)) are
      where
        unflushed : (found : Option Screen) (one : Screen) → found ≡ Some one → is_flushed id rect found ≡ false → is_flushed id rect (Some one) ≡ true → ⊥
        unflushed found one same no_flush flush = cc

    all-from : (n : ℕ) (screens : List (Option Screen)) → AreFrom n screens (new_frames entry id rect surface cursors n screens)
    unfolding new_frames
    all-from n [] = none-from n
    all-from n (screen ∷ screens) =
        one-more n screen screens (new_frames entry id rect surface cursors (n + 1) screens) (is_flushed id rect screen) refl (all-from (n + 1) screens)

  -- counted from 0 they are the scanouts' own numbers
  of-touched : (screens : List (Option Screen)) (frames : List Frame) → AreFrom 0 screens frames → AreOfTouched id rect screens frames
  unfolding IsFrom HasFrame
  of-touched screens frames are = record {
    touched = λ k frame at. let (m, number, is) = are.touched k frame at in subst (IsTouched id rect screens) (omega (arith, number)) is;
    each = λ scanout is. let (k, frame, at, number) = are.each scanout is in (k, frame, at, omega (arith, number));
    rising = are.rising;
  }

pub makes-touched : (entry id : ℕ) (rect : Rect) (surface : List ℕ) (cursors : List Cursor) (state : ScanoutState) → MakesTouched id rect state (flushed entry id rect surface cursors state)
makes-touched entry id rect surface cursors state =
    (new_frames entry id rect surface cursors 0 state.screens, refl, of-touched id rect state.screens (new_frames entry id rect surface cursors 0 state.screens) (all-from id rect entry surface cursors 0 state.screens))
