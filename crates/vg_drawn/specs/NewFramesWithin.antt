-- What is told of the frames that a display has made since.
use Rattle.std.specs.Prelude.{◌≡◌, ◌≤◌, ℕ, List, length, take, slice_get, slice_index, Some}
use Rattle.vg_cursor.specs.Cursor.{cursor_of}
use Rattle.vg_device.specs.State.{State}
use Rattle.vg_scanout.specs.declared.scanout.Frame.{Frame}
use Rattle.vg_scanout.specs.Scanout.{Screen, screen_pixels}
use Rattle.vg_drawn.specs.Frames.{frame_word}
use Rattle.vg_drawn.specs.Words.{union_below}

-- The frame is of its scanout as that is now: its screen is there, and has so many pixels.
pub record IsOfNow (state : State) (frame : Frame) : Type 0 where
  pub screen : Screen
  pub there : slice_get state.scanouts.screens frame.scanout ≡ Some (Some screen)
  pub width : frame.width ≡ screen.binding.rect.width
  pub height : frame.height ≡ screen.binding.rect.height

-- Each frame from number `from` on is.
abbrev pub AreOfNow : State → ℕ → Type 0
AreOfNow state from = (n : ℕ) (frame : Frame) → from ≤ n → slice_get state.scanouts.frames n ≡ Some frame → IsOfNow state frame

-- The set of a frame that is.
abbrev pub set_of : State → Frame → ℕ
set_of state frame =
    let screen = screen_pixels frame.scanout state.scanouts in
    union_below (frame_word (cursor_of state.cursors frame.scanout) frame.width screen) (length screen)

-- The sets of the frames behind those were added.
pub record AreAdded (state : State) (old new : List ℕ) : Type 0 where
  pub count : length new ≡ length state.scanouts.frames
  pub before : take (length old) new ≡ old
  pub each : (n : ℕ) (frame : Frame) → length old ≤ n → slice_get state.scanouts.frames n ≡ Some frame → slice_index new n ≡ set_of state frame
