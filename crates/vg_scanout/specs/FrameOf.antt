-- What a frame shows (VIRTIO 1.2, 5.7.6.8 and 5.7.6.10), pixel by pixel: what `frame_of` is held to by a law.
use Rattle.std.specs.Prelude.{◌≡◌, ◌<◌, ℕ, ◌+◌, ◌*◌, true, false, pos, ◌+ℤ◌, ◌-ℤ◌, List, ◌++◌, length, Option, Some, slice_get, slice_index}
use Rattle.vg_cursor.specs.declared.cursor.Cursor.{Cursor}
use Rattle.vg_cursor.specs.Blended.{over}
use Rattle.vg_cursor.specs.Cursor.{cursor_of}
use Rattle.vg_scanout.specs.declared.scanout.Frame.{Frame}
use Rattle.vg_scanout.specs.Scanout.{ScanoutState, Screen}

-- Pixel (i, j) of the cursor's image lies over pixel (x, y) of its screen.
abbrev pub Covers : Cursor → ℕ → ℕ → ℕ → ℕ → Type 0
Covers cursor i j x y =
    (i < 64) × (j < 64) × (pos x ≡ cursor.x -ℤ pos cursor.hot_x +ℤ pos i) × (pos y ≡ cursor.y -ℤ pos cursor.hot_y +ℤ pos j)

-- The place of byte c of pixel (x, y), of so many pixels a row.
abbrev pub byte_place : ℕ → ℕ → ℕ → ℕ → ℕ
byte_place width x y c = 4 * (width * y + x) + c

-- The frame shows this screen, with this cursor over it where that is shown: each pixel that the image covers is mixed with the image's,
-- and each other is the screen's.
pub record FrameOf (entry : ℕ) (cursor : Cursor) (screen : Screen) (frame : Frame) : Type 0 where
  pub entry_is : frame.entry ≡ entry
  pub width : frame.width ≡ screen.binding.rect.width
  pub height : frame.height ≡ screen.binding.rect.height
  pub size : length frame.pixels ≡ 4 * frame.width * frame.height
  pub covered : cursor.visible ≡ true → (i j x y c : ℕ) → x < frame.width → y < frame.height → c < 4 → Covers cursor i j x y
      → slice_get frame.pixels (byte_place frame.width x y c) ≡ Some (over cursor.image i j c (slice_index screen.pixels (byte_place frame.width x y c)))
  pub apart : (x y c : ℕ) → x < frame.width → y < frame.height → c < 4 → ((i j : ℕ) → Covers cursor i j x y → ⊥)
      → slice_get frame.pixels (byte_place frame.width x y c) ≡ slice_get screen.pixels (byte_place frame.width x y c)
  pub hidden : cursor.visible ≡ false → frame.pixels ≡ screen.pixels

-- The frame is of its scanout's screen and cursor.
abbrev pub IsFrame : ℕ → List Cursor → List (Option Screen) → Frame → Type 0
IsFrame entry cursors screens frame =
    (screen : Screen) × (slice_get screens frame.scanout ≡ Some (Some screen)) × FrameOf entry (cursor_of cursors frame.scanout) screen frame

-- The frames are those of before and new ones, each of its scanout's screen and cursor, as they are then.
abbrev pub MakesFrames : ℕ → List Cursor → ScanoutState → ScanoutState → Type 0
MakesFrames entry cursors old new =
    (more : List Frame) × (new.frames ≡ old.frames ++ more) × ((k : ℕ) (frame : Frame) → slice_get more k ≡ Some frame → IsFrame entry cursors new.screens frame)
