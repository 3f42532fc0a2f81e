-- Which scanouts a flush makes frames of (VIRTIO 1.2, 5.7.6.8): what `new_frames` is held to by a law.
use Rattle.std.specs.Prelude.{◌≡◌, ◌<◌, ℕ, List, ◌++◌, Option, Some, slice_get}
use Rattle.vg_formats.specs.declared.rect.Rect.{Rect}
use Rattle.vg_formats.specs.Pixels.{Covers}
use Rattle.vg_scanout.specs.declared.scanout.Frame.{Frame}
use Rattle.vg_scanout.specs.Scanout.{ScanoutState, Screen}

-- The screen shows the resource, and some pixel of it lies in the flushed rectangle.
pub record Touches (id : ℕ) (rect : Rect) (screen : Screen) : Type 0 where
  pub bound : screen.binding.resource ≡ id
  pub x : ℕ
  pub y : ℕ
  pub own : Covers screen.binding.rect x y
  pub flushed : Covers rect x y

-- The scanout has a screen that is touched so.
abbrev pub IsTouched : ℕ → Rect → List (Option Screen) → ℕ → Type 0
IsTouched id rect screens scanout = (screen : Screen) × (slice_get screens scanout ≡ Some (Some screen)) × Touches id rect screen

-- Of these frames each is of a scanout that is touched, each scanout that is touched has one, and the scanouts' numbers rise, so that
-- none has two.
pub record AreOfTouched (id : ℕ) (rect : Rect) (screens : List (Option Screen)) (frames : List Frame) : Type 0 where
  pub touched : (k : ℕ) (frame : Frame) → slice_get frames k ≡ Some frame → IsTouched id rect screens frame.scanout
  pub each : (scanout : ℕ) → IsTouched id rect screens scanout → (k : ℕ) × (frame : Frame) × (slice_get frames k ≡ Some frame) × (frame.scanout ≡ scanout)
  pub rising : (j k : ℕ) (one other : Frame) → j < k → slice_get frames j ≡ Some one → slice_get frames k ≡ Some other → one.scanout < other.scanout

-- The frames are those of before and one of each scanout that is touched.
abbrev pub MakesTouched : ℕ → Rect → ScanoutState → ScanoutState → Type 0
MakesTouched id rect old new = (more : List Frame) × (new.frames ≡ old.frames ++ more) × AreOfTouched id rect old.screens more
