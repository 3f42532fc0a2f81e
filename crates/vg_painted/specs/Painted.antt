-- What is true of a painting: that it is as another one, and that it is of a display.
use Rattle.std.specs.Prelude.{◌≡◌, ◌<◌, ℕ, List, Some, length, slice_get, slice_index}
use Rattle.vg_cursor.specs.declared.cursor.Cursor.{Cursor}
use Rattle.vg_resource.specs.declared.resource.Resource.{Resource}
use Rattle.vg_resource.specs.Resource.{resource_at}
use Rattle.vg_scanout.specs.declared.scanout.Frame.{Frame}
use Rattle.vg_scanout.specs.Scanout.{Screen}
use Rattle.vg_device.specs.State.{State}
use Rattle.vg_painted.specs.Ink.{Painting}

-- At each place two paintings have such bytes, and such bytes of frames.
pub record AreRelated {X Z Y W : Type 0} (Bytes : X → Y → Type 0) (Shown : Z → W → Type 0) (one : Painting X Z) (other : Painting Y W) : Type 0 where
  pub memory : (place : ℕ) → Bytes (one.memory place) (other.memory place)
  pub pixels : (id place : ℕ) → Bytes (one.pixels id place) (other.pixels id place)
  pub screens : (scanout place : ℕ) → Bytes (one.screens scanout place) (other.screens scanout place)
  pub images : (scanout place : ℕ) → Bytes (one.images scanout place) (other.images scanout place)
  pub frames : (n place : ℕ) → Shown (one.frames n place) (other.frames n place)

-- Each byte of a list is the one at its place; past the list's end both are 0.
abbrev pub IsAt : List ℕ → (ℕ → ℕ) → Type 0
IsAt bytes at = (place : ℕ) → slice_index bytes place ≡ at place

-- Each byte of a display is the one at its place: of memory, of each resource's pixels, of each screen, of each image, and of each frame.
pub record IsPainted (state : State) (p : Painting ℕ ℕ) : Type 0 where
  pub memory : IsAt state.memory.bytes p.memory
  pub pixels : (id : ℕ) (resource : Resource) → resource_at id state.resources ≡ Some resource → IsAt resource.pixels (p.pixels id)
  pub screens : (scanout : ℕ) (screen : Screen) → slice_get state.scanouts.screens scanout ≡ Some (Some screen) → IsAt screen.pixels (p.screens scanout)
  pub images : (scanout : ℕ) (cursor : Cursor) → slice_get state.cursors scanout ≡ Some cursor → IsAt cursor.image (p.images scanout)
  pub frames : (n : ℕ) (frame : Frame) → slice_get state.scanouts.frames n ≡ Some frame
      → (place : ℕ) → place < length frame.pixels → slice_index frame.pixels place ≡ p.frames n place
