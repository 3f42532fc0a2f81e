-- A display without its bytes: what stays of it where each is 0.
use Rattle.std.specs.Prelude.{ℕ, List, length, map, replicate, Option, Some, None}
use Rattle.vg_resource.specs.declared.resource.Resource.{Resource}
use Rattle.vg_cursor.specs.declared.cursor.Cursor.{Cursor}
use Rattle.vg_scanout.specs.declared.scanout.Frame.{Frame}
use Rattle.vg_scanout.specs.Scanout.{Screen}
use Rattle.vg_device.specs.State.{State}

-- As many zeros.
abbrev pub zeros_for : List ℕ → List ℕ
zeros_for bytes = replicate (length bytes) 0

abbrev pub resource_shape : Resource → Resource
resource_shape resource = record resource { pixels = zeros_for resource.pixels }

abbrev pub screen_shape : Option Screen → Option Screen
screen_shape (Some screen) = Some (record screen { pixels = zeros_for screen.pixels })
screen_shape None = None

abbrev pub cursor_shape : Cursor → Cursor
cursor_shape cursor = record cursor { image = zeros_for cursor.image }

abbrev pub frame_shape : Frame → Frame
frame_shape frame = record frame { pixels = zeros_for frame.pixels }

-- The values of entries, each changed so.
abbrev pub on_values : {X : Type 0} → (X → X) → List (ℕ × X) → List (ℕ × X)
on_values change entries = map (λ entry. (entry.0, change entry.1)) entries

-- The display with a 0 in the place of each byte of memory, of resources' pixels, of screens, of cursors' images, and of frames.
abbrev pub shape : State → State
shape state = record state {
  memory = record state.memory { bytes = zeros_for state.memory.bytes };
  resources = on_values resource_shape state.resources;
  cursors = map cursor_shape state.cursors;
  scanouts = record { screens = map screen_shape state.scanouts.screens; frames = map frame_shape state.scanouts.frames };
}
