-- The modes of displays that are plugged and unplugged.
use Rattle.std.specs.Prelude.{◌≡◌, ◌&&◌, ℕ, Bool, true, false, nat_le, nat_lt, if◌then◌else◌, List, map, length, get_or, set, Some, None}
use Rattle.vg_limits.specs.Limits.{version_2}
use Rattle.vg_wire.specs.Modes.{Mode}

-- The mode of each display, from scanout 0, and whether one was plugged or unplugged since that was last cleared: the event bit of
-- the configuration space (VIRTIO 1.2, 5.7.4, VIRTIO_GPU_EVENT_DISPLAY).
pub record PlugState : Type 0 where
  pub modes : List Mode
  pub changed : Bool

-- A display's width and height in pixels.
abbrev pub is_size : ℕ → ℕ → Bool
is_size width height = nat_le 1 width && nat_le width version_2.width && nat_le 1 height && nat_le height version_2.height

-- The same of a pair.
abbrev pub IsSize : ℕ × ℕ → Type 0
IsSize (width, height) = is_size width height ≡ true

-- At first each display has the mode that it is set up with.
abbrev pub with_displays : List (ℕ × ℕ) → PlugState
with_displays displays = record { modes = map Some displays; changed = false }

-- A display has this mode now. Of a scanout that there isn't nothing changes.
abbrev pub with_mode : ℕ → Mode → PlugState → PlugState
with_mode scanout mode state = if nat_lt scanout (length state.modes) then record { modes = set state.modes scanout mode; changed = true } else state

abbrev pub plugged : ℕ → ℕ → ℕ → PlugState → PlugState
plugged scanout width height state = if is_size width height then with_mode scanout (Some (width, height)) state else state

abbrev pub unplugged : ℕ → PlugState → PlugState
unplugged scanout state = with_mode scanout None state

abbrev pub cleared : PlugState → PlugState
cleared state = record state { changed = false }

-- None where there is no such display, or it has no mode.
abbrev pub mode_at : ℕ → List Mode → Mode
mode_at scanout modes = get_or modes scanout None

-- A mode is a display's, or none.
abbrev pub FitsDisplay : Mode → Type 0
FitsDisplay None = Unit {0}
FitsDisplay (Some (width, height)) = is_size width height ≡ true
