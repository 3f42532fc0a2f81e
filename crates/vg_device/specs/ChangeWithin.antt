-- What a command does to a cursor: for private contracts.
use Rattle.std.specs.Prelude.{◌≡◌, ◌<◌, ℕ, List, [], ◌∷◌, length, Option, None}
use Rattle.vg_cursor.specs.declared.cursor.Cursor.{Cursor}
use Rattle.vg_cursor.specs.Cursor.{hidden_at, placed_at, shown_as}
use Rattle.vg_refusals.specs.Refusals.{refusal_of}
use Rattle.vg_resource.specs.declared.resource.Resource.{Resource}
use Rattle.vg_scanout.specs.Scanout.{is_past_limit}
use Rattle.vg_wire.specs.Kinds.{ERR_OUT_OF_MEMORY}
use Rattle.vg_wire_ext.specs.declared.response.Response.{Response}
use Rattle.vg_device.specs.declared.cursors.Change.{Change}
use Rattle.vg_device.specs.declared.cursors.Change.TheVariants.{Show, Hide, Place}
use Rattle.vg_device.specs.State.{State}
use Rattle.vg_device.specs.Answered.{answered_by}
use Rattle.vg_device.specs.Step.{image_of, image_refusals, with_cursor}

abbrev pub change_of : Change → Cursor → Cursor
change_of (Show image x y hot_x hot_y) = shown_as image x y hot_x hot_y
change_of (Hide x y) = hidden_at x y
change_of (Place x y) = placed_at x y

-- An image has its size, and its hot spot is one of its pixels.
abbrev pub IsChange : Change → Type 0
IsChange (Show image x y hot_x hot_y) = (length image ≡ 16384) × (hot_x < 64) × (hot_y < 64)
IsChange (Hide x y) = Unit {0}
IsChange (Place x y) = Unit {0}

-- The resource that was found gives this image, and isn't refused with this hot spot.
pub record IsImage (found : Option Resource) (hot_x hot_y : ℕ) (image : List ℕ) : Type 0 where
  pub accepted : refusal_of (image_refusals found hot_x hot_y) ≡ None
  pub shown : image ≡ image_of found
  pub size : length image ≡ 16384
  pub hot_x_on : hot_x < 64
  pub hot_y_on : hot_y < 64

-- A change of a cursor that is refused for its frame alone.
abbrev pub pointed_step : State → ℕ → (Cursor → Cursor) → State × Response
pointed_step state scanout change =
    answered_by (refusal_of ((is_past_limit scanout state.scanouts, ERR_OUT_OF_MEMORY) ∷ [])) state (with_cursor state scanout change)
