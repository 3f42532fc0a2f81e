-- What the commands of blobs do and answer (VIRTIO 1.2, 5.7.6.8, RESOURCE_CREATE_BLOB and SET_SCANOUT_BLOB).
use Rattle.std.specs.Prelude.{ℕ, ◌+◌, ◌-◌, ◌*◌, ◌==◌, ◌&&◌, Bool, false, not, nat_le, is_some, List, [], ◌∷◌, length, if◌then◌else◌, Option, Some, None}
use Rattle.vg_formats.specs.declared.entry.MemEntry.{MemEntry}
use Rattle.vg_formats.specs.declared.format.Format.{Format}
use Rattle.vg_formats.specs.declared.rect.Rect.{Rect}
use Rattle.vg_formats.specs.Formats.{format_of}
use Rattle.vg_formats.specs.Pixels.{is_empty, is_inside}
use Rattle.vg_refusals.specs.Refusals.{refusal_of}
use Rattle.vg_wire.specs.Kinds.{ERR_INVALID_PARAMETER, ERR_INVALID_RESOURCE_ID, ERR_INVALID_SCANOUT_ID, ERR_OUT_OF_MEMORY}
use Rattle.vg_wire_ext.specs.declared.response.Response.{Response}
use Rattle.vg_resource.specs.Resource.{resource_at}
use Rattle.vg_scanout.specs.declared.scanout.Binding.{Binding}
use Rattle.vg_scanout.specs.Scanout.{bound, is_too_large, unbound}
use Rattle.vg_blob.specs.declared.blobs.Blob.{Blob}
use Rattle.vg_blob.specs.Blobs.{blob_at, create_refusals, with_blob}
use Rattle.vg_device.specs.declared.blobs.Layout.{Layout}
use Rattle.vg_device.specs.Answered.{answered_by}
use Rattle.vg_device.specs.State.{State, has_resource}

-- RESOURCE_CREATE_BLOB is refused for the id of a 2D resource; then as `create_refusals` (vg_blob) says.
abbrev pub create_blob_refusals : State → ℕ → ℕ → ℕ → ℕ → List MemEntry → List (Bool × ℕ)
create_blob_refusals state id mem flags size entries =
    (is_some (resource_at id state.resources), ERR_INVALID_RESOURCE_ID) ∷ create_refusals state.memory id mem flags size entries state.blobs

abbrev pub create_blob_step : State → ℕ → ℕ → ℕ → ℕ → List MemEntry → State × Response
create_blob_step state id mem flags size entries =
    answered_by (refusal_of (create_blob_refusals state id mem flags size entries)) state (record state { blobs = with_blob id size entries state.blobs })

-- One past the last byte of a layout.
abbrev pub layout_end : Layout → ℕ
layout_end layout = layout.offset + layout.stride * (layout.height - 1) + 4 * layout.width

-- The layout has pixels of a known format, and the rectangle some of them; a row's pixels stand in one stride, and the last row's in so
-- many bytes.
abbrev pub is_laid_out : Rect → Layout → ℕ → Bool
is_laid_out rect layout size =
    not (layout.width == 0) && not (layout.height == 0)
    && not (is_empty rect) && is_inside rect layout.width layout.height
    && nat_le (4 * layout.width) layout.stride && nat_le (layout_end layout) size
    && is_some (format_of layout.format)

-- It stands so in a blob.
abbrev pub is_in_blob : Rect → Layout → Option Blob → Bool
is_in_blob rect layout (Some blob) = is_laid_out rect layout blob.size
is_in_blob rect layout None = false

-- A blob is shown unless there is no such resource; it is a 2D one, or its pixels aren't laid out so; its screen would be too large.
abbrev pub show_blob_refusals : State → Rect → ℕ → Layout → List (Bool × ℕ)
show_blob_refusals state rect id layout =
    (not (has_resource state id), ERR_INVALID_RESOURCE_ID)
    ∷ (not (is_in_blob rect layout (blob_at id state.blobs)), ERR_INVALID_PARAMETER)
    ∷ (is_too_large rect, ERR_OUT_OF_MEMORY)
    ∷ []

-- SET_SCANOUT_BLOB is refused for a scanout that there isn't; then, of a resource other than 0, as `show_blob_refusals` says.
abbrev pub set_scanout_blob_refusals : State → Rect → ℕ → ℕ → Layout → List (Bool × ℕ)
set_scanout_blob_refusals state rect scanout id layout =
    (nat_le (length state.setup.displays) scanout, ERR_INVALID_SCANOUT_ID)
    ∷ (if id == 0 then [] else show_blob_refusals state rect id layout)

-- How a scanout shows a rectangle of a blob.
abbrev pub blob_binding : ℕ → Rect → Layout → Format → Binding
blob_binding id rect layout format = record {
  resource = id;
  rect = rect;
  width = layout.width;
  height = layout.height;
  format = format;
  stride = layout.stride;
  offset = layout.offset;
}

abbrev pub with_shown_blob : State → Rect → ℕ → ℕ → Layout → Option Format → State
with_shown_blob state rect scanout id layout (Some format) = record state { scanouts = bound scanout (blob_binding id rect layout format) state.scanouts }
with_shown_blob state rect scanout id layout None = state

-- Resource 0 disables a scanout.
abbrev pub with_scanout_blob : State → Rect → ℕ → ℕ → Layout → State
with_scanout_blob state rect scanout id layout =
    if id == 0 then record state { scanouts = unbound scanout state.scanouts }
    else with_shown_blob state rect scanout id layout (format_of layout.format)

abbrev pub set_scanout_blob_step : State → Rect → ℕ → ℕ → Layout → State × Response
set_scanout_blob_step state rect scanout id layout =
    answered_by (refusal_of (set_scanout_blob_refusals state rect scanout id layout)) state (with_scanout_blob state rect scanout id layout)
