-- The scanouts (VIRTIO 1.2, 5.7.6.8, SET_SCANOUT and RESOURCE_FLUSH).
use Rattle.std.specs.Prelude.{ℕ, slice_get, ◌+◌, ◌-◌, ◌*◌, ◌==◌, ◌&&◌, Bool, false, nat_lt, if◌then◌else◌, List, [], ◌∷◌, ◌++◌, length, map, replicate, Option, Some, None, Result}
use Rattle.std.specs.List.{sum_by, slice_set}
use Rattle.vg_cursor.specs.declared.cursor.Cursor.{Cursor}
use Rattle.vg_cursor.specs.Blended.{blended}
use Rattle.vg_cursor.specs.Cursor.{cursor_of}
use Rattle.vg_formats.specs.declared.rect.Rect.{Rect}
use Rattle.vg_formats.specs.Pixels.{are_meeting, common_of}
use Rattle.vg_places.specs.declared.rectangles.Area.{Area}
use Rattle.vg_formats.specs.Shown.{shown_rows}
use Rattle.vg_scanout.specs.declared.scanout.Binding.{Binding}
use Rattle.vg_scanout.specs.declared.scanout.Frame.{Frame}
use Rattle.vg_wire.specs.Kinds.{ERR_OUT_OF_MEMORY}
use Rattle.vg_refusals.specs.Refusals.{refusal_of, unless_refused}

-- The screen of a scanout that is bound: the pixels that it shows, in the order blue, green, red, alpha.
pub record Screen : Type 0 where
  pub binding : Binding
  pub pixels : List ℕ

-- What the scanouts have: of each, from scanout 0, its screen where it is bound, and None where it is disabled; and the
-- frames, in the order in which they were made.
pub record ScanoutState : Type 0 where
  pub screens : List (Option Screen)
  pub frames : List Frame

-- How many bytes the pixels of frames have.
abbrev pub frame_bytes : List Frame → ℕ
frame_bytes frames = sum_by (λ frame. length frame.pixels) frames

-- A screen of a new binding: all its bytes are 0.
unfoldable pub fresh_screen : Binding → Screen
fresh_screen binding = record { binding = binding; pixels = replicate (4 * binding.rect.width * binding.rect.height) 0 }

abbrev pub bound : ℕ → Binding → ScanoutState → ScanoutState
bound scanout binding state = record state { screens = slice_set state.screens scanout (Some (fresh_screen binding)) }

-- A screen of this rectangle would have more bytes than a screen may have.
abbrev pub is_too_large : Rect → Bool
is_too_large rect = nat_lt 33554432 (4 * rect.width * rect.height)

unfoldable pub bind : ℕ → Binding → ScanoutState → ScanoutState × Result Unit ℕ
bind scanout binding state =
    unless_refused (refusal_of ((is_too_large binding.rect, ERR_OUT_OF_MEMORY) ∷ [])) state (bound scanout binding state)

abbrev pub unbound : ℕ → ScanoutState → ScanoutState
unbound scanout state = record state { screens = slice_set state.screens scanout None }

abbrev pub binding_of_screen : Option (Option Screen) → Option Binding
binding_of_screen (Some (Some screen)) = Some screen.binding
binding_of_screen (Some None) = None
binding_of_screen None = None

-- What a scanout is bound to, if it is and there is one.
abbrev pub binding_at : ℕ → ScanoutState → Option Binding
binding_at scanout state = binding_of_screen (slice_get state.screens scanout)

abbrev pub is_bound_to : ℕ → Option Screen → Bool
is_bound_to id (Some screen) = screen.binding.resource == id
is_bound_to id None = false

abbrev pub unbound_screen : ℕ → Option Screen → Option Screen
unbound_screen id screen = if is_bound_to id screen then None else screen

-- Each scanout that is bound to the resource is disabled.
abbrev pub unbound_from : ℕ → ScanoutState → ScanoutState
unbound_from id state = record state { screens = map (unbound_screen id) state.screens }

-- Where a part of a rectangle of pixels stands in it, in rows and bytes of a row.
abbrev pub area_of : Rect → Rect → Area
area_of whole part = record { row = part.y - whole.y; column = 4 * (part.x - whole.x); width = 4 * part.width; height = part.height }

-- The screen's pixels, where those of this part of its rectangle are shown as the surface has them now, and each other is
-- as it was.
abbrev pub pixels_with : Binding → Rect → List ℕ → List ℕ → List ℕ
pixels_with binding part surface pixels =
    shown_rows binding.format (area_of binding.rect part) (4 * binding.rect.width) surface binding.stride (binding.offset + binding.stride * part.y + 4 * part.x) pixels

-- The screen's pixels after a flush of `rect`: each whose point lies in it is shown as the surface has it now, and each
-- other is as it was.
abbrev pub flushed_pixels : Binding → Rect → List ℕ → List ℕ → List ℕ
flushed_pixels binding rect surface pixels = pixels_with binding (common_of binding.rect rect) surface pixels

-- The scanout is bound to the resource, and its rectangle and that of the flush have a pixel in common.
abbrev pub is_flushed : ℕ → Rect → Option Screen → Bool
is_flushed id rect (Some screen) = (screen.binding.resource == id) && are_meeting screen.binding.rect rect
is_flushed id rect None = false

abbrev pub flushed_screen : Rect → List ℕ → Option Screen → Option Screen
flushed_screen rect surface (Some screen) = Some (record screen { pixels = flushed_pixels screen.binding rect surface screen.pixels })
flushed_screen rect surface None = None

abbrev pub after_flush : ℕ → Rect → List ℕ → Option Screen → Option Screen
after_flush id rect surface screen = if is_flushed id rect screen then flushed_screen rect surface screen else screen

-- The frame that a scanout's screen makes: the screen with the scanout's cursor blended into it, if it is shown. The screen stays.
abbrev pub frame_of : ℕ → List Cursor → ℕ → Option Screen → List Frame
frame_of entry cursors scanout (Some screen) = record {
  scanout = scanout;
  width = screen.binding.rect.width;
  height = screen.binding.rect.height;
  entry = entry;
  pixels = blended (cursor_of cursors scanout) screen.binding.rect.width screen.pixels;
} ∷ []
frame_of entry cursors scanout None = []

-- The frame that a flush makes of scanout number n, if it makes one.
abbrev pub new_frame : ℕ → ℕ → Rect → List ℕ → List Cursor → ℕ → Option Screen → List Frame
new_frame entry id rect surface cursors n screen = if is_flushed id rect screen then frame_of entry cursors n (flushed_screen rect surface screen) else []

-- The frames that a flush makes, of these screens as they were before it, the first of which is that of scanout number n.
unfoldable pub new_frames : ℕ → ℕ → Rect → List ℕ → List Cursor → ℕ → List (Option Screen) → List Frame
new_frames entry id rect surface cursors n [] = []
new_frames entry id rect surface cursors n (screen ∷ more) =
    new_frame entry id rect surface cursors n screen ++ new_frames entry id rect surface cursors (n + 1) more

-- How many bytes the frame has that a flush makes of this screen, and 0 where it makes none.
abbrev pub new_frame_bytes : ℕ → Rect → Option Screen → ℕ
new_frame_bytes id rect (Some screen) = if is_flushed id rect (Some screen) then length screen.pixels else 0
new_frame_bytes id rect None = 0

-- How many bytes the frames have that a flush makes of these screens.
abbrev pub new_bytes : ℕ → Rect → List (Option Screen) → ℕ
new_bytes id rect screens = sum_by (new_frame_bytes id rect) screens

abbrev pub flushed : ℕ → ℕ → Rect → List ℕ → List Cursor → ScanoutState → ScanoutState
flushed entry id rect surface cursors state = record {
  screens = map (after_flush id rect surface) state.screens;
  frames = state.frames ++ new_frames entry id rect surface cursors 0 state.screens;
}

-- These frames have more bytes than all frames of a run may have.
abbrev pub are_too_many : List Frame → Bool
are_too_many frames = nat_lt 268435456 (frame_bytes frames)

unfoldable pub flush : ℕ → ℕ → Rect → List ℕ → List Cursor → ScanoutState → ScanoutState × Result Unit ℕ
flush entry id rect surface cursors state =
    unless_refused (refusal_of ((are_too_many (flushed entry id rect surface cursors state).frames, ERR_OUT_OF_MEMORY) ∷ [])) state
    (flushed entry id rect surface cursors state)

abbrev pub screen_of : Option (Option Screen) → Option Screen
screen_of (Some screen) = screen
screen_of None = None

-- The screen of a scanout, if it is bound and there is one.
abbrev pub screen_at : ℕ → ScanoutState → Option Screen
screen_at scanout state = screen_of (slice_get state.screens scanout)

abbrev pub pixels_of_screen : Option Screen → List ℕ
pixels_of_screen (Some screen) = screen.pixels
pixels_of_screen None = []

-- The pixels of a scanout's screen as it is; none where it is disabled, or where there is no such scanout.
abbrev pub screen_pixels : ℕ → ScanoutState → List ℕ
screen_pixels scanout state = pixels_of_screen (screen_at scanout state)

-- How many bytes a frame of a screen has.
abbrev pub bytes_of_screen : Option Screen → ℕ
bytes_of_screen (Some screen) = length screen.pixels
bytes_of_screen None = 0

-- With a frame of the scanout's screen all frames have more bytes than those of a run may have.
abbrev pub is_past_limit : ℕ → ScanoutState → Bool
is_past_limit scanout state = nat_lt 268435456 (frame_bytes state.frames + bytes_of_screen (screen_at scanout state))

-- A frame of the scanout's screen as it is, which an entry makes; none where the scanout is disabled.
abbrev pub snapped : ℕ → List Cursor → ℕ → ScanoutState → ScanoutState
snapped entry cursors scanout state = record state { frames = state.frames ++ frame_of entry cursors scanout (screen_at scanout state) }

-- The same, unless it is refused for all frames' bytes.
unfoldable pub snap : ℕ → List Cursor → ℕ → ScanoutState → ScanoutState × Result Unit ℕ
snap entry cursors scanout state =
    unless_refused (refusal_of ((is_past_limit scanout state, ERR_OUT_OF_MEMORY) ∷ [])) state
    (snapped entry cursors scanout state)
