-- The cursors of the scanouts (VIRTIO 1.2, 5.7.6.10, UPDATE_CURSOR and MOVE_CURSOR).
use Rattle.std.specs.Prelude.{◌≡◌, ◌<◌, ℕ, ℤ, pos, true, false, List, length, replicate, get_or, slice_set}
use Rattle.vg_cursor.specs.declared.cursor.Cursor.{Cursor}

-- A cursor that was never set: an image of zeros, which isn't shown.
unfoldable pub unset : Cursor
unset = record { visible = false; image = replicate 16384 0; x = pos 0; y = pos 0; hot_x = 0; hot_y = 0 }

-- The cursor of a scanout that there is.
abbrev pub cursor_of : List Cursor → ℕ → Cursor
cursor_of cursors scanout = get_or cursors scanout unset

-- The cursors after the one of this scanout was changed so.
abbrev pub changed : (Cursor → Cursor) → ℕ → List Cursor → List Cursor
changed change scanout cursors = slice_set cursors scanout (change (cursor_of cursors scanout))

-- UPDATE_CURSOR with a resource shows an image at a position, and sets its hot spot.
abbrev pub shown_as : List ℕ → ℤ → ℤ → ℕ → ℕ → Cursor → Cursor
shown_as image x y hot_x hot_y cursor =
    record { visible = true; image = image; x = x; y = y; hot_x = hot_x; hot_y = hot_y }

-- UPDATE_CURSOR with no resource hides it, and sets its position.
abbrev pub hidden_at : ℤ → ℤ → Cursor → Cursor
hidden_at x y cursor = record cursor { visible = false; x = x; y = y }

-- MOVE_CURSOR sets its position.
abbrev pub placed_at : ℤ → ℤ → Cursor → Cursor
placed_at x y cursor = record cursor { x = x; y = y }

-- An image has 64 rows of 64 pixels of four bytes, and its hot spot is one of these pixels.
abbrev pub IsWhole : Cursor → Type 0
IsWhole cursor = (length cursor.image ≡ 16384) × (cursor.hot_x < 64) × (cursor.hot_y < 64)
