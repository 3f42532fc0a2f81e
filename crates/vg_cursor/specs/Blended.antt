-- A screen with the cursor blended into it (VIRTIO 1.2, 5.7.6.10; the formula of a pixel is ours).
use Rattle.std.specs.Prelude.{◌<◌, ℕ, ◌+◌, ◌-◌, ◌*◌, ◌/◌, ◌%◌, ◌==◌, ◌&&◌, nat_lt, ℤ, pos, negsuc, ◌-ℤ◌, if◌then◌else◌, List, length, slice_index}
use Rattle.vg_places.specs.Places.{tabulate}
use Rattle.vg_cursor.specs.declared.cursor.Cursor.{Cursor}

-- The image's column (or row) over this column (or row) of the screen: the one at `position - hot + i` is i.
abbrev pub image_place : ℤ → ℕ → ℕ → ℤ
image_place position hot place = pos (place + hot) -ℤ position

-- Whether an image has this column or row.
abbrev pub IsOnImage : ℤ → Type 0
IsOnImage (pos i) = i < 64
IsOnImage (negsuc n) = ⊥

-- A colour byte of an image with this A over a byte of the screen: rounded down, with a half of 255 added.
abbrev pub mixed : ℕ → ℕ → ℕ → ℕ
mixed source a screen = (source * a + screen * (255 - a) + 127) / 255

-- Byte c of pixel (i, j) of an image over a byte of the screen. A becomes 255.
abbrev pub over : List ℕ → ℕ → ℕ → ℕ → ℕ → ℕ
over image i j c screen =
    if c == 3 then 255 else
    mixed (slice_index image (4 * (64 * j + i) + c)) (slice_index image (4 * (64 * j + i) + 3)) screen

-- The same where the image has that pixel; else the screen's byte.
abbrev pub covered : List ℕ → ℤ → ℤ → ℕ → ℕ → ℕ
covered image (pos i) (pos j) c screen = if nat_lt i 64 && nat_lt j 64 then over image i j c screen else screen
covered image (pos i) (negsuc n) c screen = screen
covered image (negsuc n) j c screen = screen

-- The byte at place k of a screen of so many pixels a row: byte k % 4 of a pixel in column k % (4 * width) / 4.
abbrev pub blended_place : Cursor → ℕ → List ℕ → ℕ → ℕ
blended_place cursor width old k =
    covered cursor.image
    (image_place cursor.x cursor.hot_x (k % (4 * width) / 4)) (image_place cursor.y cursor.hot_y (k / (4 * width)))
    (k % 4) (slice_index old k)

-- A screen with the cursor, if it is shown.
unfoldable pub blended : Cursor → ℕ → List ℕ → List ℕ
blended cursor width old = if cursor.visible then tabulate (length old) (blended_place cursor width old) else old
