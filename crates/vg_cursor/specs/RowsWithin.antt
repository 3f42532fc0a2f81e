-- Rows of an image over rows of a screen, as the code goes over them.
use Rattle.std.specs.Prelude.{ℕ, ◌+◌, ◌*◌, ◌/◌, ◌%◌, ◌==◌, if◌then◌else◌, List, length, slice_index}
use Rattle.vg_places.specs.declared.rectangles.Area.{Area}
use Rattle.vg_places.specs.Places.{tabulate}
use Rattle.vg_places.specs.Rectangles.{filled, place_of}
use Rattle.vg_cursor.specs.Blended.{mixed}

-- Byte c of a row of pixels that begins at `from`, over a byte of the screen.
abbrev pub byte_over : List ℕ → ℕ → ℕ → ℕ → ℕ
byte_over image from c screen =
    if c % 4 == 3 then 255 else
    mixed (slice_index image (from + c)) (slice_index image (from + (4 * (c / 4) + 3))) screen

-- A row of pixels over a row of the screen.
unfoldable pub row_over : List ℕ → List ℕ → List ℕ
row_over image old = tabulate (length old) (λ c. byte_over image 0 c (slice_index old c))

-- The rectangle holds rows of an image of 64 pixels a row, the first from `from` on, over what was there.
abbrev pub rows_over : Area → ℕ → List ℕ → ℕ → List ℕ → List ℕ
rows_over area row_length image from old =
    filled area row_length (λ i c. byte_over image (from + 256 * i) c (slice_index old (place_of area row_length i c))) old
