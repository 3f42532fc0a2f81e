-- Rectangles of a list that is laid out in rows, one row after another.
use Rattle.std.specs.Prelude.{ℕ, ◌+◌, ◌-◌, ◌*◌, ◌/◌, ◌%◌, ◌&&◌, nat_lt, nat_le, Bool, if◌then◌else◌, List, length, slice_index}
use Rattle.vg_places.specs.declared.rectangles.Area.{Area}
use Rattle.vg_places.specs.Places.{tabulate}

-- Where row i and column c of the rectangle stands in a list with this many places a row.
abbrev pub place_of : Area → ℕ → ℕ → ℕ → ℕ
place_of area row_length i c = (area.row + i) * row_length + area.column + c

-- Whether the rectangle has the place in this row and column of the list.
abbrev pub is_inside : Area → ℕ → ℕ → Bool
is_inside area row column =
    nat_le area.row row && nat_lt row (area.row + area.height)
    && nat_le area.column column && nat_lt column (area.column + area.width)

-- What stands at this place after the rectangle was filled.
abbrev pub filled_place : Area → ℕ → (ℕ → ℕ → ℕ) → List ℕ → ℕ → ℕ
filled_place area row_length value old place =
    if is_inside area (place / row_length) (place % row_length) then
    value (place / row_length - area.row) (place % row_length - area.column)
    else slice_index old place

-- The rectangle holds `value i c` in its row i and column c, and each other place of the list is as before.
unfoldable pub filled : Area → ℕ → (ℕ → ℕ → ℕ) → List ℕ → List ℕ
filled area row_length value old = tabulate (length old) (filled_place area row_length value old)

-- The rectangle holds rows of the source, which start at `offset` and go on `stride` places further each.
abbrev pub copied : Area → ℕ → List ℕ → ℕ → ℕ → List ℕ → List ℕ
copied area row_length source stride offset old =
    filled area row_length (λ i c. slice_index source (offset + stride * i + c)) old
