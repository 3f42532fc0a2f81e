-- Rows of pixels as they are shown, of four bytes each.
use Rattle.std.specs.Prelude.{ℕ, ◌+◌, ◌*◌, ◌/◌, ◌%◌, List, length, slice_index, take, drop}
use Rattle.vg_places.specs.declared.rectangles.Area.{Area}
use Rattle.vg_places.specs.Places.{tabulate}
use Rattle.vg_places.specs.Rectangles.{filled}
use Rattle.vg_formats.specs.declared.format.Format.{Format}
use Rattle.vg_formats.specs.Formats.{shown_bytes}

-- The four bytes of pixel number n, of these pixels.
abbrev pub pixel_at : List ℕ → ℕ → List ℕ
pixel_at pixels n = take 4 (drop (4 * n) pixels)

-- The byte at place k of these pixels as they are shown.
abbrev pub shown_byte : Format → List ℕ → ℕ → ℕ
shown_byte format pixels k = slice_index (shown_bytes format (pixel_at pixels (k / 4))) (k % 4)

-- These pixels as they are shown.
unfoldable pub shown_row : Format → List ℕ → List ℕ
shown_row format pixels = tabulate (length pixels) (shown_byte format pixels)

-- The rectangle holds rows of pixels as they are shown, which start at `offset` and go on `stride` bytes
-- further each.
abbrev pub shown_rows : Format → Area → ℕ → List ℕ → ℕ → ℕ → List ℕ → List ℕ
shown_rows format area row_length pixels stride offset old =
    filled area row_length (λ i c. shown_byte format (drop (offset + stride * i) pixels) c) old
