-- Pixels of four bytes each that stand in rows, one row after another.
use Rattle.std.specs.Prelude.{ℕ, ◌+◌, ◌*◌, List, take, drop}

-- The four bytes of pixel (x, y), of rows of so many pixels.
abbrev pub pixel_of : List ℕ → ℕ → ℕ → ℕ → List ℕ
pixel_of pixels width x y = take 4 (drop (4 * (width * y + x)) pixels)
