-- Pixels of four bytes inside and outside of a rectangle that was filled.
use Rattle.std.proofs.Common.{◌≡◌, ◌≢◌, ℕ, ◌+◌, ◌*◌, ◌/◌, ◌%◌, ◌<◌, ◌≤◌, List, length, get_or, slice_get, take, drop, Some, sym, ap, ◌∙◌, arith}
use Rattle.std.specs.Prelude.{unwrap_or}
use Rattle.std.proofs.lemmas.List.{get_or-take, get_or-drop, length-take, length-drop}
use Rattle.std.proofs.lemmas.Nat.{div-mul-add, mod-mul-add, row_fits}
use Rattle.std.proofs.lemmas.Option.{get_or_from_slice_get, slice_get-get_or, unwrap_or-slice_get}
use Rattle.vg_places.specs.declared.rectangles.Area.{Area}
use Rattle.vg_places.specs.Pixels.{pixel_of}
use Rattle.vg_places.specs.Rectangles.{place_of, filled}
use Rattle.vg_places.proofs.Places.{same_from_places}
use Rattle.vg_places.proofs.Filled.{filled-inside, filled-outside, length-filled}

pub length-four : (xs : List ℕ) (p : ℕ) → p + 4 ≤ length xs → length (take 4 (drop p xs)) ≡ 4
length-four xs p fits = omega (arith, length-take 4 (drop p xs), length-drop p xs)

-- one of four elements
pub of-four : (xs : List ℕ) (p c : ℕ) → c < 4 → get_or (take 4 (drop p xs)) c 0 ≡ get_or xs (p + c) 0
of-four xs p c below = get_or-take 4 (drop p xs) c 0 below ∙ get_or-drop p xs c 0

-- four elements are those of another list, each at its place
four-are : (xs m : List ℕ) (p : ℕ) → p + 4 ≤ length xs → length m ≡ 4 → ((c : ℕ) → c < 4 → get_or xs (p + c) 0 ≡ get_or m c 0) → take 4 (drop p xs) ≡ m
four-are xs m p fits four same =
    let long = length-four xs p fits in
    same_from_places (take 4 (drop p xs)) m (omega (arith, long, four)) (λ k within.
    let below : k < 4 = omega (arith, within, long) in
    slice_get-get_or (take 4 (drop p xs)) k 0 within
    ∙ ap Some (of-four xs p k below ∙ same k below)
    ∙ sym (slice_get-get_or m k 0 (omega (arith, below, four))))

-- a pixel of so many columns and rows has its four bytes
pixel-fits : (width height x y : ℕ) → x < width → y < height → 4 * (width * y + x) + 4 ≤ 4 * width * height
pixel-fits width height x y across down =
    let rows : y * width + width ≤ height * width = row_fits y width height width down (omega arith) in
    grind arith

-- what stands in the rectangle and outside of it
pub filled-in : (area : Area) (row_length : ℕ) (value : ℕ → ℕ → ℕ) (old : List ℕ) (i c k : ℕ) → area.column + area.width ≤ row_length → i < area.height → c < area.width
    → k ≡ place_of area row_length i c → k < length old → get_or (filled area row_length value old) k 0 ≡ value i c
filled-in area row_length value old i c k wide row column place within =
    ap (λ n. get_or (filled area row_length value old) n 0) place
    ∙ get_or_from_slice_get (filled area row_length value old) (place_of area row_length i c) (value i c) 0
    (filled-inside area row_length value old i c wide row column (omega (arith, place, within)))

pub filled-out : (area : Area) (row_length : ℕ) (value : ℕ → ℕ → ℕ) (old : List ℕ) (k : ℕ) → ((i c : ℕ) → i < area.height → c < area.width → k ≢ place_of area row_length i c)
    → get_or (filled area row_length value old) k 0 ≡ get_or old k 0
filled-out area row_length value old k other =
    sym (unwrap_or-slice_get (filled area row_length value old) k 0)
    ∙ ap (λ found. unwrap_or found 0) (filled-outside area row_length value old k other)
    ∙ unwrap_or-slice_get old k 0

-- two places of rows of one length are one place in the same row and column
same-place : (width y a z b : ℕ) → a < width → b < width → y * width + a ≡ z * width + b → (y ≡ z) × (a ≡ b)
same-place width y a z b one other same = (
  sym (div-mul-add y width a one) ∙ ap (λ n. n / width) same ∙ div-mul-add z width b other,
  sym (mod-mul-add y width a one) ∙ ap (λ n. n % width) same ∙ mod-mul-add z width b other,
)

-- pixel (x, y) of the rectangle's list, of which pixel (i, j) of the rectangle is one
pub pixel-in : (area : Area) (width height : ℕ) (value : ℕ → ℕ → ℕ) (old m : List ℕ) (left i j x y : ℕ)
    → length old ≡ 4 * width * height → length m ≡ 4 → area.column ≡ 4 * left → area.column + area.width ≤ 4 * width
    → x ≡ left + i → y ≡ area.row + j → x < width → y < height → 4 * i + 4 ≤ area.width → j < area.height
    → ((c : ℕ) → c < 4 → value j (4 * i + c) ≡ get_or m c 0)
    → pixel_of (filled area (4 * width) value old) width x y ≡ m
pixel-in area width height value old m left i j x y size four begin wide column row across down inside below same =
    let fits = pixel-fits width height x y across down in
    let long = length-filled area (4 * width) value old in
    four-are (filled area (4 * width) value old) m (4 * (width * y + x)) (omega (arith, fits, long, size)) four (λ c part.
    let place : 4 * (width * y + x) + c ≡ place_of area (4 * width) j (4 * i + c) = rw (column, row) (grind (arith, begin)) in
    filled-in area (4 * width) value old j (4 * i + c) (4 * (width * y + x) + c) wide below (omega (arith, part, inside)) place (omega (arith, fits, size, part))
    ∙ same c part)

-- a pixel of the list that is none of the rectangle
pub pixel-out : (area : Area) (width height : ℕ) (value : ℕ → ℕ → ℕ) (old : List ℕ) (x y : ℕ)
    → length old ≡ 4 * width * height → x < width → y < height
    → ((i c k : ℕ) → i < area.height → c < area.width → k < 4 → y ≡ area.row + i → 4 * x + k ≡ area.column + c → ⊥)
    → (0 < area.width → area.column + area.width ≤ 4 * width)
    → pixel_of (filled area (4 * width) value old) width x y ≡ pixel_of old width x y
pixel-out area width height value old x y size across down apart wide =
    let fits = pixel-fits width height x y across down in
    let long = length-filled area (4 * width) value old in
    let p = 4 * (width * y + x) in
    four-are (filled area (4 * width) value old) (pixel_of old width x y) p (omega (arith, fits, long, size)) (length-four old p (omega (arith, fits, size))) (λ c part.
    filled-out area (4 * width) value old (p + c) (λ i d row column is.
    let place : y * (4 * width) + (4 * x + c) ≡ (area.row + i) * (4 * width) + (area.column + d) = grind (arith, is) in
    let same = same-place (4 * width) y (4 * x + c) (area.row + i) (area.column + d) (omega arith) (omega (arith, wide (omega arith))) place in
    apart i d c row column part same.0 same.1)
    ∙ sym (of-four old p c part))
