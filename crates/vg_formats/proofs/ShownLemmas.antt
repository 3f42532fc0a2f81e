-- Rows of pixels as they are shown, pixel by pixel and row by row.
use Rattle.std.proofs.Common.{◌≡◌, ℕ, zero, suc, ◌+◌, ◌-◌, ◌*◌, ◌/◌, ◌%◌, ◌<◌, ◌≤◌, List, [], ◌∷◌, length, get_or, slice_index, take, drop, drop-cons, take-take, sym, ap, ◌∙◌, refl, inr, arith}
use Rattle.std.proofs.lemmas.List.{get_or-take, get_or-drop, length-take, length-drop, drop-take}
use Rattle.std.proofs.lemmas.Nat.{div-mul-add, mod-mul-add, div-add-mod', mod_below}
use borrow.Rule.Slice.PartMut.{put_mid}
use Rattle.vg_places.specs.declared.rectangles.Area.{Area}
use Rattle.vg_places.specs.Places.{tabulate}
use Rattle.vg_places.specs.Rectangles.{filled}
use Rattle.vg_places.proofs.Places.{length-tabulate, get_or-tabulate, tabulate_from_places}
use Rattle.vg_places.proofs.Filled.{filled_empty, filled_more, filled_whole}
use Rattle.vg_formats.specs.declared.format.Format.{Format}
use Rattle.vg_formats.specs.declared.format.Format.TheVariants.{B8G8R8A8, B8G8R8X8, A8R8G8B8, X8R8G8B8, R8G8B8A8, X8B8G8R8, A8B8G8R8, R8G8B8X8}
use Rattle.vg_formats.specs.Formats.{shown_bytes}
use Rattle.vg_formats.specs.Shown.{pixel_at, shown_byte, shown_row, shown_rows}

next-element : (xs : List ℕ) (k j : ℕ) → j ≡ k + 1 → k < length xs → drop k xs ≡ get_or xs k 0 ∷ drop j xs
next-element xs k j next within =
    let same : suc k ≡ j = omega (arith, next) in
    drop-cons xs k 0 within ∙ ap (λ n. get_or xs k 0 ∷ drop n xs) same

-- the four elements from k on
four-at : (xs : List ℕ) (k : ℕ) → k + 4 ≤ length xs → take 4 (drop k xs) ≡ get_or xs k 0 ∷ get_or xs (k + 1) 0 ∷ get_or xs (k + 2) 0 ∷ get_or xs (k + 3) 0 ∷ []
four-at xs k within =
    ap (λ rest. take 4 rest) (next-element xs k (k + 1) refl (omega (arith, within)))
    ∙ ap (λ rest. get_or xs k 0 ∷ take 3 rest) (next-element xs (k + 1) (k + 2) (omega arith) (omega (arith, within)))
    ∙ ap (λ rest. get_or xs k 0 ∷ get_or xs (k + 1) 0 ∷ take 2 rest) (next-element xs (k + 2) (k + 3) (omega arith) (omega (arith, within)))
    ∙ ap (λ rest. get_or xs k 0 ∷ get_or xs (k + 1) 0 ∷ get_or xs (k + 2) 0 ∷ take 1 rest) (next-element xs (k + 3) (k + 4) (omega arith) (omega (arith, within)))

-- four elements that are those of a list, each at its place
four-same : (m : List ℕ) (c : ℕ) → c < 4 → get_or (slice_index m 0 ∷ slice_index m 1 ∷ slice_index m 2 ∷ slice_index m 3 ∷ []) c 0 ≡ get_or m c 0
four-same m zero below = refl
four-same m (suc zero) below = refl
four-same m (suc (suc zero)) below = refl
four-same m (suc (suc (suc zero))) below = refl
four-same m (suc (suc (suc (suc c)))) below = absurd (omega (arith, below))

-- byte c of pixel i
byte-of-pixel : (format : Format) (pixels : List ℕ) (i c : ℕ) → c < 4 → shown_byte format pixels (i * 4 + c) ≡ slice_index (shown_bytes format (pixel_at pixels i)) c
byte-of-pixel format pixels i c below =
    ap (λ n. slice_index (shown_bytes format (pixel_at pixels n)) ((i * 4 + c) % 4)) (div-mul-add i 4 c below)
    ∙ ap (slice_index (shown_bytes format (pixel_at pixels i))) (mod-mul-add i 4 c below)

-- The first pixels of a row are shown, and the rest is as before.
abbrev pub shown_front : Format → List ℕ → ℕ → List ℕ → List ℕ
shown_front format pixels count old =
    filled (record { row = 0; column = 0; width = 4; height = count }) 4 (λ i c. shown_byte format pixels (i * 4 + c)) old

pub shown-none : (format : Format) (pixels old : List ℕ) → old ≡ shown_front format pixels 0 old
shown-none format pixels old =
    let none : Area = record { row = 0; column = 0; width = 4; height = 0 } in
    filled_empty none 4 (λ i c. shown_byte format pixels (i * 4 + c)) old (inr refl)

pub shown-more : (format : Format) (pixels old part : List ℕ) (i to m : ℕ) → to ≡ 4 * i → m ≡ 4 → to + 4 ≤ length old → length old ≡ length pixels
    → part ≡ shown_bytes format (get_or pixels to 0 ∷ get_or pixels (to + 1) 0 ∷ get_or pixels (to + 2) 0 ∷ get_or pixels (to + 3) 0 ∷ [])
    → length part ≡ 4
    → put_mid to m (shown_front format pixels i old) part ≡ shown_front format pixels (i + 1) old
shown-more format pixels old part i to m start size fits same shown long =
    let area : Area = record { row = 0; column = 0; width = 4; height = i } in
    let pixel : part ≡ shown_bytes format (pixel_at pixels i) =
    shown ∙ ap (shown_bytes format) (sym (four-at pixels to (omega (arith, fits, same)))) ∙ ap (λ n. shown_bytes format (take 4 (drop n pixels))) start
    in
    filled_more area 4 (λ n c. shown_byte format pixels (n * 4 + c)) old part i to m (omega (arith, start)) (omega arith) (omega (arith, fits, size)) size (omega (arith, long, size))
    (λ c within.
    let below : c < 4 = omega (arith, within, size) in
    ap (λ xs. get_or xs c 0) pixel ∙ sym (byte-of-pixel format pixels i c below))

pub shown-all : (format : Format) (pixels old : List ℕ) → length old ≡ length pixels → length pixels % 4 ≡ 0 → shown_front format pixels (length pixels / 4) old ≡ shown_row format pixels
unfolding shown_row
shown-all format pixels old same whole =
    filled_whole (length pixels / 4) 4 (λ i c. shown_byte format pixels (i * 4 + c)) old (shown_byte format pixels) (omega arith)
    (omega (arith, same, whole, div-add-mod' (length pixels) 4))
    (λ i c row column. refl)
    ∙ ap (λ n. tabulate n (shown_byte format pixels)) same

-- a format of the shown order is shown as it is
pub shown-as-it-is : (pixels : List ℕ) → length pixels % 4 ≡ 0 → pixels ≡ shown_row B8G8R8A8 pixels
unfolding shown_row
shown-as-it-is pixels whole =
    tabulate_from_places (shown_byte B8G8R8A8 pixels) pixels (length pixels) 0 refl (λ k within.
    let below : k % 4 < 4 = mod_below k 4 (omega arith) in
    let place : 4 * (k / 4) + k % 4 ≡ k = omega (arith, div-add-mod' k 4) in
    sym (
    four-same (pixel_at pixels (k / 4)) (k % 4) below
    ∙ get_or-take 4 (drop (4 * (k / 4)) pixels) (k % 4) 0 below
    ∙ get_or-drop (4 * (k / 4)) pixels (k % 4) 0
    ∙ ap (λ n. get_or pixels n 0) place))

-- a pixel that lies wholly in the front of a list
pixel-in-front : (pixels : List ℕ) (n i : ℕ) → 4 * i + 4 ≤ n → pixel_at (take n pixels) i ≡ pixel_at pixels i
pixel-in-front pixels n i within =
    let rest = n - 4 * i in
    let split : n ≡ 4 * i + rest = omega (arith, within) in
    ap (λ m. take 4 (drop (4 * i) (take m pixels))) split
    ∙ ap (take 4) (drop-take (4 * i) rest pixels)
    ∙ take-take 4 rest (drop (4 * i) pixels) (omega (arith, within))

pub shown_rows-more : (format : Format) (a : Area) (row_length stride offset : ℕ) (pixels old part : List ℕ) (h to m from n : ℕ)
    → to ≡ (a.row + h) * row_length + a.column → a.column + a.width ≤ row_length → to + m ≤ length old → m ≡ a.width
    → from ≡ offset + stride * h → from + n ≤ length pixels → n ≡ a.width → a.width % 4 ≡ 0
    → part ≡ shown_row format (take n (drop from pixels))
    → put_mid to m (shown_rows format (record a { height = h }) row_length pixels stride offset old) part
    ≡ shown_rows format (record a { height = h + 1 }) row_length pixels stride offset old
unfolding shown_row
shown_rows-more format a row_length stride offset pixels old part h to m from n start wide fits size begin inside same whole shown =
    let source = take n (drop from pixels) in
    let long : length source ≡ n = omega (arith, length-take n (drop from pixels), length-drop from pixels, inside) in
    let row : (c : ℕ) → c < m → get_or part c 0 ≡ shown_byte format (drop (offset + stride * h) pixels) c =
    λ c within.
    let here : c < length source = omega (arith, within, long, size, same) in
    let four : 4 * (c / 4) + 4 ≤ n = omega (arith, within, size, same, whole, div-add-mod' c 4, mod_below c 4 (omega arith), div-add-mod' a.width 4) in
    ap (λ xs. get_or xs c 0) shown
    ∙ get_or-tabulate (shown_byte format source) (length source) c 0 here
    ∙ ap (λ pixel. slice_index (shown_bytes format pixel) (c % 4)) (pixel-in-front (drop from pixels) n (c / 4) four)
    ∙ ap (λ p. shown_byte format (drop p pixels) c) begin
    in
    filled_more a row_length (λ i c. shown_byte format (drop (offset + stride * i) pixels) c) old part h to m start wide fits size
    (ap length shown ∙ length-tabulate (shown_byte format source) (length source) ∙ omega (arith, long, same, size)) row

four-shown : (format : Format) (m : List ℕ) → slice_index (shown_bytes format m) 0 ∷ slice_index (shown_bytes format m) 1 ∷ slice_index (shown_bytes format m) 2 ∷ slice_index (shown_bytes format m) 3 ∷ [] ≡ shown_bytes format m
four-shown B8G8R8A8 m = refl
four-shown B8G8R8X8 m = refl
four-shown A8R8G8B8 m = refl
four-shown X8R8G8B8 m = refl
four-shown R8G8B8A8 m = refl
four-shown X8B8G8R8 m = refl
four-shown A8B8G8R8 m = refl
four-shown R8G8B8X8 m = refl

pub length-shown_row : (format : Format) (pixels : List ℕ) → length (shown_row format pixels) ≡ length pixels
unfolding shown_row
length-shown_row format pixels = length-tabulate (shown_byte format pixels) (length pixels)

get_or-shown_row : (format : Format) (pixels : List ℕ) (i c k : ℕ) → c < 4 → k ≡ 4 * i + c → k < length pixels → get_or (shown_row format pixels) k 0 ≡ slice_index (shown_bytes format (pixel_at pixels i)) c
unfolding shown_row
get_or-shown_row format pixels i c k below place within =
    let at : k ≡ i * 4 + c = omega (arith, place) in
    get_or-tabulate (shown_byte format pixels) (length pixels) k 0 within ∙ ap (shown_byte format pixels) at ∙ byte-of-pixel format pixels i c below

pub pixel_at-shown_row : (format : Format) (pixels : List ℕ) (n : ℕ) → 4 * n + 4 ≤ length pixels → pixel_at (shown_row format pixels) n ≡ shown_bytes format (pixel_at pixels n)
pixel_at-shown_row format pixels n within =
    let row = shown_row format pixels in
    let byte : (c : ℕ) → c < 4 → get_or row (4 * n + c) 0 ≡ slice_index (shown_bytes format (pixel_at pixels n)) c =
    λ c below. get_or-shown_row format pixels n c (4 * n + c) below refl (omega (arith, within, below))
    in
    let m = shown_bytes format (pixel_at pixels n) in
    four-at row (4 * n) (omega (arith, within, length-shown_row format pixels))
    ∙ ap (λ x. x ∷ get_or row (4 * n + 1) 0 ∷ get_or row (4 * n + 2) 0 ∷ get_or row (4 * n + 3) 0 ∷ []) (get_or-shown_row format pixels n 0 (4 * n) (omega arith) (omega arith) (omega (arith, within)))
    ∙ ap (λ x. slice_index m 0 ∷ x ∷ get_or row (4 * n + 2) 0 ∷ get_or row (4 * n + 3) 0 ∷ []) (byte 1 (omega arith))
    ∙ ap (λ x. slice_index m 0 ∷ slice_index m 1 ∷ x ∷ get_or row (4 * n + 3) 0 ∷ []) (byte 2 (omega arith))
    ∙ ap (λ x. slice_index m 0 ∷ slice_index m 1 ∷ slice_index m 2 ∷ x ∷ []) (byte 3 (omega arith))
    ∙ four-shown format (pixel_at pixels n)

pub length-shown_bytes : (format : Format) (m : List ℕ) → length (shown_bytes format m) ≡ 4
length-shown_bytes B8G8R8A8 m = refl
length-shown_bytes B8G8R8X8 m = refl
length-shown_bytes A8R8G8B8 m = refl
length-shown_bytes X8R8G8B8 m = refl
length-shown_bytes R8G8B8A8 m = refl
length-shown_bytes X8B8G8R8 m = refl
length-shown_bytes A8B8G8R8 m = refl
length-shown_bytes R8G8B8X8 m = refl

-- byte c of pixels that are shown as they are
byte-as-it-is : (pixels : List ℕ) (c : ℕ) → shown_byte B8G8R8A8 pixels c ≡ get_or pixels c 0
byte-as-it-is pixels c =
    let below : c % 4 < 4 = mod_below c 4 (omega arith) in
    let place : 4 * (c / 4) + c % 4 ≡ c = omega (arith, div-add-mod' c 4) in
    four-same (pixel_at pixels (c / 4)) (c % 4) below
    ∙ get_or-take 4 (drop (4 * (c / 4)) pixels) (c % 4) 0 below
    ∙ get_or-drop (4 * (c / 4)) pixels (c % 4) 0
    ∙ ap (λ n. get_or pixels n 0) place

-- rows that follow each other, shown as they are
pub rows-as-they-are : (row_length height offset : ℕ) (pixels screen : List ℕ) → 0 < row_length → length screen ≡ height * row_length → offset + height * row_length ≤ length pixels
    → take (height * row_length) (drop offset pixels) ≡ shown_rows B8G8R8A8 (record { row = 0; column = 0; width = row_length; height = height }) row_length pixels row_length offset screen
rows-as-they-are row_length height offset pixels screen some long inside =
    let byte : ℕ → ℕ = λ k. get_or pixels (offset + k) 0 in
    let value : ℕ → ℕ → ℕ = λ i c. shown_byte B8G8R8A8 (drop (offset + row_length * i) pixels) c in
    let size = height * row_length in
    let taken : length (take size (drop offset pixels)) ≡ size = omega (arith, length-take size (drop offset pixels), length-drop offset pixels, inside) in
    tabulate_from_places byte (take size (drop offset pixels)) size 0 taken (λ k within.
    get_or-take size (drop offset pixels) k 0 within ∙ get_or-drop offset pixels k 0)
    ∙ ap (λ n. tabulate n byte) (sym long)
    ∙ sym (filled_whole height row_length value screen byte some long (λ i c row column.
    byte-as-it-is (drop (offset + row_length * i) pixels) c
    ∙ get_or-drop (offset + row_length * i) pixels c 0
    ∙ ap (λ n. get_or pixels n 0) (omega arith)))
