-- A screen of which only some rows are made.
use Rattle.std.proofs.Common.{◌≡◌, ℕ, ◌+◌, ◌-◌, ◌*◌, ◌/◌, ◌%◌, ◌<◌, ◌≤◌, false, cond, List, ◌++◌, length, get_or, slice_index, take, drop, sym, ap, ◌∙◌, inl, inr, arith}
use Rattle.std.proofs.Math.Nat.{mul_comm, mul-le-mul_left}
use Rattle.std.proofs.lemmas.Bool.{cases_lt}
use Rattle.std.proofs.lemmas.Bool.Decides.{nat_tests}
use Rattle.std.proofs.lemmas.List.{append-nil, drop_all, take_all, get_or-append_right, get_or_append_left, get_or-take, get_or-drop, length-append, length-take, length-drop}
use Rattle.std.proofs.lemmas.Nat.{div-mul-add, mod-mul-add, div-add-mod', div_below, mod_below, row_fits}
use Rattle.vg_formats.specs.declared.rect.Rect.{Rect}
use Rattle.vg_formats.specs.Pixels.{HasPixels, LiesWithin}
use Rattle.vg_places.specs.declared.rectangles.Area.{Area}
use Rattle.vg_places.specs.Rectangles.{filled, filled_place, is_inside}
use Rattle.vg_places.proofs.Filled.{length-filled}
use Rattle.vg_places.proofs.Places.{get_or-tabulate, tabulate_from_places}
use Rattle.vg_formats.specs.Shown.{shown_byte}
use Rattle.vg_scanout.specs.declared.scanout.Binding.{Binding}
use Rattle.vg_scanout.specs.Fits.{FitsSurface}
use Rattle.vg_scanout.specs.Panels.{rows_touched}
use Rattle.vg_scanout.specs.Scanout.{area_of, pixels_with}

above : (a : Area) (q c : ℕ) → q < a.row → is_inside a q c ≡ false
above a q c less = grind (arith, nat_tests)

below : (a : Area) (q c : ℕ) → a.row + a.height ≤ q → is_inside a q c ≡ false
below a q c past = grind (arith, nat_tests)

same-inside : (a : Area) (q c : ℕ) → is_inside (record a { row = 0 }) q c ≡ is_inside a (a.row + q) c
same-inside a q c = grind (arith, nat_tests)

outside : (a : Area) (row_length : ℕ) (value : ℕ → ℕ → ℕ) (old : List ℕ) (k : ℕ) → is_inside a (k / row_length) (k % row_length) ≡ false → get_or old k 0 ≡ filled_place a row_length value old k
outside a row_length value old k out = sym (ap (λ b. cond b (value (k / row_length - a.row) (k % row_length - a.column)) (slice_index old k)) out)

-- the rectangle's rows, filled by themselves, hold what they hold in the whole
in-rows : (a : Area) (row_length : ℕ) (value : ℕ → ℕ → ℕ) (old rows : List ℕ) (j k : ℕ) → 0 < row_length → k ≡ a.row * row_length + j → get_or rows j 0 ≡ get_or old k 0
    → filled_place (record a { row = 0 }) row_length value rows j ≡ filled_place a row_length value old k
in-rows a row_length value old rows j k some place same =
    let q = j / row_length in
    let c = j % row_length in
    let low : c < row_length = mod_below j row_length some in
    let at : k ≡ (a.row + q) * row_length + c = omega (arith, place, div-add-mod' j row_length) in
    let row : k / row_length ≡ a.row + q = ap (λ n. n / row_length) at ∙ div-mul-add (a.row + q) row_length c low in
    let column : k % row_length ≡ c = ap (λ n. n % row_length) at ∙ mod-mul-add (a.row + q) row_length c low in
    ap (λ b. cond b (value (q - 0) (c - a.column)) (slice_index rows j)) (same-inside a q c)
    ∙ ap (λ n. cond (is_inside a (a.row + q) c) (value n (c - a.column)) (slice_index rows j)) (omega arith)
    ∙ ap (λ x. cond (is_inside a (a.row + q) c) (value (a.row + q - a.row) (c - a.column)) x) same
    ∙ ap (λ n. cond (is_inside a n c) (value (n - a.row) (c - a.column)) (slice_index old k)) (sym row)
    ∙ ap (λ n. cond (is_inside a (k / row_length) n) (value (k / row_length - a.row) (n - a.column)) (slice_index old k)) (sym column)

pub filled-rows : (a : Area) (row_length : ℕ) (value : ℕ → ℕ → ℕ) (old : List ℕ) (from n : ℕ) → 0 < row_length → from ≡ a.row * row_length → from + n ≡ (a.row + a.height) * row_length → from + n ≤ length old
    → take from old ++ filled (record a { row = 0 }) row_length value (take n (drop from old)) ++ drop (from + n) old ≡ filled a row_length value old
unfolding filled
filled-rows a row_length value old from n some start end inside =
    let rows = take n (drop from old) in
    let made = filled (record a { row = 0 }) row_length value rows in
    let front = take from old in
    let rest = drop (from + n) old in
    let fronts : length front ≡ from = omega (arith, length-take from old, inside) in
    let size : length rows ≡ n = omega (arith, length-take n (drop from old), length-drop from old, inside) in
    let mades : length made ≡ n = length-filled (record a { row = 0 }) row_length value rows ∙ size in
    let both : length (front ++ made) ≡ from + n = omega (arith, length-append front made, fronts, mades) in
    let all : length (front ++ made ++ rest) ≡ length old = omega (arith, length-append (front ++ made) rest, both, length-drop (from + n) old, inside) in
    tabulate_from_places (filled_place a row_length value old) (front ++ made ++ rest) (length old) 0 all (λ k within.
    let place : k / row_length * row_length + k % row_length ≡ k = div-add-mod' k row_length in
    elim (cases_lt k from) [
      | inl less ↦
          get_or_append_left (front ++ made) rest 0 k (omega (arith, less, both))
          ∙ get_or_append_left front made 0 k (omega (arith, less, fronts))
          ∙ get_or-take from old k 0 less
          ∙ outside a row_length value old k (above a (k / row_length) (k % row_length) (div_below k row_length a.row some (omega (arith, less, start))))
      | inr not ↦
          elim (cases_lt k (from + n)) [
            | inl less ↦
                let j = k - from in
                let low : j < n = omega (arith, less, not) in
                let at : k ≡ from + j = omega (arith, not) in
                get_or_append_left (front ++ made) rest 0 k (omega (arith, less, both))
                ∙ get_or-append_right front made from k 0 fronts not
                ∙ get_or-tabulate (filled_place (record a { row = 0 }) row_length value rows) (length rows) j 0 (omega (arith, low, size))
                ∙ in-rows a row_length value old rows j k some (omega (arith, at, start))
                (get_or-take n (drop from old) j 0 low ∙ get_or-drop from old j 0 ∙ ap (λ m. get_or old m 0) (sym at))
            | inr past ↦
                let j = k - (from + n) in
                let at : k ≡ from + n + j = omega (arith, past) in
                let high : a.row + a.height ≤ k / row_length = elim (cases_lt (k / row_length) (a.row + a.height)) [
                  | inl less ↦ absurd (omega (arith, row_fits (k / row_length) row_length (a.row + a.height) row_length less (omega arith), place, mod_below k row_length some, past, end))
                  | inr no_less ↦ no_less
                ] in
                get_or-append_right (front ++ made) rest (from + n) k 0 both past
                ∙ get_or-drop (from + n) old j 0
                ∙ ap (λ m. get_or old m 0) (sym at)
                ∙ outside a row_length value old k (below a (k / row_length) (k % row_length) high)
          ]
    ])

-- a part of a screen, whose rows are shown by themselves
pub shown-rows-alone : (binding : Binding) (part : Rect) (surface old : List ℕ) (from n : ℕ) → HasPixels part → LiesWithin part binding.rect → length old ≡ 4 * binding.rect.width * binding.rect.height
    → from ≡ 4 * binding.rect.width * (part.y - binding.rect.y) → n ≡ 4 * binding.rect.width * part.height
    → (from + n ≤ length old) × (take from old ++ pixels_with (rows_touched binding part) part surface (take n (drop from old)) ++ drop (from + n) old ≡ pixels_with binding part surface old)
shown-rows-alone binding part surface old from n some within long start size =
    let row = 4 * binding.rect.width in
    let area = area_of binding.rect part in
    let first : from ≡ area.row * row = start ∙ mul_comm row area.row in
    let height : n ≡ area.height * row = size ∙ mul_comm row part.height in
    let end : from + n ≡ (area.row + area.height) * row = omega (arith, first, height) in
    let few : area.row + area.height ≤ binding.rect.height = omega (arith, within) in
    let rows : (area.row + area.height) * row ≤ binding.rect.height * row = omega (arith, mul-le-mul_left row few, mul_comm row (area.row + area.height), mul_comm row binding.rect.height) in
    let inside : from + n ≤ length old = omega (arith, end, rows, long) in
    let value : ℕ → ℕ → ℕ = λ i c. shown_byte binding.format (drop (binding.offset + binding.stride * part.y + 4 * part.x + binding.stride * i) surface) c in (
      inside,
      ap (λ r. take from old ++ filled (record area { row = r }) row value (take n (drop from old)) ++ drop (from + n) old) (omega arith)
          ∙ filled-rows area row value old from n (omega (arith, some, within)) first end inside,
    )

-- the surface has those rows
pub rows-fit : (binding : Binding) (part : Rect) (size : ℕ) → HasPixels part → LiesWithin part binding.rect → FitsSurface size binding → FitsSurface size (rows_touched binding part)
rows-fit binding part size some within fits =
    let last : part.y + part.height - 1 ≤ binding.rect.y + binding.rect.height - 1 = omega (arith, some, within) in
    omega (arith, mul-le-mul_left binding.stride last, fits)

-- all of a list was lent, and is written back
pub all-written : (n : ℕ) (old now : List ℕ) → length now ≡ length old → length old ≡ n → take n (now ++ drop (length now) old) ≡ now
all-written n old now same size =
    ap (λ ys. take n (now ++ ys)) (drop_all (length now) old (omega (arith, same))) ∙ ap (take n) (append-nil now) ∙ take_all n now (omega (arith, same, size))

-- the part of the screen that is taken out has its rows
pub length-rows : (old rows : List ℕ) (from n : ℕ) → from + n ≤ length old → rows ≡ take (from + n - from) (drop from old) → (length rows ≡ n) × (rows ≡ take n (drop from old))
length-rows old rows from n inside is =
    let same : rows ≡ take n (drop from old) = is ∙ ap (λ m. take m (drop from old)) (omega arith) in
    (omega (arith, ap length same, length-take n (drop from old), length-drop from old, inside), same)

pub length-pixels : (binding : Binding) (part : Rect) (surface old : List ℕ) → length (pixels_with binding part surface old) ≡ length old
length-pixels binding part surface old = length-filled (area_of binding.rect part) (4 * binding.rect.width) _ old

-- the screen with those rows in their place
pub rows-in-place : (binding rows_of : Binding) (part : Rect) (surface old rows shown : List ℕ) (from n : ℕ) → HasPixels part → LiesWithin part binding.rect → length old ≡ 4 * binding.rect.width * binding.rect.height
    → from ≡ 4 * binding.rect.width * (part.y - binding.rect.y) → n ≡ 4 * binding.rect.width * part.height → rows_of ≡ rows_touched binding part → rows ≡ take n (drop from old)
    → shown ≡ pixels_with rows_of part surface rows → take from old ++ shown ++ drop (from + length shown) old ≡ pixels_with binding part surface old
rows-in-place binding rows_of part surface old rows shown from n some within long start size binding_is rows_are shown_is =
    let alone = shown-rows-alone binding part surface old from n some within long start size in
    let made : shown ≡ pixels_with (rows_touched binding part) part surface (take n (drop from old)) =
    shown_is ∙ ap (λ b. pixels_with b part surface rows) binding_is ∙ ap (pixels_with (rows_touched binding part) part surface) rows_are in
    let count : length shown ≡ n = ap length made ∙ length-pixels (rows_touched binding part) part surface (take n (drop from old))
    ∙ omega (arith, length-take n (drop from old), length-drop from old, alone.0) in
    ap (λ m. take from old ++ shown ++ drop (from + m) old) count
    ∙ ap (λ ps. take from old ++ ps ++ drop (from + n) old) made
    ∙ alone.1
