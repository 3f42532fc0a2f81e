-- Rectangles filled, and filled row by row.
use Rattle.std.proofs.Common.{◌≡◌, ◌≢◌, ℕ, ◌+◌, ◌-◌, ◌*◌, ◌/◌, ◌%◌, ◌<◌, ◌≤◌, ◌⊎◌, Bool, true, false, cond, List, Some, length, get_or, slice_get, slice_index, take, drop, sym, ap, ◌∙◌, refl, inl, inr, arith, le_refl}
use Rattle.std.proofs.lemmas.Bool.{cases_lt}
use Rattle.std.proofs.lemmas.Bool.Decides.{nat_tests}
use Rattle.std.proofs.lemmas.List.{get_or-take, get_or-drop, length-take, length-drop}
use Rattle.std.proofs.lemmas.Option.{slice_get-get_or, slice_get_past}
use Rattle.std.proofs.lemmas.Nat.{div-mul-add, mod-mul-add, div-add-mod', div_below, mod_below, row_fits}
use borrow.Rule.Slice.PartMut.{put_mid}
use Rattle.vg_places.specs.declared.rectangles.Area.{Area}
use Rattle.vg_places.specs.Places.{tabulate}
use Rattle.vg_places.specs.Rectangles.{place_of, is_inside, filled_place, filled, copied}
use Rattle.vg_places.proofs.Places.{length-tabulate, get_or-tabulate, slice_get-tabulate, tabulate_from_places}
use Rattle.vg_places.proofs.Tabulated.{put_mid-tabulate}

true-or-false : (b : Bool) → (b ≡ true) ⊎ (b ≡ false)
true-or-false true = inl refl
true-or-false false = inr refl

inside-yes : (a : Area) (q c : ℕ) → a.row ≤ q → q < a.row + a.height → a.column ≤ c → c < a.column + a.width → is_inside a q c ≡ true
inside-yes a q c h1 h2 h3 h4 = grind (arith, nat_tests)

inside-empty : (a : Area) (q c : ℕ) → (a.width ≡ 0) ⊎ (a.height ≡ 0) → is_inside a q c ≡ false
inside-empty a q c (inl e) = grind (arith, nat_tests)
inside-empty a q c (inr e) = grind (arith, nat_tests)

inside-parts : (a : Area) (q c : ℕ) → is_inside a q c ≡ true → (a.row ≤ q) × (q < a.row + a.height) × (a.column ≤ c) × (c < a.column + a.width)
inside-parts a q c within = (grind (arith, nat_tests), grind (arith, nat_tests), grind (arith, nat_tests), grind (arith, nat_tests))

-- with one row more the same places are inside, but for those of that row
inside-more : (a : Area) (h q c : ℕ) → (q ≡ a.row + h → a.column ≤ c → c < a.column + a.width → ⊥)
    → is_inside (record a { height = h }) q c ≡ is_inside (record a { height = h + 1 }) q c
inside-more a h q c other = grind (arith, nat_tests)

pub filled_empty : (a : Area) (row_length : ℕ) (value : ℕ → ℕ → ℕ) (old : List ℕ) → (a.width ≡ 0) ⊎ (a.height ≡ 0) → old ≡ filled a row_length value old
unfolding filled
filled_empty a row_length value old empty =
    tabulate_from_places (filled_place a row_length value old) old (length old) 0 refl (λ k within.
    sym (ap (λ b. cond b (value (k / row_length - a.row) (k % row_length - a.column)) (slice_index old k)) (inside-empty a (k / row_length) (k % row_length) empty)))

-- the place in row q and column c of the list, where the row is row i of the rectangle
same-row : (a : Area) (row_length k i : ℕ) → k / row_length ≡ a.row + i → k ≡ (a.row + i) * row_length + k % row_length
same-row a row_length k i row = sym (div-add-mod' k row_length) ∙ ap (λ q. q * row_length + k % row_length) row

filled-same : (a : Area) (row_length : ℕ) (value : ℕ → ℕ → ℕ) (old : List ℕ) (h k : ℕ)
    → (k / row_length ≡ a.row + h → a.column ≤ k % row_length → k % row_length < a.column + a.width → ⊥)
    → filled_place (record a { height = h }) row_length value old k ≡ filled_place (record a { height = h + 1 }) row_length value old k
filled-same a row_length value old h k other =
    ap (λ b. cond b (value (k / row_length - a.row) (k % row_length - a.column)) (slice_index old k))
    (inside-more a h (k / row_length) (k % row_length) other)

filled-here : (a : Area) (row_length : ℕ) (value : ℕ → ℕ → ℕ) (old : List ℕ) (i c : ℕ) → a.column + a.width ≤ row_length → i < a.height → c < a.width
    → filled_place a row_length value old (place_of a row_length i c) ≡ value i c
filled-here a row_length value old i c wide row column =
    let low : a.column + c < row_length = omega arith in
    let k = place_of a row_length i c in
    let at : k ≡ (a.row + i) * row_length + (a.column + c) = omega arith in
    let q : k / row_length ≡ a.row + i = ap (λ n. n / row_length) at ∙ div-mul-add (a.row + i) row_length (a.column + c) low in
    let r : k % row_length ≡ a.column + c = ap (λ n. n % row_length) at ∙ mod-mul-add (a.row + i) row_length (a.column + c) low in
    let here : is_inside a (k / row_length) (k % row_length) ≡ true =
    inside-yes a (k / row_length) (k % row_length) (omega (arith, q)) (omega (arith, q)) (omega (arith, r)) (omega (arith, r))
    in
    let first : k / row_length - a.row ≡ i = omega (arith, q) in
    let second : k % row_length - a.column ≡ c = omega (arith, r) in
    ap (λ b. cond b (value (k / row_length - a.row) (k % row_length - a.column)) (slice_index old k)) here
    ∙ ap (λ n. value n (k % row_length - a.column)) first ∙ ap (λ n. value i n) second

-- the next row of the rectangle is written
pub filled_more : (a : Area) (row_length : ℕ) (value : ℕ → ℕ → ℕ) (old part : List ℕ) (h to m : ℕ)
    → to ≡ (a.row + h) * row_length + a.column → a.column + a.width ≤ row_length → to + m ≤ length old → m ≡ a.width → length part ≡ m
    → ((c : ℕ) → c < m → get_or part c 0 ≡ value h c)
    → put_mid to m (filled (record a { height = h }) row_length value old) part ≡ filled (record a { height = h + 1 }) row_length value old
unfolding filled
filled_more a row_length value old part h to m start wide fits size long row =
    let now : Area = record a { height = h } in
    let next : Area = record a { height = h + 1 } in
    put_mid-tabulate (filled_place now row_length value old) (filled_place next row_length value old) (length old) to m part fits long
    (λ k within.
    let at : place_of next row_length h k ≡ to + k = omega (arith, start) in
    row k within
    ∙ sym (filled-here next row_length value old h k wide (omega arith) (omega (arith, size)))
    ∙ ap (filled_place next row_length value old) at)
    (λ k before. filled-same a row_length value old h k (λ same low high.
    omega (arith, same-row a row_length k h same, start, before, low)))
    (λ k after. filled-same a row_length value old h k (λ same low high.
    omega (arith, same-row a row_length k h same, start, after, high, size)))

pub copied_more : (a : Area) (row_length stride offset : ℕ) (source old : List ℕ) (h to m from n : ℕ)
    → to ≡ (a.row + h) * row_length + a.column → a.column + a.width ≤ row_length → to + m ≤ length old → m ≡ a.width
    → from ≡ offset + stride * h → from + n ≤ length source → n ≡ a.width
    → put_mid to m (copied (record a { height = h }) row_length source stride offset old) (take n (drop from source))
    ≡ copied (record a { height = h + 1 }) row_length source stride offset old
copied_more a row_length stride offset source old h to m from n start wide fits size begin inside same =
    filled_more a row_length (λ i c. slice_index source (offset + stride * i + c)) old (take n (drop from source)) h to m start wide fits size
    (omega (arith, length-take n (drop from source), length-drop from source, size, same, inside))
    (λ c within.
    get_or-take n (drop from source) c 0 (omega (arith, size, same))
    ∙ get_or-drop from source c 0
    ∙ ap (λ p. get_or source (p + c) 0) begin)

-- a row that isn't the last ends no later than the last
pub row-ends : (offset stride height width n i : ℕ) → offset + stride * (height - 1) + width ≤ n → i < height → offset + stride * i + width ≤ n
row-ends offset stride height width n i last below = grind arith

-- a row of a rectangle that lies within the list ends within it
pub row-fits : (row i height row_length column width n to : ℕ) → to ≡ (row + i) * row_length + column → column + width ≤ row_length → i < height → (row + height) * row_length ≤ n → to + width ≤ n
row-fits row i height row_length column width n to start wide below rows =
    let next : (row + i) * row_length + row_length ≤ (row + height) * row_length = row_fits (row + i) row_length (row + height) row_length (omega arith) (le_refl row_length) in
    omega (arith, next)

pub length-filled : (a : Area) (row_length : ℕ) (value : ℕ → ℕ → ℕ) (old : List ℕ) → length (filled a row_length value old) ≡ length old
unfolding filled
length-filled a row_length value old = length-tabulate (filled_place a row_length value old) (length old)

pub filled-inside : (a : Area) (row_length : ℕ) (value : ℕ → ℕ → ℕ) (old : List ℕ) (i c : ℕ) → a.column + a.width ≤ row_length → i < a.height → c < a.width
    → place_of a row_length i c < length old → slice_get (filled a row_length value old) (place_of a row_length i c) ≡ Some (value i c)
unfolding filled
filled-inside a row_length value old i c wide row column within =
    slice_get-tabulate (filled_place a row_length value old) (length old) (place_of a row_length i c) within
    ∙ ap Some (filled-here a row_length value old i c wide row column)

-- a place that the rectangle has is one of those in its rows and columns
inside-place : (a : Area) (row_length k : ℕ) → is_inside a (k / row_length) (k % row_length) ≡ true
    → k ≡ place_of a row_length (k / row_length - a.row) (k % row_length - a.column)
inside-place a row_length k within =
    let parts = inside-parts a (k / row_length) (k % row_length) within in
    let row : k / row_length ≡ a.row + (k / row_length - a.row) = omega (arith, parts) in
    omega (arith, same-row a row_length k (k / row_length - a.row) row, parts)

pub filled-outside : (a : Area) (row_length : ℕ) (value : ℕ → ℕ → ℕ) (old : List ℕ) (k : ℕ)
    → ((i c : ℕ) → i < a.height → c < a.width → k ≢ place_of a row_length i c)
    → slice_get (filled a row_length value old) k ≡ slice_get old k
unfolding filled
filled-outside a row_length value old k other =
    let q = k / row_length in
    let r = k % row_length in
    let at : Bool → ℕ = λ b. cond b (value (q - a.row) (r - a.column)) (slice_index old k) in
    elim (cases_lt k (length old)) [
      | inl within ↦
          slice_get-tabulate (filled_place a row_length value old) (length old) k within
          ∙ (elim (true-or-false (is_inside a q r)) [
            | inl inside ↦
                let parts = inside-parts a q r inside in
                absurd (other (q - a.row) (r - a.column) (omega (arith, parts)) (omega (arith, parts)) (inside-place a row_length k inside))
            | inr outside ↦ ap (λ b. Some (at b)) outside
          ])
          ∙ sym (slice_get-get_or old k 0 within)
      | inr past ↦
          slice_get_past (filled a row_length value old) k (omega (arith, length-filled a row_length value old, past))
          ∙ sym (slice_get_past old k past)
    ]

-- a rectangle of all rows and all places is all of the list
pub filled_whole : (height row_length : ℕ) (value : ℕ → ℕ → ℕ) (old : List ℕ) (g : ℕ → ℕ) → 0 < row_length → length old ≡ height * row_length
    → ((i c : ℕ) → i < height → c < row_length → value i c ≡ g (i * row_length + c))
    → filled (record { row = 0; column = 0; width = row_length; height = height }) row_length value old ≡ tabulate (length old) g
unfolding filled
filled_whole height row_length value old g some long values =
    let all : Area = record { row = 0; column = 0; width = row_length; height = height } in
    let at = filled_place all row_length value old in
    tabulate_from_places g (tabulate (length old) at) (length old) 0 (length-tabulate at (length old)) (λ k within.
    let row : k / row_length < height = div_below k row_length height some (omega (arith, within, long)) in
    let column : k % row_length < row_length = mod_below k row_length some in
    let same : k / row_length * row_length + k % row_length ≡ k = div-add-mod' k row_length in
    let place : k ≡ place_of all row_length (k / row_length) (k % row_length) = omega (arith, same) in
    get_or-tabulate at (length old) k 0 within
    ∙ ap at place
    ∙ filled-here all row_length value old (k / row_length) (k % row_length) (omega arith) row column
    ∙ values (k / row_length) (k % row_length) row column
    ∙ ap g same)
