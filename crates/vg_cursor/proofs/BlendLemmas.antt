-- The rows of an image over a screen, row by row, and as the definition tells them place by place.
use Rattle.std.proofs.Common.{◌≡◌, ℕ, ◌+◌, ◌-◌, ◌*◌, ◌/◌, ◌%◌, ◌<◌, ◌≤◌, ◌⊎◌, ◌==◌, ◌&&◌, true, false, cond, List, length, get_or, slice_index, take, drop, sym, ap, ◌∙◌, refl, inl, inr, arith, le_refl}
use Rattle.std.specs.Prelude.{ℤ, pos, negsuc, nat_lt}
use Rattle.std.proofs.lemmas.Bool.{cases_lt}
use Rattle.std.proofs.lemmas.Bool.Decides.{nat_tests}
use Rattle.std.proofs.lemmas.List.{get_or-take, get_or-drop, length-take, length-drop}
use Rattle.std.proofs.lemmas.Nat.{div-mul-add, mod-mul-add, div-add-mod', mod_below, div_below, row_fits}
use Rattle.std.proofs.Math.Nat.{mul-le-mul_right}
use borrow.Rule.Slice.PartMut.{put_mid}
use Rattle.vg_places.specs.declared.rectangles.Area.{Area}
use Rattle.vg_places.specs.Places.{tabulate}
use Rattle.vg_places.specs.Rectangles.{place_of}
use Rattle.vg_places.proofs.Places.{tabulate_from_places}
use Rattle.vg_places.proofs.Filled.{filled_more, length-filled}
use Rattle.vg_places.proofs.PixelLemmas.{filled-in, filled-out}
use Rattle.vg_cursor.specs.declared.cursor.Cursor.{Cursor}
use Rattle.vg_cursor.specs.declared.span.Span.{Span}
use Rattle.vg_cursor.specs.Blended.{image_place, IsOnImage, mixed, over, covered, blended_place, blended}
use Rattle.vg_cursor.specs.SpanWithin.{IsSpan}
use Rattle.vg_cursor.specs.RowsWithin.{byte_over, row_over, rows_over}
use Rattle.vg_cursor.proofs.RowLemmas.{length-row_over, get_or-row_over}

-- a place of the row that is still to come is as before
rows-ahead : (image : List ℕ) (a : Area) (row_length from : ℕ) (old screen : List ℕ) (h to c : ℕ)
    → to ≡ (a.row + h) * row_length + a.column → a.column + a.width ≤ row_length
    → screen ≡ rows_over (record a { height = h }) row_length image from old → get_or screen (to + c) 0 ≡ get_or old (to + c) 0
rows-ahead image a row_length from old screen h to c start wide so_far =
    let now : Area = record a { height = h } in
    ap (λ xs. get_or xs (to + c) 0) so_far
    ∙ filled-out now row_length (λ i c. byte_over image (from + 256 * i) c (slice_index old (place_of now row_length i c))) old (to + c)
    (λ row column above within same.
    let next : (a.row + row) * row_length + row_length ≤ (a.row + h) * row_length = row_fits (a.row + row) row_length (a.row + h) row_length (omega (arith, above)) (le_refl row_length) in
    omega (arith, next, same, start, wide, within))

-- a byte of a part of the image that begins at `start` is one of the image
byte-in-part : (image : List ℕ) (start n c screen : ℕ) → c < n → n % 4 ≡ 0 → byte_over (take n (drop start image)) 0 c screen ≡ byte_over image start c screen
byte-in-part image start n c screen within whole =
    let a = 4 * (c / 4) + 3 in
    let last : a < n = omega (arith, within, whole, div-add-mod' c 4, mod_below c 4 (omega arith), div-add-mod' n 4) in
    let part = take n (drop start image) in
    let at : (k : ℕ) → k < n → get_or part (0 + k) 0 ≡ get_or image (start + k) 0 =
    λ k below. get_or-take n (drop start image) (0 + k) 0 (omega (arith, below)) ∙ get_or-drop start image (0 + k) 0 ∙ ap (λ p. get_or image p 0) (omega arith)
    in
    ap (λ s. cond (c % 4 == 3) 255 (mixed s (get_or part (0 + a) 0) screen)) (at c within)
    ∙ ap (λ s. cond (c % 4 == 3) 255 (mixed (get_or image (start + c) 0) s screen)) (at a last)

pub rows-more : (image : List ℕ) (a : Area) (row_length from : ℕ) (old screen part : List ℕ) (h to m start n : ℕ)
    → to ≡ (a.row + h) * row_length + a.column → a.column + a.width ≤ row_length → to + m ≤ length old → m ≡ a.width
    → start ≡ from + 256 * h → n ≡ a.width → a.width % 4 ≡ 0
    → screen ≡ rows_over (record a { height = h }) row_length image from old
    → part ≡ row_over (take n (drop start image)) (take m (drop to screen))
    → put_mid to m screen part ≡ rows_over (record a { height = h + 1 }) row_length image from old
rows-more image a row_length from old screen part h to m start n place wide fits size begin same whole so_far is =
    let now : Area = record a { height = h } in
    let source = take n (drop start image) in
    let under = take m (drop to screen) in
    let all : length screen ≡ length old =
    ap length so_far ∙ length-filled now row_length (λ i c. byte_over image (from + 256 * i) c (slice_index old (place_of now row_length i c))) old
    in
    let long : length under ≡ m = omega (arith, length-take m (drop to screen), length-drop to screen, all, fits) in
    ap (λ xs. put_mid to m xs part) so_far
    ∙ filled_more a row_length (λ i c. byte_over image (from + 256 * i) c (slice_index old (place_of a row_length i c))) old part h to m place wide fits size
    (ap length is ∙ length-row_over source under ∙ long)
    (λ c within.
    let there : to + c ≡ place_of a row_length h c = omega (arith, place) in
    ap (λ xs. get_or xs c 0) is
    ∙ get_or-row_over source under c (omega (arith, within, long))
    ∙ ap (byte_over source 0 c) (get_or-take m (drop to screen) c 0 within ∙ get_or-drop to screen c 0 ∙ rows-ahead image a row_length from old screen h to c place wide so_far)
    ∙ byte-in-part image start n c (get_or old (to + c) 0) (omega (arith, within, size, same)) (ap (λ w. w % 4) same ∙ whole)
    ∙ ap (λ f. byte_over image f c (get_or old (to + c) 0)) begin
    ∙ ap (λ p. byte_over image (from + 256 * h) c (get_or old p 0)) there)

-- whether the image has a place in both of its axes
pub covered-here : (image : List ℕ) (z w : ℤ) (i j c screen : ℕ) → z ≡ pos i → w ≡ pos j → i < 64 → j < 64 → covered image z w c screen ≡ over image i j c screen
covered-here image z w i j c screen across down left low =
    let both : (nat_lt i 64 && nat_lt j 64) ≡ true = grind (arith, nat_tests) in
    ap (λ z. covered image z w c screen) across
    ∙ ap (λ w. covered image (pos i) w c screen) down
    ∙ ap (λ b. cond b (over image i j c screen) screen) both

pub not-covered : (image : List ℕ) (z w : ℤ) (c screen : ℕ) → (IsOnImage z → IsOnImage w → ⊥) → covered image z w c screen ≡ screen
not-covered image (pos i) (pos j) c screen off =
    let none : (nat_lt i 64 && nat_lt j 64) ≡ false =
    elim (cases_lt i 64) [
      | inl left ↦ elim (cases_lt j 64) [
        | inl low ↦ absurd (off left low)
        | inr past ↦ grind (arith, nat_tests)
      ]
      | inr past ↦ grind (arith, nat_tests)
    ]
    in
    ap (λ b. cond b (over image i j c screen) screen) none
not-covered image (pos i) (negsuc n) c screen off = refl
not-covered image (negsuc n) w c screen off = refl

-- a place is one of so many from the first on, or it isn't
pub in-or-out : (n first count : ℕ) → ((first ≤ n) × (n < first + count)) ⊎ ((n < first) ⊎ (first + count ≤ n))
in-or-out n first count = elim (cases_lt n first) [
  | inl low ↦ inr (inl low)
  | inr from ↦ elim (cases_lt n (first + count)) [
    | inl below ↦ inl (from, below)
    | inr high ↦ inr (inr high)
  ]
]

-- a byte of a row that begins at `from` is byte d of the pixel that begins at place `pixel`
byte-is : (image : List ℕ) (from c pixel d screen : ℕ) → c % 4 ≡ d → from + c ≡ pixel + d → from + (4 * (c / 4) + 3) ≡ pixel + 3
    → byte_over image from c screen ≡ cond (d == 3) 255 (mixed (slice_index image (pixel + d)) (slice_index image (pixel + 3)) screen)
byte-is image from c pixel d screen byte here a =
    ap (λ n. cond (n == 3) 255 (mixed (slice_index image (from + c)) (slice_index image (from + (4 * (c / 4) + 3))) screen)) byte
    ∙ ap (λ n. cond (d == 3) 255 (mixed (slice_index image n) (slice_index image (from + (4 * (c / 4) + 3))) screen)) here
    ∙ ap (λ n. cond (d == 3) 255 (mixed (slice_index image (pixel + d)) (slice_index image n) screen)) a

-- the part of a screen that two spans have, in bytes of a row
abbrev pub area_of : Span → Span → Area
area_of across down = record { row = down.first; column = 4 * across.first; width = 4 * across.count; height = down.count }

-- one place of the screen
place-blended : (cursor : Cursor) (width height : ℕ) (old : List ℕ) (across down : Span) (k : ℕ)
    → IsSpan cursor.x cursor.hot_x width across → IsSpan cursor.y cursor.hot_y height down → length old ≡ 4 * width * height → k < length old
    → get_or (rows_over (area_of across down) (4 * width) cursor.image (256 * down.from + 4 * across.from) old) k 0 ≡ blended_place cursor width old k
place-blended cursor width height old across down k columns rows size within =
    let area = area_of across down in
    let image = cursor.image in
    let from = 256 * down.from + 4 * across.from in
    let row_length = 4 * width in
    let value : ℕ → ℕ → ℕ = λ i c. byte_over image (from + 256 * i) c (slice_index old (place_of area row_length i c)) in
    let q = k / row_length in
    let r = k % row_length in
    let some : 0 < row_length = elim (cases_lt 0 row_length) [
      | inl more ↦ more
      | inr none ↦
          let zero_width : width ≡ 0 = omega (arith, none) in
          let empty : length old ≡ 0 = size ∙ ap (λ n. 4 * n * height) zero_width ∙ omega arith in
          absurd (omega (arith, within, empty))
    ] in
    let split : k ≡ q * row_length + r = sym (div-add-mod' k row_length) in
    let narrow : r < row_length = mod_below k row_length some in
    let high : q < height = div_below k row_length height some (grind (arith, within, size)) in
    let pixel : r ≡ r / 4 * 4 + r % 4 = sym (div-add-mod' r 4) in
    let part : r % 4 < 4 = mod_below r 4 (omega arith) in
    let column : r / 4 < width = omega (arith, pixel, part, narrow) in
    let wide : area.column + area.width ≤ row_length = omega (arith, columns.on_screen) in
    let byte : k % 4 ≡ r % 4 =
    let same : q * row_length + r ≡ (q * width + r / 4) * 4 + r % 4 = grind (arith, pixel) in
    ap (λ n. n % 4) split
    ∙ ap (λ n. n % 4) same
    ∙ mod-mul-add (q * width + r / 4) 4 (r % 4) part
    in
    let apart : ((i c : ℕ) → i < area.height → c < area.width → q ≡ area.row + i → r ≡ area.column + c → ⊥) → (i c : ℕ) → i < area.height → c < area.width → k ≡ place_of area row_length i c → ⊥ =
    λ other i c above inside same.
    let at : k ≡ (area.row + i) * row_length + (area.column + c) = omega (arith, same) in
    let low : area.column + c < row_length = omega (arith, inside, wide) in
    other i c above inside
    (ap (λ n. n / row_length) at ∙ div-mul-add (area.row + i) row_length (area.column + c) low)
    (ap (λ n. n % row_length) at ∙ mod-mul-add (area.row + i) row_length (area.column + c) low)
    in
    elim (in-or-out q down.first down.count) [
      | inl row ↦ elim (in-or-out (r / 4) across.first across.count) [
        | inl place ↦
            let i = q - down.first in
            let n = r / 4 - across.first in
            let c = r - 4 * across.first in
            let cs : c ≡ n * 4 + r % 4 = omega (arith, pixel, place) in
            let cd : c / 4 ≡ n = ap (λ m. m / 4) cs ∙ div-mul-add n 4 (r % 4) part in
            let cm : c % 4 ≡ k % 4 = ap (λ m. m % 4) cs ∙ mod-mul-add n 4 (r % 4) part ∙ sym byte in
            let rowed : down.first + i ≡ q = omega (arith, row) in
            let at : k ≡ place_of area row_length i c =
            split ∙ ap (λ m. m * row_length + r) (sym rowed) ∙ omega (arith, pixel, place)
            in
            let x : image_place cursor.x cursor.hot_x (r / 4) ≡ pos (across.from + n) =
            ap (λ m. image_place cursor.x cursor.hot_x m) (omega (arith, place)) ∙ columns.inside n (omega (arith, place))
            in
            let y : image_place cursor.y cursor.hot_y q ≡ pos (down.from + i) =
            ap (λ m. image_place cursor.y cursor.hot_y m) (sym rowed) ∙ rows.inside i (omega (arith, row))
            in
            filled-in area row_length value old i c k wide (omega (arith, row)) (omega (arith, place, pixel, part)) at within
            ∙ ap (λ p. byte_over image (from + 256 * i) c (slice_index old p)) (sym at)
            ∙ byte-is image (from + 256 * i) c (4 * (64 * (down.from + i) + (across.from + n))) (k % 4) (slice_index old k) cm
            (omega (arith, cs, byte)) (omega (arith, cd))
            ∙ sym (covered-here image (image_place cursor.x cursor.hot_x (r / 4)) (image_place cursor.y cursor.hot_y q) (across.from + n) (down.from + i) (k % 4) (slice_index old k)
            x y (omega (arith, columns.in_image, place)) (omega (arith, rows.in_image, row)))
        | inr off ↦
            filled-out area row_length value old k (apart (λ i c above inside same there. elim off [
              | inl before ↦ omega (arith, before, there, pixel, part)
              | inr behind ↦ omega (arith, behind, there, pixel, part, inside)
            ]))
            ∙ sym (not-covered image (image_place cursor.x cursor.hot_x (r / 4)) (image_place cursor.y cursor.hot_y q) (k % 4) (slice_index old k)
            (λ z w. columns.outside (r / 4) column off z))
      ]
      | inr off ↦
          filled-out area row_length value old k (apart (λ i c above inside same there. elim off [
            | inl before ↦ omega (arith, before, same)
            | inr behind ↦ omega (arith, behind, same, above)
          ]))
          ∙ sym (not-covered image (image_place cursor.x cursor.hot_x (r / 4)) (image_place cursor.y cursor.hot_y q) (k % 4) (slice_index old k)
          (λ z w. rows.outside q high off w))
    ]

pub rows-blended : (cursor : Cursor) (width height : ℕ) (old : List ℕ) (across down : Span) → cursor.visible ≡ true
    → IsSpan cursor.x cursor.hot_x width across → IsSpan cursor.y cursor.hot_y height down → length old ≡ 4 * width * height
    → rows_over (area_of across down) (4 * width) cursor.image (256 * down.from + 4 * across.from) old ≡ blended cursor width old
unfolding blended
rows-blended cursor width height old across down shown columns rows size =
    let area = area_of across down in
    let from = 256 * down.from + 4 * across.from in
    let long = length-filled area (4 * width) (λ i c. byte_over cursor.image (from + 256 * i) c (slice_index old (place_of area (4 * width) i c))) old in
    tabulate_from_places (blended_place cursor width old) (rows_over area (4 * width) cursor.image from old) (length old) 0 long (λ k within.
    place-blended cursor width height old across down k columns rows size within)
    ∙ ap (λ b. cond b (tabulate (length old) (blended_place cursor width old)) old) (sym shown)

-- a cursor that isn't shown
pub hidden-blended : (cursor : Cursor) (width : ℕ) (old : List ℕ) → cursor.visible ≡ false → old ≡ blended cursor width old
unfolding blended
hidden-blended cursor width old hidden = ap (λ b. cond b (tabulate (length old) (blended_place cursor width old)) old) (sym hidden)

-- rows that the screen has
pub rows-on-screen : (first count width height n : ℕ) → first + count ≤ height → n ≡ 4 * width * height → (first + count) * (4 * width) ≤ n
rows-on-screen first count width height n below size =
    let most : (first + count) * (4 * width) ≤ height * (4 * width) = mul-le-mul_right (4 * width) below in
    grind (arith, most, size)
