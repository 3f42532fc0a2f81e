-- A screen with a cursor, pixel by pixel.
use Rattle.std.proofs.Common.{◌≡◌, ℕ, ◌+◌, ◌*◌, ◌/◌, ◌%◌, ◌<◌, ◌≤◌, Bool, true, false, cond, List, Some, length, slice_get, slice_index, sym, ap, ◌∙◌, refl, arith}
use Rattle.std.specs.Prelude.{ℤ, pos, negsuc, ◌+ℤ◌, ◌-ℤ◌}
use Rattle.std.proofs.lemmas.Int.{ints}
use Rattle.std.proofs.lemmas.Nat.{div-mul-add, mod-mul-add, row_fits}
use Rattle.std.proofs.lemmas.Option.{slice_get-get_or}
use Rattle.vg_places.specs.Places.{tabulate}
use Rattle.vg_places.proofs.Places.{slice_get-tabulate}
use Rattle.vg_cursor.specs.declared.cursor.Cursor.{Cursor}
use Rattle.vg_cursor.specs.Blended.{image_place, IsOnImage, over, covered, blended_place, blended}
use Rattle.vg_cursor.proofs.BlendLemmas.{covered-here, not-covered}

-- the image's place by the standard's equation, and back
over-place : (position : ℤ) (hot place i : ℕ) → pos place ≡ position -ℤ pos hot +ℤ pos i → image_place position hot place ≡ pos i
over-place position hot place i same = omega (arith, ints, same)

place-over : (position : ℤ) (hot place i : ℕ) → image_place position hot place ≡ pos i → pos place ≡ position -ℤ pos hot +ℤ pos i
place-over position hot place i same = omega (arith, ints, same)

off-image : (z w : ℤ) → ((i j : ℕ) → i < 64 → j < 64 → z ≡ pos i → w ≡ pos j → ⊥) → IsOnImage z → IsOnImage w → ⊥
off-image (pos i) (pos j) none across down = none i j across down refl refl
off-image (pos i) (negsuc n) none across down = down
off-image (negsuc n) w none across down = across

pixel-within : (width height x y c n : ℕ) → n ≡ 4 * width * height → x < width → y < height → c < 4 → 4 * (width * y + x) + c < n
pixel-within width height x y c n size across down below =
    let rows : y * width + width ≤ height * width = row_fits y width height width down (omega arith) in
    grind (arith, rows, size)

-- the row, the column and the byte of a place
parts-of : (width x y c : ℕ) → x < width → c < 4
    → ((4 * (width * y + x) + c) / (4 * width) ≡ y) × ((4 * (width * y + x) + c) % (4 * width) / 4 ≡ x) × ((4 * (width * y + x) + c) % 4 ≡ c)
parts-of width x y c across below =
    let k = 4 * (width * y + x) + c in
    let low : 4 * x + c < 4 * width = omega (arith, across, below) in
    let at : k ≡ y * (4 * width) + (4 * x + c) = grind arith in
    let four : k ≡ (width * y + x) * 4 + c = omega arith in
    let rest : k % (4 * width) ≡ 4 * x + c = ap (λ n. n % (4 * width)) at ∙ mod-mul-add y (4 * width) (4 * x + c) low in
    let turned : 4 * x + c ≡ x * 4 + c = omega arith in (
      ap (λ n. n / (4 * width)) at ∙ div-mul-add y (4 * width) (4 * x + c) low,
      ap (λ n. n / 4) (rest ∙ turned) ∙ div-mul-add x 4 c below,
      ap (λ n. n % 4) four ∙ mod-mul-add (width * y + x) 4 c below,
    )

-- a byte of pixel (x, y)
byte-at : (cursor : Cursor) (width : ℕ) (old : List ℕ) (x y c : ℕ) → x < width → c < 4
    → blended_place cursor width old (4 * (width * y + x) + c)
    ≡ covered cursor.image (image_place cursor.x cursor.hot_x x) (image_place cursor.y cursor.hot_y y) c (slice_index old (4 * (width * y + x) + c))
byte-at cursor width old x y c across below =
    let k = 4 * (width * y + x) + c in
    let screen = slice_index old k in
    let parts = parts-of width x y c across below in
    ap (λ q. covered cursor.image (image_place cursor.x cursor.hot_x (k % (4 * width) / 4)) (image_place cursor.y cursor.hot_y q) (k % 4) screen) parts.0
    ∙ ap (λ n. covered cursor.image (image_place cursor.x cursor.hot_x n) (image_place cursor.y cursor.hot_y y) (k % 4) screen) parts.1
    ∙ ap (λ b. covered cursor.image (image_place cursor.x cursor.hot_x x) (image_place cursor.y cursor.hot_y y) b screen) parts.2

pub pixel-covered : (cursor : Cursor) (width height : ℕ) (old : List ℕ) (i j x y c : ℕ)
    → cursor.visible ≡ true → length old ≡ 4 * width * height → x < width → y < height → i < 64 → j < 64 → c < 4
    → pos x ≡ cursor.x -ℤ pos cursor.hot_x +ℤ pos i → pos y ≡ cursor.y -ℤ pos cursor.hot_y +ℤ pos j
    → slice_get (blended cursor width old) (4 * (width * y + x) + c) ≡ Some (over cursor.image i j c (slice_index old (4 * (width * y + x) + c)))
unfolding blended
pixel-covered cursor width height old i j x y c shown size across down left low below at_x at_y =
    let k = 4 * (width * y + x) + c in
    let screen = slice_index old k in
    ap (λ b. slice_get (cond b (tabulate (length old) (blended_place cursor width old)) old) k) shown
    ∙ slice_get-tabulate (blended_place cursor width old) (length old) k (pixel-within width height x y c (length old) size across down below)
    ∙ ap Some (byte-at cursor width old x y c across below
    ∙ covered-here cursor.image (image_place cursor.x cursor.hot_x x) (image_place cursor.y cursor.hot_y y) i j c screen
    (over-place cursor.x cursor.hot_x x i at_x) (over-place cursor.y cursor.hot_y y j at_y) left low)

pub pixel-apart : (cursor : Cursor) (width height : ℕ) (old : List ℕ) (x y c : ℕ)
    → length old ≡ 4 * width * height → x < width → y < height → c < 4
    → ((i j : ℕ) → i < 64 → j < 64 → pos x ≡ cursor.x -ℤ pos cursor.hot_x +ℤ pos i → pos y ≡ cursor.y -ℤ pos cursor.hot_y +ℤ pos j → ⊥)
    → slice_get (blended cursor width old) (4 * (width * y + x) + c) ≡ slice_get old (4 * (width * y + x) + c)
unfolding blended
pixel-apart cursor width height old x y c size across down below none =
    let k = 4 * (width * y + x) + c in
    let screen = slice_index old k in
    let within = pixel-within width height x y c (length old) size across down below in
    let same = slice_get-tabulate (blended_place cursor width old) (length old) k within
    ∙ ap Some (byte-at cursor width old x y c across below
    ∙ not-covered cursor.image (image_place cursor.x cursor.hot_x x) (image_place cursor.y cursor.hot_y y) c screen
    (off-image (image_place cursor.x cursor.hot_x x) (image_place cursor.y cursor.hot_y y) (λ i j left low at_x at_y.
    none i j left low (place-over cursor.x cursor.hot_x x i at_x) (place-over cursor.y cursor.hot_y y j at_y))))
    ∙ sym (slice_get-get_or old k 0 within)
    in
    by_shown cursor.visible same
  where
    by_shown : (b : Bool) → slice_get (tabulate (length old) (blended_place cursor width old)) (4 * (width * y + x) + c) ≡ slice_get old (4 * (width * y + x) + c)
        → slice_get (cond b (tabulate (length old) (blended_place cursor width old)) old) (4 * (width * y + x) + c) ≡ slice_get old (4 * (width * y + x) + c)
    by_shown true same = same
    by_shown false same = refl
