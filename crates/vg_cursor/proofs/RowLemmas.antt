-- A row of an image over a row of a screen, pixel by pixel.
use Rattle.std.proofs.Common.{◌≡◌, ℕ, zero, suc, ◌+◌, ◌*◌, ◌/◌, ◌%◌, ◌<◌, ◌≤◌, ◌==◌, List, [], ◌∷◌, length, get_or, slice_index, cond, sym, ap, ◌∙◌, refl, inr, arith}
use Rattle.std.proofs.lemmas.Nat.{div-mul-add, mod-mul-add, div-add-mod'}
use borrow.Rule.Slice.PartMut.{put_mid}
use Rattle.vg_places.specs.declared.rectangles.Area.{Area}
use Rattle.vg_places.specs.Rectangles.{filled}
use Rattle.vg_places.proofs.Places.{length-tabulate, get_or-tabulate}
use Rattle.vg_places.proofs.Filled.{filled_empty, filled_more, filled_whole}
use Rattle.vg_places.proofs.PixelLemmas.{filled-out}
use Rattle.vg_cursor.specs.Blended.{mixed}
use Rattle.vg_cursor.specs.RowsWithin.{byte_over, row_over}

-- byte c of a pixel that begins at place `from` of the image
abbrev pixel_byte : List ℕ → ℕ → ℕ → ℕ → ℕ
pixel_byte image from c screen = cond (c == 3) 255 (mixed (slice_index image (from + c)) (slice_index image (from + 3)) screen)

byte-of-pixel : (image : List ℕ) (i c screen : ℕ) → c < 4 → byte_over image 0 (i * 4 + c) screen ≡ pixel_byte image (4 * i) c screen
byte-of-pixel image i c screen below =
    let part : (i * 4 + c) % 4 ≡ c = mod-mul-add i 4 c below in
    let first : (i * 4 + c) / 4 ≡ i = div-mul-add i 4 c below in
    let here : 0 + (i * 4 + c) ≡ 4 * i + c = omega arith in
    let last : 0 + (4 * i + 3) ≡ 4 * i + 3 = omega arith in
    ap (λ n. cond (n == 3) 255 (mixed (slice_index image (0 + (i * 4 + c))) (slice_index image (0 + (4 * ((i * 4 + c) / 4) + 3))) screen)) part
    ∙ ap (λ n. cond (c == 3) 255 (mixed (slice_index image (0 + (i * 4 + c))) (slice_index image (0 + (4 * n + 3))) screen)) first
    ∙ ap (λ n. cond (c == 3) 255 (mixed (slice_index image n) (slice_index image (0 + (4 * i + 3))) screen)) here
    ∙ ap (λ n. cond (c == 3) 255 (mixed (slice_index image (4 * i + c)) (slice_index image n) screen)) last

-- The first pixels of a row are blended, and the rest is as before.
abbrev pub row_front : List ℕ → ℕ → List ℕ → List ℕ
row_front image count old =
    filled (record { row = 0; column = 0; width = 4; height = count }) 4 (λ i c. byte_over image 0 (i * 4 + c) (slice_index old (i * 4 + c))) old

pub row-none : (image old : List ℕ) → old ≡ row_front image 0 old
row-none image old =
    let none : Area = record { row = 0; column = 0; width = 4; height = 0 } in
    filled_empty none 4 (λ i c. byte_over image 0 (i * 4 + c) (slice_index old (i * 4 + c))) old (inr refl)

-- a pixel that is still to come is as before
row-ahead : (image old screen : List ℕ) (i c : ℕ) → screen ≡ row_front image i old → get_or screen (4 * i + c) 0 ≡ get_or old (4 * i + c) 0
row-ahead image old screen i c so_far =
    let front : Area = record { row = 0; column = 0; width = 4; height = i } in
    ap (λ xs. get_or xs (4 * i + c) 0) so_far
    ∙ filled-out front 4 (λ i c. byte_over image 0 (i * 4 + c) (slice_index old (i * 4 + c))) old (4 * i + c)
    (λ row column above within same. omega (arith, above, within, same))

plus-none : (n : ℕ) → n ≡ n + 0
plus-none n = omega arith

-- the four bytes of a pixel, each over the one of the screen
four-over : (image old part : List ℕ) (i p q r : ℕ)
    → p ≡ mixed (get_or image (4 * i) 0) (get_or image (4 * i + 3) 0) (get_or old (4 * i) 0)
    → q ≡ mixed (get_or image (4 * i + 1) 0) (get_or image (4 * i + 3) 0) (get_or old (4 * i + 1) 0)
    → r ≡ mixed (get_or image (4 * i + 2) 0) (get_or image (4 * i + 3) 0) (get_or old (4 * i + 2) 0)
    → part ≡ p ∷ q ∷ r ∷ 255 ∷ []
    → (c : ℕ) → c < 4 → get_or part c 0 ≡ pixel_byte image (4 * i) c (slice_index old (i * 4 + c))
four-over image old part i p q r first second third is c below =
    let place : 4 * i + c ≡ i * 4 + c = omega arith in
    ap (λ xs. get_or xs c 0) is
    ∙ by_byte c below
    ∙ ap (λ n. pixel_byte image (4 * i) c (slice_index old n)) place
  where
    by_byte : (c : ℕ) → c < 4 → get_or (p ∷ q ∷ r ∷ 255 ∷ []) c 0 ≡ pixel_byte image (4 * i) c (slice_index old (4 * i + c))
    by_byte zero below = first ∙ ap (λ n. mixed (get_or image n 0) (get_or image (4 * i + 3) 0) (get_or old n 0)) (plus-none (4 * i))
    by_byte (suc zero) below = second
    by_byte (suc (suc zero)) below = third
    by_byte (suc (suc (suc zero))) below = refl
    by_byte (suc (suc (suc (suc c)))) below = absurd (omega (arith, below))

pub row-more : (image old screen part : List ℕ) (i m p q r : ℕ) → m ≡ 4 → 4 * i + 4 ≤ length old
    → screen ≡ row_front image i old
    → p ≡ mixed (get_or image (4 * i) 0) (get_or image (4 * i + 3) 0) (get_or screen (4 * i) 0)
    → q ≡ mixed (get_or image (4 * i + 1) 0) (get_or image (4 * i + 3) 0) (get_or screen (4 * i + 1) 0)
    → r ≡ mixed (get_or image (4 * i + 2) 0) (get_or image (4 * i + 3) 0) (get_or screen (4 * i + 2) 0)
    → part ≡ p ∷ q ∷ r ∷ 255 ∷ []
    → put_mid (4 * i) m screen part ≡ row_front image (i + 1) old
row-more image old screen part i m p q r size fits so_far first second third is =
    let area : Area = record { row = 0; column = 0; width = 4; height = i } in
    let a = get_or image (4 * i + 3) 0 in
    let start : 4 * i + 0 ≡ 4 * i = omega arith in
    let zeroth = ap (λ n. get_or screen n 0) (sym start) ∙ row-ahead image old screen i 0 so_far ∙ ap (λ n. get_or old n 0) start in
    let bytes = four-over image old part i p q r
    (first ∙ ap (λ s. mixed (get_or image (4 * i) 0) a s) zeroth)
    (second ∙ ap (λ s. mixed (get_or image (4 * i + 1) 0) a s) (row-ahead image old screen i 1 so_far))
    (third ∙ ap (λ s. mixed (get_or image (4 * i + 2) 0) a s) (row-ahead image old screen i 2 so_far)) is
    in
    ap (λ xs. put_mid (4 * i) m xs part) so_far
    ∙ filled_more area 4 (λ i c. byte_over image 0 (i * 4 + c) (slice_index old (i * 4 + c))) old part i (4 * i) m (omega arith) (omega arith) (omega (arith, fits, size)) size
    (ap length is ∙ sym size)
    (λ c within.
    let below : c < 4 = omega (arith, within, size) in
    bytes c below ∙ sym (byte-of-pixel image i c (slice_index old (i * 4 + c)) below))

pub row-all : (image old : List ℕ) → length old ≡ length image → length image % 4 ≡ 0 → row_front image (length image / 4) old ≡ row_over image old
unfolding row_over
row-all image old same whole =
    filled_whole (length image / 4) 4 (λ i c. byte_over image 0 (i * 4 + c) (slice_index old (i * 4 + c))) old (λ k. byte_over image 0 k (slice_index old k)) (omega arith)
    (omega (arith, same, whole, div-add-mod' (length image) 4))
    (λ i c row column. refl)

pub length-row_over : (image old : List ℕ) → length (row_over image old) ≡ length old
unfolding row_over
length-row_over image old = length-tabulate (λ c. byte_over image 0 c (slice_index old c)) (length old)

pub get_or-row_over : (image old : List ℕ) (c : ℕ) → c < length old → get_or (row_over image old) c 0 ≡ byte_over image 0 c (get_or old c 0)
unfolding row_over
get_or-row_over image old c within = get_or-tabulate (λ k. byte_over image 0 k (slice_index old k)) (length old) c 0 within
