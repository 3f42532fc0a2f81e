-- The words of a frame, row by row.
use Rattle.std.proofs.Common.{◌≡◌, ℕ, suc, ◌+◌, ◌*◌, ◌/◌, ◌%◌, ◌<◌, ◌&&◌, Bool, true, false, cond, nat_lt, List, get_or, slice_index, take, drop, bit_or, Option, Some, None, refl, sym, ap, ◌∙◌, arith}
use Rattle.std.specs.Prelude.{ℤ, pos, negsuc}
use Rattle.std.proofs.lemmas.List.{get_or-drop, get_or-take}
use Rattle.std.proofs.lemmas.Nat.{div-mul-add, mod-mul-add}
use Rattle.vg_cursor.specs.declared.cursor.Cursor.{Cursor}
use Rattle.vg_cursor.specs.Blended.{image_place}
use Rattle.vg_painted.specs.Paint.{covered_at, over_at}
use Rattle.vg_drawn.specs.Frames.{GoesOn, frame_word, image_word, on_image, over_by, row_by, row_word}
use Rattle.vg_drawn.specs.Words.{union_below, word_of, words}

-- the words of a part are those at its places
part-at : (bytes : List ℕ) (from m k : ℕ) → k < m → word_of (get_or (take m (drop from bytes)) k 0) ≡ word_of (get_or bytes (from + k) 0)
part-at bytes from m k within = ap word_of (get_or-take m (drop from bytes) k 0 within ∙ get_or-drop from bytes k 0)

union-more : (at : ℕ → ℕ) (n : ℕ) → bit_or (union_below at n) (at n) ≡ union_below at (n + 1)
union-more at n =
    let next : suc n ≡ n + 1 = omega arith in
    ap (union_below at) next

pub goes-none : (all : ℕ) (row : ℕ → ℕ) → GoesOn all 0 row all
goes-none all row at start is same =
    let none : start ≡ start + 0 = omega arith in
    is ∙ ap (union_below at) none

-- one word more
pub goes-more : (all count : ℕ) (row : ℕ → ℕ) (sum word : ℕ) → GoesOn all count row sum → word ≡ row count → GoesOn all (count + 1) row (bit_or sum word)
goes-more all count row sum word goes here at start is same =
    let next : start + count + 1 ≡ start + (count + 1) = omega arith in
    let was : sum ≡ union_below at (start + count) = goes at start is (λ c below. same c (omega (arith, below))) in
    ap (λ s. bit_or s word) was
    ∙ ap (bit_or (union_below at (start + count))) (here ∙ sym (same count (omega arith)))
    ∙ union-more at (start + count)
    ∙ ap (union_below at) next

-- ---- a cursor's image over a pixel

abbrev by_row : Option ℕ → Option ℕ → ℕ → (ℕ → ℕ) → ℕ → ℕ
by_row (Some j) column c image screen = over_by column j c image screen
by_row None column c image screen = screen

both-by : (a b : Bool) (i j c : ℕ) (image : ℕ → ℕ) (screen : ℕ) → cond (a && b) (over_at words i j c image screen) screen ≡ by_row (cond b (Some j) None) (cond a (Some i) None) c image screen
both-by true true i j c image screen = refl
both-by true false i j c image screen = refl
both-by false true i j c image screen = refl
both-by false false i j c image screen = refl

none-by : (b : Bool) (j c : ℕ) (image : ℕ → ℕ) (screen : ℕ) → screen ≡ by_row (cond b (Some j) None) None c image screen
none-by true j c image screen = refl
none-by false j c image screen = refl

covered-by : (z w : ℤ) (c : ℕ) (image : ℕ → ℕ) (screen : ℕ) → covered_at words z w c image screen ≡ by_row (on_image w) (on_image z) c image screen
covered-by (pos i) (pos j) c image screen = both-by (nat_lt i 64) (nat_lt j 64) i j c image screen
covered-by (pos i) (negsuc n) c image screen = refl
covered-by (negsuc m) (pos j) c image screen = none-by (nat_lt j 64) j c image screen
covered-by (negsuc m) (negsuc n) c image screen = refl

row-by : (row : Option ℕ) (cursor : Cursor) (screen : ℕ → ℕ) (c : ℕ) → by_row row (on_image (image_place cursor.x cursor.hot_x (c / 4))) (c % 4) (image_word cursor) (screen c) ≡ row_by row cursor screen c
row-by (Some j) cursor screen c = refl
row-by None cursor screen c = refl

-- a place of a frame, by its row
pub row-is : (cursor : Cursor) (width y from m c : ℕ) (screen : List ℕ) → cursor.visible ≡ true → from ≡ 4 * width * y → m ≡ 4 * width → c < m
    → frame_word cursor width screen (from + c) ≡ row_word cursor y (λ k. word_of (slice_index (take m (drop from screen)) k)) c
row-is cursor width y from m c screen shown start size below =
    let place = from + c in
    let split : place ≡ y * (4 * width) + c = omega (arith, start) in
    let low : c < 4 * width = omega (arith, below, size) in
    let column : place % (4 * width) ≡ c = ap (λ n. n % (4 * width)) split ∙ mod-mul-add y (4 * width) c low in
    let row : place / (4 * width) ≡ y = ap (λ n. n / (4 * width)) split ∙ div-mul-add y (4 * width) c low in
    let byte : place % 4 ≡ c % 4 = omega (arith, start) in
    let at = image_word cursor in
    let word = word_of (get_or screen place 0) in
    let z = image_place cursor.x cursor.hot_x (c / 4) in
    let w = image_place cursor.y cursor.hot_y y in
    ap (λ b. cond b (covered_at words (image_place cursor.x cursor.hot_x (place % (4 * width) / 4)) (image_place cursor.y cursor.hot_y (place / (4 * width))) (place % 4) at word) word) shown
    ∙ (λ i. covered_at words (image_place cursor.x cursor.hot_x (column i / 4)) (image_place cursor.y cursor.hot_y (row i)) (byte i) at word)
    ∙ covered-by z w (c % 4) at word
    ∙ ap (by_row (on_image w) (on_image z) (c % 4) at) (sym (part-at screen from m c below))
    ∙ row-by (on_image w) cursor (λ k. word_of (get_or (take m (drop from screen)) k 0)) c

-- a frame without its cursor
pub hidden-is : (cursor : Cursor) (width : ℕ) (screen : List ℕ) (place : ℕ) → cursor.visible ≡ false → frame_word cursor width screen place ≡ word_of (slice_index screen place)
hidden-is cursor width screen place hidden =
    let word = word_of (get_or screen place 0) in
    ap (λ b. cond b (covered_at words (image_place cursor.x cursor.hot_x (place % (4 * width) / 4)) (image_place cursor.y cursor.hot_y (place / (4 * width))) (place % 4) (image_word cursor) word) word) hidden
