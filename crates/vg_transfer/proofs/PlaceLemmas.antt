-- Rows that are placed from bytes of a backing, beginning with the rectangle's first.
use Rattle.std.proofs.Common.{◌≡◌, ℕ, ◌+◌, ◌-◌, ◌*◌, ◌/◌, ◌%◌, ◌<◌, Bool, true, false, cond, List, length, get_or, slice_index, take, drop, sym, ap, ◌∙◌, refl, arith, le_refl}
use Rattle.std.proofs.lemmas.Bool.Decides.{nat_tests}
use Rattle.std.proofs.lemmas.List.{get_or-take, get_or-drop}
use Rattle.vg_places.specs.declared.rectangles.Area.{Area}
use Rattle.vg_places.specs.Places.{tabulate}
use Rattle.vg_places.specs.Rectangles.{is_inside, filled, filled_place, copied}
use Rattle.vg_places.proofs.Filled.{row-ends}
use Rattle.vg_formats.specs.declared.rect.Rect.{Rect}
use Rattle.vg_transfer.specs.Backings.{bytes_of_rect, placed, transfer_end}

place-alike : (a : Area) (row_length : ℕ) (one other : ℕ → ℕ → ℕ) (old : List ℕ) (k : ℕ) → ((i c : ℕ) → i < a.height → c < a.width → one i c ≡ other i c)
    → filled_place a row_length one old k ≡ filled_place a row_length other old k
place-alike a row_length one other old k alike = by_test (is_inside a q r) refl
  where
    q : ℕ
    q = k / row_length

    r : ℕ
    r = k % row_length

    by_test : (b : Bool) → is_inside a q r ≡ b → filled_place a row_length one old k ≡ filled_place a row_length other old k
    by_test true is =
        let row : q - a.row < a.height = grind (arith, nat_tests, is) in
        let column : r - a.column < a.width = grind (arith, nat_tests, is) in
        ap (λ b. cond b (one (q - a.row) (r - a.column)) (slice_index old k)) is ∙ alike (q - a.row) (r - a.column) row column
        ∙ sym (ap (λ b. cond b (other (q - a.row) (r - a.column)) (slice_index old k)) is)
    by_test false is =
        ap (λ b. cond b (one (q - a.row) (r - a.column)) (slice_index old k)) is
        ∙ sym (ap (λ b. cond b (other (q - a.row) (r - a.column)) (slice_index old k)) is)

-- a rectangle that is filled with the same in each of its places
filled-alike : (a : Area) (row_length : ℕ) (one other : ℕ → ℕ → ℕ) (old : List ℕ) → ((i c : ℕ) → i < a.height → c < a.width → one i c ≡ other i c)
    → filled a row_length one old ≡ filled a row_length other old
unfolding filled
filled-alike a row_length one other old alike = λ t. tabulate (length old) (λ k. place-alike a row_length one other old k alike t)

-- as many bytes of the source as the rectangle reads fill it as the source does
pub placed-alike : (rect : Rect) (offset width : ℕ) (source bytes pixels : List ℕ) → take (transfer_end rect 0 width) (drop offset source) ≡ bytes
    → placed rect width bytes pixels ≡ copied (bytes_of_rect rect) (4 * width) source (4 * width) offset pixels
placed-alike rect offset width source bytes pixels are =
    filled-alike (bytes_of_rect rect) (4 * width) (λ i c. slice_index bytes (0 + 4 * width * i + c)) (λ i c. slice_index source (offset + 4 * width * i + c)) pixels
    (λ i c row column.
    let count = transfer_end rect 0 width in
    let p = 0 + 4 * width * i + c in
    let ends = row-ends 0 (4 * width) rect.height (4 * rect.width) count i (le_refl count) row in
    let at : offset + p ≡ offset + 4 * width * i + c = omega arith in
    ap (λ xs. get_or xs p 0) (sym are) ∙ get_or-take count (drop offset source) p 0 (omega (arith, ends, column)) ∙ get_or-drop offset source p 0 ∙ ap (λ n. get_or source n 0) at)
