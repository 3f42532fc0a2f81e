-- A list of rows of pixels is told by its pixels, so one list alone has what a transfer copies.
use Rattle.std.proofs.Common.{◌≡◌, ℕ, zero, suc, ◌+◌, ◌-◌, ◌*◌, ◌/◌, ◌%◌, ◌<◌, Bool, true, false, List, length, get_or, sym, ap, refl, subst, ◌∙◌, arith}
use Rattle.std.specs.Prelude.{◌&&◌, nat_le, nat_lt}
use Rattle.std.proofs.lemmas.Bool.Decides.{nat_tests}
use Rattle.std.proofs.lemmas.Grind.{same_number_lists}
use Rattle.std.proofs.lemmas.Nat.{div-add-mod', div_below, mod_below}
use Rattle.vg_formats.specs.declared.rect.Rect.{Rect}
use Rattle.vg_formats.specs.Pixels.{Covers}
use Rattle.vg_places.specs.Pixels.{pixel_of}
use Rattle.vg_places.proofs.PixelLemmas.{of-four}
use Rattle.vg_transfer.specs.Pixels.{CopiesRect}

some-width : (width height k : ℕ) → k < 4 * width * height → 0 < width
some-width zero height k within = omega (arith, within)
some-width (suc width) height k within = omega arith

-- a byte of one pixel, where the pixels are the same
byte-same : (width y x c k : ℕ) (xs ys : List ℕ) → c < 4 → 4 * (width * y + x) + c ≡ k → pixel_of xs width x y ≡ pixel_of ys width x y → get_or xs k 0 ≡ get_or ys k 0
byte-same width y x c k xs ys below at same =
    let p = 4 * (width * y + x) in
    ap (λ n. get_or xs n 0) (sym at) ∙ sym (of-four xs p c below) ∙ ap (λ four. get_or four c 0) same ∙ of-four ys p c below ∙ ap (λ n. get_or ys n 0) at

-- two lists of one size with the same pixels
pub pixels-tell : (width height : ℕ) (xs ys : List ℕ) → length xs ≡ 4 * width * height → length ys ≡ 4 * width * height
    → ((x y : ℕ) → x < width → y < height → pixel_of xs width x y ≡ pixel_of ys width x y) → xs ≡ ys
pixels-tell width height xs ys long as_long same =
    same_number_lists xs ys (long ∙ sym as_long) (λ k within.
    let inside : k < 4 * width * height = omega (arith, within, long) in
    let some = some-width width height k inside in
    let p = k / 4 in
    let four : p * 4 + k % 4 ≡ k = div-add-mod' k 4 in
    let low : k % 4 < 4 = mod_below k 4 (omega arith) in
    let few : p < height * width = div_below k 4 (height * width) (omega arith) (grind (arith, inside)) in
    let down : p / width < height = div_below p width height some few in
    let across : p % width < width = mod_below p width some in
    let row : p / width * width + p % width ≡ p = div-add-mod' p width in
    let at : 4 * (width * (p / width) + p % width) + k % 4 ≡ k = grind (arith, row, four) in
    byte-same width (p / width) (p % width) (k % 4) k xs ys low at (same (p % width) (p / width) across down))

abbrev is_covered : Rect → ℕ → ℕ → Bool
is_covered rect x y = nat_le rect.x x && nat_lt x (rect.x + rect.width) && nat_le rect.y y && nat_lt y (rect.y + rect.height)

covers : (rect : Rect) (x y : ℕ) → is_covered rect x y ≡ true → Covers rect x y
covers rect x y e = (grind (arith, nat_tests, e), grind (arith, nat_tests, e), grind (arith, nat_tests, e), grind (arith, nat_tests, e))

covers-not : (rect : Rect) (x y : ℕ) → is_covered rect x y ≡ false → ¬ Covers rect x y
covers-not rect x y e = λ c. grind (arith, nat_tests, e, c.0, c.1, c.2, c.3)

-- a pixel lies in the rectangle or doesn't
pub by-cover : (rect : Rect) (x y : ℕ) (P : Type 0) → (Covers rect x y → P) → (¬ Covers rect x y → P) → P
by-cover rect x y P inside outside = by_test (is_covered rect x y) refl
  where
    by_test : (b : Bool) → is_covered rect x y ≡ b → P
    by_test true e = inside (covers rect x y e)
    by_test false e = outside (covers-not rect x y e)

pub one-copy : (rect : Rect) (offset width height : ℕ) (bytes old one other : List ℕ) → length one ≡ 4 * width * height → length other ≡ 4 * width * height
    → CopiesRect rect offset width height bytes old one → CopiesRect rect offset width height bytes old other → one ≡ other
one-copy rect offset width height bytes old one other long as_long first second =
    pixels-tell width height one other long as_long (λ x y across down.
    by-cover rect x y (pixel_of one width x y ≡ pixel_of other width x y)
    (λ c.
    let i = x - rect.x in
    let j = y - rect.y in
    let ex : rect.x + i ≡ x = omega (arith, c.0) in
    let ey : rect.y + j ≡ y = omega (arith, c.2) in
    let wide : i < rect.width = omega (arith, c.0, c.1) in
    let high : j < rect.height = omega (arith, c.2, c.3) in
    subst (λ a. pixel_of one width a y ≡ pixel_of other width a y) ex
    (subst (λ b. pixel_of one width (rect.x + i) b ≡ pixel_of other width (rect.x + i) b) ey (first.copied i j wide high ∙ sym (second.copied i j wide high))))
    (λ not. first.kept x y across down not ∙ sym (second.kept x y across down not)))
