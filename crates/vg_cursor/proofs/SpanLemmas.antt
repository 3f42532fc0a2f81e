-- The span of an image along one axis, by the sign of its position.
use Rattle.std.proofs.Common.{◌≡◌, ℕ, ◌+◌, ◌-◌, ◌≤◌, min, inl, inr, ap, refl, arith}
use Rattle.std.specs.Prelude.{ℤ, pos, negsuc}
use Rattle.std.proofs.lemmas.Int.{ints}
use Rattle.vg_cursor.specs.Blended.{image_place, IsOnImage}
use Rattle.vg_cursor.specs.SpanWithin.{IsSpan, sides}

-- the place over a place of the screen, where the position lies so far to the right or to the left of 0
place-is : (position : ℤ) (hot : ℕ) (far : ℕ × ℕ) (place i : ℕ) → far ≡ sides position → place + hot + far.1 ≡ far.0 + i → image_place position hot place ≡ pos i
place-is (pos n) hot far place i is same =
    let r : far.0 ≡ n = ap (λ (p : ℕ × ℕ). p.0) is in
    let l : far.1 ≡ 0 = ap (λ (p : ℕ × ℕ). p.1) is in
    omega (arith, ints, r, l, same)
place-is (negsuc n) hot far place i is same =
    let r : far.0 ≡ 0 = ap (λ (p : ℕ × ℕ). p.0) is in
    let l : far.1 ≡ n + 1 = ap (λ (p : ℕ × ℕ). p.1) is in
    omega (arith, ints, r, l, same)

is-place : (position : ℤ) (hot : ℕ) (far : ℕ × ℕ) (place i : ℕ) → far ≡ sides position → image_place position hot place ≡ pos i → place + hot + far.1 ≡ far.0 + i
is-place (pos n) hot far place i is same =
    let r : far.0 ≡ n = ap (λ (p : ℕ × ℕ). p.0) is in
    let l : far.1 ≡ 0 = ap (λ (p : ℕ × ℕ). p.1) is in
    omega (arith, ints, r, l, same)
is-place (negsuc n) hot far place i is same =
    let r : far.0 ≡ 0 = ap (λ (p : ℕ × ℕ). p.0) is in
    let l : far.1 ≡ n + 1 = ap (λ (p : ℕ × ℕ). p.1) is in
    omega (arith, ints, r, l, same)

-- what is on the image is a place below 64
not-on-image : (z : ℤ) → ((i : ℕ) → z ≡ pos i → 64 ≤ i) → IsOnImage z → ⊥
not-on-image (pos i) past within = omega (arith, past i refl, within)
not-on-image (negsuc n) past within = within

pub span-is : (position : ℤ) (hot size : ℕ) (far : ℕ × ℕ) (first from count : ℕ) → far ≡ sides position
    → first ≡ min (far.0 - (far.1 + hot)) size → from ≡ min (far.1 + hot - far.0) 64 → count ≡ min (64 - from) (size - first)
    → IsSpan position hot size (record { first = first; from = from; count = count })
span-is position hot size far first from count is begin start many = record {
  on_screen = omega (arith, begin, many);
  in_image = omega (arith, start, many);
  inside = λ i below. place-is position hot far (first + i) (from + i) is (omega (arith, below, begin, start, many));
  outside = λ place within apart. not-on-image (image_place position hot place) (λ i same.
      let at = is-place position hot far place i is same in
      (elim apart [
        | inl low ↦ omega (arith, at, low, within, begin, start, many)
        | inr high ↦ omega (arith, at, high, within, begin, start, many)
      ]));
}
