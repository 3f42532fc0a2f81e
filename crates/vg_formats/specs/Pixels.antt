-- The pixels of a rectangle.
use Rattle.std.specs.Prelude.{ℕ, ◌+◌, ◌-◌, ◌<◌, ◌≤◌, ◌==◌, ◌&&◌, ◌||◌, Bool, nat_le, nat_lt, min, max}
use Rattle.vg_formats.specs.declared.rect.Rect.{Rect}

-- The pixel in column x and row y lies in the rectangle.
abbrev pub Covers : Rect → ℕ → ℕ → Type 0
Covers r x y = (r.x ≤ x) × (x < r.x + r.width) × (r.y ≤ y) × (y < r.y + r.height)

-- No edge of the rectangle passes an area of this many columns and rows from 0, 0.
abbrev pub is_inside : Rect → ℕ → ℕ → Bool
is_inside r width height = nat_le (r.x + r.width) width && nat_le (r.y + r.height) height

-- No pixel lies in the rectangle.
abbrev pub is_empty : Rect → Bool
is_empty r = r.width == 0 || r.height == 0

-- No pixel lies in both.
abbrev pub AreApart : Rect → Rect → Type 0
AreApart a b = (x y : ℕ) → Covers a x y → Covers b x y → ⊥

-- The pixels of `common` are those that lie in both.
abbrev pub CoversCommon : Rect → Rect → Rect → Type 0
CoversCommon common a b =
    ((x y : ℕ) → Covers common x y → Covers a x y × Covers b x y)
    × ((x y : ℕ) → Covers a x y → Covers b x y → Covers common x y)

-- Some pixel lies in both: each starts before the other ends.
abbrev pub are_meeting : Rect → Rect → Bool
are_meeting a b =
    nat_lt (max a.x b.x) (min (a.x + a.width) (b.x + b.width))
    && nat_lt (max a.y b.y) (min (a.y + a.height) (b.y + b.height))

-- The pixels that lie in both, where some do.
abbrev pub common_of : Rect → Rect → Rect
common_of a b = record {
  x = max a.x b.x;
  y = max a.y b.y;
  width = min (a.x + a.width) (b.x + b.width) - max a.x b.x;
  height = min (a.y + a.height) (b.y + b.height) - max a.y b.y;
}

-- Some pixel lies in the rectangle.
abbrev pub HasPixels : Rect → Type 0
HasPixels r = (0 < r.width) × (0 < r.height)

-- No edge of `inner` lies outside `outer`.
abbrev pub LiesWithin : Rect → Rect → Type 0
LiesWithin inner outer =
    (outer.x ≤ inner.x) × (inner.x + inner.width ≤ outer.x + outer.width)
    × (outer.y ≤ inner.y) × (inner.y + inner.height ≤ outer.y + outer.height)
