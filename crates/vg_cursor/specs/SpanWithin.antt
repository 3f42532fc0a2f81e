-- What an image and a screen have in common along one axis.
use Rattle.std.specs.Prelude.{◌≡◌, ◌≤◌, ◌<◌, ◌⊎◌, ℕ, ◌+◌, ℤ, pos, negsuc}
use Rattle.vg_cursor.specs.declared.span.Span.{Span}
use Rattle.vg_cursor.specs.Blended.{image_place, IsOnImage}

-- How far a position lies to the right of 0, and how far to the left.
abbrev pub sides : ℤ → ℕ × ℕ
sides (pos n) = (n, 0)
sides (negsuc n) = (0, n + 1)

-- The span has the places of the screen over which the image has a place, each of them and no other.
pub record IsSpan (position : ℤ) (hot size : ℕ) (span : Span) : Type 0 where
  pub on_screen : span.first + span.count ≤ size
  pub in_image : span.from + span.count ≤ 64
  pub inside : (i : ℕ) → i < span.count → image_place position hot (span.first + i) ≡ pos (span.from + i)
  pub outside : (place : ℕ) → place < size → (place < span.first) ⊎ (span.first + span.count ≤ place) → IsOnImage (image_place position hot place) → ⊥
