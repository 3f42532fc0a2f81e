-- What a byte may be written with, and the bytes of a display written so.
use Rattle.std.specs.Prelude.{ℕ}

-- An ink says what stands for each byte that the display writes: an X for one of memory, pixels, screens and images, a Z for one of a frame.
pub record Ink (X Z : Type 0) : Type 0 where
  -- A byte that is cleared.
  pub blank : X
  -- The A of a pixel whose format has none.
  pub opaque : X
  -- A byte of this value, which this entry, of this client, stores in this page.
  pub stored : ℕ → ℕ → ℕ → ℕ → X
  -- A byte that this entry copies to pixels, and one that it copies to a screen or an image.
  pub fetched : ℕ → X → X
  pub shown : ℕ → X → X
  -- A frame's byte that is its screen's; one that is mixed of the screen's, the image's and the A of the image; the A of a mixed pixel.
  pub plain : X → Z
  pub blended : X → X → X → Z
  pub solid : Z

-- What stands at each place: of memory; of the pixels of each resource, by its id; of each scanout's screen, and of its image; and of each
-- frame, by its number from 0.
pub record Painting (X Z : Type 0) : Type 0 where
  pub memory : ℕ → X
  pub pixels : ℕ → ℕ → X
  pub screens : ℕ → ℕ → X
  pub images : ℕ → ℕ → X
  pub frames : ℕ → ℕ → Z
