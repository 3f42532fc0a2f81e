-- What TRANSFER_TO_HOST_2D copies (VIRTIO 1.2, 5.7.6.8), pixel by pixel.
use Rattle.std.specs.Prelude.{◌≡◌, ℕ, ◌+◌, ◌*◌, ◌<◌, List, take, drop}
use Rattle.vg_formats.specs.declared.rect.Rect.{Rect}
use Rattle.vg_formats.specs.Pixels.{Covers}
use Rattle.vg_places.specs.Pixels.{pixel_of}

-- Of the pixels of a resource of this width and height, pixel (i, j) of the rectangle has its bytes of these, and the others
-- are as before.
pub record CopiesRect (rect : Rect) (offset width height : ℕ) (bytes old new : List ℕ) : Type 0 where
  pub copied : (i j : ℕ) → i < rect.width → j < rect.height → pixel_of new width (rect.x + i) (rect.y + j) ≡ take 4 (drop (offset + 4 * width * j + 4 * i) bytes)
  pub kept : (x y : ℕ) → x < width → y < height → ¬ Covers rect x y → pixel_of new width x y ≡ pixel_of old width x y
