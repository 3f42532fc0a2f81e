use Rattle.std.specs.Prelude.{ℕ, ◌+◌, ◌^◌, ◌<◌, List, ◌++◌}
use Rattle.vg_formats.specs.declared.rect.Rect.{Rect}
use Rattle.vg_numbers.specs.Numbers.{number_at, le}

-- The rectangle whose 16 bytes stand from place at (VIRTIO 1.2, 5.7.6.8, struct virtio_gpu_rect).
abbrev pub rect_at : ℕ → List ℕ → Rect
rect_at at bytes = record {
  x = number_at 4 at bytes;
  y = number_at 4 (at + 4) bytes;
  width = number_at 4 (at + 8) bytes;
  height = number_at 4 (at + 12) bytes;
}

-- A rectangle's 16 bytes.
unfoldable pub rect_bytes : Rect → List ℕ
rect_bytes rect = le 4 rect.x ++ le 4 rect.y ++ le 4 rect.width ++ le 4 rect.height

-- A rectangle whose numbers fit their bytes, as each value of the type does.
pub record IsRect (rect : Rect) : Type 0 where
  pub x : rect.x < 2 ^ 32
  pub y : rect.y < 2 ^ 32
  pub width : rect.width < 2 ^ 32
  pub height : rect.height < 2 ^ 32
