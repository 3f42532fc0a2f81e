use Rattle.std.specs.Prelude.{ℕ, ℤ, List, ◌++◌}
use Rattle.std.specs.Int.{cast_signed, cast_unsigned, w32}
use Rattle.vg_numbers.specs.Numbers.{number_at, le}

-- The signed number in the four bytes from place at, in two's complement: from 2^31 on it stands for itself less 2^32.
unfoldable pub signed_at : ℕ → List ℕ → ℤ
signed_at at bytes = cast_signed w32 (number_at 4 at bytes)

-- The four bytes of a signed number.
unfoldable pub signed_bytes : ℤ → List ℕ
signed_bytes z = le 4 (cast_unsigned w32 z)

-- struct virtio_gpu_cursor_pos: scanout_id, x, y, padding (VIRTIO 1.2, 5.7.6.10); x and y are signed
unfoldable pub position : ℕ → ℤ → ℤ → List ℕ
position scanout x y = le 4 scanout ++ signed_bytes x ++ signed_bytes y ++ le 4 0

-- A number for each of four planes: that of plane 0, and 0 for the others.
unfoldable pub planes : ℕ → List ℕ
planes first = le 4 first ++ le 4 0 ++ le 4 0 ++ le 4 0
