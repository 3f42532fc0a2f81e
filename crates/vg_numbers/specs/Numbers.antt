use Rattle.std.specs.Prelude.{ℕ, ◌+◌, ◌*◌, List, [], ◌∷◌, take, drop}
use Rattle.byteorder.specs.Endian.{little_bytes}

-- The number that bytes spell, the lowest first: the sum of bytes[i] * 256 ^ i (VIRTIO 1.2, 1.4).
abbrev pub number : List ℕ → ℕ
number [] = 0
number (byte ∷ bytes) = byte + 256 * number bytes

-- The number in the n bytes from place at.
unfoldable pub number_at : ℕ → ℕ → List ℕ → ℕ
number_at n at bytes = number (take n (drop at bytes))

-- The n bytes of a number, the lowest first.
unfoldable pub le : ℕ → ℕ → List ℕ
le n value = little_bytes n value
