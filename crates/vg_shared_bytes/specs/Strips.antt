-- Bytes that are cut into strips.
use Rattle.std.specs.Prelude.{◌≡◌, ℕ, ◌+◌, ◌-◌, ◌*◌, ◌/◌, ◌<◌, ◌≤◌, ◌&&◌, ◌⊎◌, nat_le, nat_lt, if◌then◌else◌, List, ◌++◌, drop, get_or, length, take}

-- Each of these strips has the 1,024 bytes of its place, or what is left of them, and together they have them all.
pub record IsCut (bytes : List ℕ) (strips : List (List ℕ)) : Type 0 where
  pub all : length bytes ≤ 1024 * length strips
  pub each : (k : ℕ) (d : List ℕ) → k < length strips → get_or strips k d ≡ take 1024 (drop (1024 * k) bytes)

-- These bytes, with others in place of those from the place `at` on.
abbrev pub put : ℕ → List ℕ → List ℕ → List ℕ
put at others bytes = take at bytes ++ others ++ drop (at + length others) bytes

-- From the strip on in which they begin, `wide` has the bytes with the others in their place: at least to their end, and then to the
-- end of a strip or to that of all.
pub record IsWide (bytes : List ℕ) (at : ℕ) (others wide : List ℕ) : Type 0 where
  pub is : wide ≡ take (length wide) (drop (1024 * (at / 1024)) (put at others bytes))
  pub far : at + length others ≤ 1024 * (at / 1024) + length wide
  pub whole : ((n : ℕ) × (1024 * (at / 1024) + length wide ≡ 1024 * n)) ⊎ (1024 * (at / 1024) + length wide ≡ length bytes)

-- The bytes of strip number `k` once `wide` stands in place of the strips from number `first` on, as far as it goes.
abbrev pub strip_with : ℕ → List ℕ → ℕ → List ℕ → List ℕ
strip_with first wide k strip =
    if nat_le first k && nat_lt (1024 * (k - first)) (length wide) then take 1024 (drop (1024 * (k - first)) wide) else strip
