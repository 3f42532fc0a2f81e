use Rattle.std.specs.Prelude.{ℕ, ◌+◌, ◌&&◌, nat_lt, Bool, true, List, [], ◌∷◌, ◌++◌, codes}
use Rattle.hex.specs.Hex.{encode_lower}

-- The texts of things one after another, each with its number.
abbrev pub numbered : {X : Type 0} → (ℕ → X → List ℕ) → ℕ → List X → List ℕ
numbered text n [] = []
numbered text n (x ∷ xs) = text n x ++ numbered text (n + 1) xs

-- Bytes as lower-case hexadecimal digits, `-` for none.
abbrev pub hex_text : List ℕ → List ℕ
hex_text [] = codes "-"
hex_text (byte ∷ bytes) = encode_lower (byte ∷ bytes)

-- Each of these bytes is a character's, below 128.
abbrev pub are_characters : List ℕ → Bool
are_characters [] = true
are_characters (byte ∷ bytes) = nat_lt byte 128 && are_characters bytes
