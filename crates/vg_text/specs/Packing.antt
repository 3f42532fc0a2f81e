-- What packed bytes say. A byte below 128 is a character. One from 128 says how many bytes come that are spelled as two digits
-- each: 127 less from 128 to 191, and 64 times 191 less from 192 to 223. One from 224 stands for so many bytes of 0, 223 less.
use Rattle.std.specs.Prelude.{ℕ, zero, suc, ◌-◌, ◌*◌, nat_lt, if◌then◌else◌, List, [], ◌∷◌, ◌++◌, replicate}
use Rattle.hex.specs.Hex.{encode_lower}

-- What a byte says, where so many that are spelled are to come.
abbrev pub said : ℕ → ℕ → List ℕ
said zero byte = if nat_lt byte 128 then byte ∷ [] else if nat_lt byte 224 then [] else encode_lower (replicate (byte - 223) 0)
said (suc n) byte = encode_lower (byte ∷ [])

-- How many that are spelled are to come behind it.
abbrev pub next : ℕ → ℕ → ℕ
next zero byte = if nat_lt byte 128 then 0 else if nat_lt byte 192 then byte - 127 else if nat_lt byte 224 then 64 * (byte - 191) else 0
next (suc n) byte = n

-- The text of packed bytes, where so many that are spelled are to come.
abbrev pub unpacked : ℕ → List ℕ → List ℕ
unpacked n [] = []
unpacked n (byte ∷ bytes) = said n byte ++ unpacked (next n byte) bytes

-- How many that are spelled are to come behind them.
abbrev pub left : ℕ → List ℕ → ℕ
left n [] = n
left n (byte ∷ bytes) = left (next n byte) bytes
