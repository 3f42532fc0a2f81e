-- A line's words, and how numbers, HEX and names are spelled.
use Rattle.std.specs.Prelude.{ℕ, ℤ, pos, ◌+◌, ◌-ℤ◌, ◌*◌, ◌%◌, ◌==◌, ◌&&◌, ◌||◌, not, nat_lt, nat_le, Bool, false, if◌then◌else◌, List, [], ◌∷◌, length, filter, slice_index, bytes_eq, codes}
use Rattle.std.specs.Char.{is_ascii_digit, is_ascii_alphabetic, is_ascii_alphanumeric, digit_value}
use Rattle.std.specs.Int.{is_in_range}
use Rattle.std.specs.List.{list_all, slice_split}
use Rattle.std.specs.Str.Parse.{digits_value}

-- A line has at most 16,384 bytes, each from 32 to 126.
abbrev pub is_text : List ℕ → Bool
is_text line = nat_le (length line) 16384 && list_all (is_in_range 32 126) line

-- A line's words are what stands between its spaces.
unfoldable pub words_of : List ℕ → List (List ℕ)
words_of line = filter (λ word. not (length word == 0)) (slice_split (λ b. b == 32) line)

-- A number is decimal digits, without a sign and without a leading zero but for `0` itself.
abbrev pub is_number : List ℕ → Bool
is_number word = nat_lt 0 (length word) && list_all is_ascii_digit word && (length word == 1 || not (slice_index word 0 == 48))

-- What a number says.
abbrev pub value : List ℕ → ℕ
value word = digits_value 10 word

-- The number is one of these.
abbrev pub is_within : ℕ → ℕ → List ℕ → Bool
is_within low high word = nat_le low (value word) && nat_le (value word) high

-- A signed number is a number, or `-` (the byte 45) and a number that isn't 0.
abbrev pub is_signed : List ℕ → Bool
is_signed [] = false
is_signed (first ∷ digits) = if first == 45 then is_number digits && not (value digits == 0) else is_number (first ∷ digits)

-- What a signed number says.
abbrev pub signed_value : List ℕ → ℤ
signed_value [] = pos 0
signed_value (first ∷ digits) = if first == 45 then pos 0 -ℤ pos (value digits) else pos (value (first ∷ digits))

-- It says a number from -32,768 to 32,767.
abbrev pub is_position : List ℕ → Bool
is_position [] = false
is_position (first ∷ digits) = if first == 45 then is_within 0 32768 digits else is_within 0 32767 (first ∷ digits)

-- HEX is an even number of the digits 0 to 9 and a to f.
abbrev pub is_hex_digit : ℕ → Bool
is_hex_digit b = is_in_range 48 57 b || is_in_range 97 102 b

abbrev pub is_hex : List ℕ → Bool
is_hex word = length word % 2 == 0 && list_all is_hex_digit word

-- The bytes of HEX, the high digit of each first.
unfoldable pub hex_bytes : List ℕ → List ℕ
hex_bytes [] = []
hex_bytes (digit ∷ []) = []
hex_bytes (high ∷ low ∷ more) = (digit_value high * 16 + digit_value low) ∷ hex_bytes more

-- HEX, or `-` where there are no bytes.
abbrev pub is_hex_or_none : List ℕ → Bool
is_hex_or_none word = bytes_eq word (codes "-") || is_hex word

abbrev pub bytes_or_none : List ℕ → List ℕ
bytes_or_none word = if bytes_eq word (codes "-") then [] else hex_bytes word

-- A name is a letter, and at most 15 letters or digits behind it.
abbrev pub is_name : List ℕ → Bool
is_name word = is_ascii_alphabetic (slice_index word 0) && list_all is_ascii_alphanumeric word && nat_le (length word) 16

-- `-` stands where there is no name.
abbrev pub is_no_name : List ℕ → Bool
is_no_name word = bytes_eq word (codes "-")
