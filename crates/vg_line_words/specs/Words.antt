-- The words of a journal's line, and what they say: a reader gives what a word says, or nothing where it is no such word.
use Rattle.std.specs.Prelude.{ℕ, ◌<◌, ◌==◌, ◌&&◌, not, nat_lt, nat_le, Bool, if◌then◌else◌, List, [], ◌∷◌, Option, Some, None, length, map, bytes_eq, codes, decimal}
use Rattle.std.specs.List.{All, list_all, slice_split, join_with_byte}
use Rattle.vg_script_words.specs.Words.{is_number, value, is_hex, hex_bytes}

-- What stands between the marks of a text, with what is empty.
unfoldable pub parts_at : ℕ → List ℕ → List (List ℕ)
parts_at mark text = slice_split (λ b. b == mark) text

-- The mark doesn't stand in a word.
abbrev pub lacks : ℕ → List ℕ → Bool
lacks mark word = list_all (λ b. not (b == mark)) word

-- A plain word has a byte, and no blank (32), no line end (10) and no `=` (61).
abbrev pub is_plain_byte : ℕ → Bool
is_plain_byte b = not (b == 32) && not (b == 10) && not (b == 61)

unfoldable pub is_plain : List ℕ → Bool
is_plain word = nat_lt 0 (length word) && list_all is_plain_byte word

-- Each number is below a bound.
abbrev pub AreBelow : ℕ → List ℕ → Type 0
AreBelow bound numbers = All (λ n. n < bound) numbers

-- A number below a bound.
unfoldable pub number_of : ℕ → List ℕ → Option ℕ
number_of bound word = if is_number word && nat_lt (value word) bound then Some (value word) else None

-- Bytes as digits, `-` for none.
unfoldable pub bytes_of : List ℕ → Option (List ℕ)
bytes_of word =
    if bytes_eq word (codes "-") then Some []
    else if nat_lt 0 (length word) && is_hex word then Some (hex_bytes word)
    else None

-- The same, of at most so many bytes.
abbrev pub at_most : ℕ → Option (List ℕ) → Option (List ℕ)
at_most most None = None
at_most most (Some bytes) = if nat_le (length bytes) most then Some bytes else None

abbrev pub bytes_within : ℕ → List ℕ → Option (List ℕ)
bytes_within most word = at_most most (bytes_of word)

-- Words of numbers, each below a bound.
abbrev pub and_more : Option ℕ → Option (List ℕ) → Option (List ℕ)
and_more None more = None
and_more (Some n) None = None
and_more (Some n) (Some more) = Some (n ∷ more)

unfoldable pub all_numbers : ℕ → List (List ℕ) → Option (List ℕ)
all_numbers bound [] = Some []
all_numbers bound (word ∷ words) = and_more (number_of bound word) (all_numbers bound words)

-- Numbers with a comma (44) between two, `-` for none.
abbrev pub numbers_text : List ℕ → List ℕ
numbers_text [] = codes "-"
numbers_text (n ∷ more) = join_with_byte 44 (map decimal (n ∷ more))

unfoldable pub numbers_of : ℕ → List ℕ → Option (List ℕ)
numbers_of bound word = if bytes_eq word (codes "-") then Some [] else all_numbers bound (parts_at 44 word)
