-- The clients whose bytes a byte comes from, as one word of 64 bits: that of number c - 1 is client c's, of 32 clients and
-- the host.
use Rattle.std.specs.Prelude.{ℕ, suc, zero, ◌-◌, ◌^◌, ◌==◌, ◌&&◌, Bool, nat_le, if◌then◌else◌, List, bit_or}
use Rattle.std.specs.List.{filter, range_with_len}
use Rattle.std.specs.Int.{bit_at}
use Rattle.vg_painted.specs.Ink.{Ink}

-- The clients of each byte, each set as a word.
abbrev pub words : Ink ℕ ℕ
words = record {
  blank = 0;
  opaque = 0;
  stored = λ entry client page byte. 2 ^ (client - 1);
  fetched = λ entry word. word;
  shown = λ entry word. word;
  plain = λ word. word;
  blended = λ screen image a. bit_or screen (bit_or image a);
  solid = 0;
}

-- The set of the client whose number a byte is, from 1 to 33. Another byte is no one's.
abbrev pub word_of : ℕ → ℕ
word_of byte = if nat_le 1 byte && nat_le byte 33 then 2 ^ (byte - 1) else 0

-- The client is in the set of this word.
abbrev pub has_client : ℕ → ℕ → Bool
has_client word client = nat_le 1 client && (bit_at word (client - 1) == 1)

-- The clients of the words at so many places, as one word.
abbrev pub union_below : (ℕ → ℕ) → ℕ → ℕ
union_below at zero = 0
union_below at (suc n) = bit_or (union_below at n) (at n)

-- The clients of the set of a word, of 1 to 33, rising.
abbrev pub clients_in : ℕ → List ℕ
clients_in word = filter (has_client word) (range_with_len 1 33)
