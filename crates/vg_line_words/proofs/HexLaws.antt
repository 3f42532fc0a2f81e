-- Bytes and their digits.
use Rattle.std.proofs.Common.{◌≡◌, ℕ, ◌+◌, ◌*◌, ◌/◌, ◌%◌, ◌<◌, ◌≤◌, ◌==◌, ◌&&◌, Bool, true, false, nat_lt, nat_le, nat_eq, List, [], ◌∷◌, length, bytes_eq, codes, slice_index, if◌then◌else◌, Option, Some, None, arith, refl, sym, ap, ◌∙◌, subst}
use Rattle.std.proofs.lemmas.Bool.{and_parts, and_from, eqb-true, eqb-false, and_right, and_left, le-ltb, lt-leb, ltb-true, lt-ltb, eq-eqb, leb-true, le-leb}
use Rattle.std.proofs.lemmas.Bool.Decides.{nat_tests}
use Rattle.std.proofs.lemmas.List.Elements.{All-head, All-tail, All-cons, All-nil}
use Rattle.std.proofs.lemmas.Slice.Eq.{bytes_eq-Decides}
use Rattle.std.specs.Char.{digit_value}
use Rattle.std.specs.List.{list_all}
use Rattle.vg_laws.proofs.Below.{below, below_at}
use Rattle.hex.specs.Hex.{encode_with, encode_lower, lower_digits}
use Rattle.vg_text.specs.Text.{hex_text}
use Rattle.vg_script_words.specs.Words.{is_hex, is_hex_digit, hex_bytes}
use Rattle.vg_line_words.specs.Words.{AreBelow, bytes_of, bytes_within, at_most, is_plain, is_plain_byte}
use Rattle.vg_line_words.proofs.NumberLaws.{all_weaker}

-- A digit of a number is a digit and says it.
abbrev says : ℕ → Bool
says n = is_hex_digit (slice_index lower_digits n) && nat_eq (digit_value (slice_index lower_digits n)) n

all_say : below says 16 ≡ true
unfolding below
all_say = refl

digit_says : (n : ℕ) → n < 16 → (is_hex_digit (slice_index lower_digits n) ≡ true) × (digit_value (slice_index lower_digits n) ≡ n)
digit_says n small =
    let both = and_parts (is_hex_digit (slice_index lower_digits n)) (nat_eq (digit_value (slice_index lower_digits n)) n) (below_at says 16 n all_say small) in
    (both.0, eqb-true _ _ both.1)

-- A digit is that of the number that it says.
abbrev told : ℕ → Bool
told b = if is_hex_digit b then nat_lt (digit_value b) 16 && nat_eq (slice_index lower_digits (digit_value b)) b else true

all_told : below told 103 ≡ true
unfolding below
all_told = refl

digit_below : (b : ℕ) → is_hex_digit b ≡ true → b < 103
digit_below b is = grind (arith, nat_tests)

digit_told : (b : ℕ) → is_hex_digit b ≡ true → (digit_value b < 16) × (slice_index lower_digits (digit_value b) ≡ b)
digit_told b is =
    let at : told b ≡ true = below_at told 103 b all_told (digit_below b is) in
    let both = and_parts (nat_lt (digit_value b) 16) (nat_eq (slice_index lower_digits (digit_value b)) b) (ap (λ t. if t then nat_lt (digit_value b) 16 && nat_eq (slice_index lower_digits (digit_value b)) b else true) (sym is) ∙ at) in
    (ltb-true _ _ both.0, eqb-true _ _ both.1)

-- Bytes as digits.
pub digits_hex : (bytes : List ℕ) → AreBelow 256 bytes → list_all is_hex_digit (encode_lower bytes) ≡ true
unfolding encode_with
digits_hex [] are = refl
digits_hex (b ∷ bytes) are =
    let small = All-head (λ n. n < 256) b bytes are in
    let high = (digit_says (b / 16) (omega (arith, small))).0 in
    let low = (digit_says (b % 16) (omega (arith, small))).0 in
    and_from _ _ high (and_from _ _ low (digits_hex bytes (All-tail (λ n. n < 256) b bytes are)))

pub length_hex : (bytes : List ℕ) → length (encode_lower bytes) ≡ 2 * length bytes
unfolding encode_with
length_hex [] = refl
length_hex (b ∷ bytes) = let more = length_hex bytes in omega (arith, more)

pub hex_back : (bytes : List ℕ) → AreBelow 256 bytes → hex_bytes (encode_lower bytes) ≡ bytes
unfolding encode_with hex_bytes
hex_back [] are = refl
hex_back (b ∷ bytes) are =
    let small = All-head (λ n. n < 256) b bytes are in
    let high = (digit_says (b / 16) (omega (arith, small))).1 in
    let low = (digit_says (b % 16) (omega (arith, small))).1 in
    let first : digit_value (slice_index lower_digits (b / 16)) * 16 + digit_value (slice_index lower_digits (b % 16)) ≡ b = omega (arith, high, low) in
    ap (λ x. x ∷ hex_bytes (encode_lower bytes)) first ∙ ap (λ xs. b ∷ xs) (hex_back bytes (All-tail (λ n. n < 256) b bytes are))

pub hex_only : (word : List ℕ) → list_all is_hex_digit word ≡ true → length word % 2 ≡ 0 → (encode_lower (hex_bytes word) ≡ word) × (length word ≡ 2 * length (hex_bytes word)) × AreBelow 256 (hex_bytes word)
unfolding encode_with hex_bytes
hex_only [] all even = (refl, refl, All-nil (λ n. n < 256))
hex_only (a ∷ []) all even = absurd (omega (arith, even))
hex_only (a ∷ b ∷ word) all even =
    let first = and_parts (is_hex_digit a) (is_hex_digit b && list_all is_hex_digit word) all in
    let second = and_parts (is_hex_digit b) (list_all is_hex_digit word) first.1 in
    let high = digit_told a first.0 in
    let low = digit_told b second.0 in
    let more = hex_only word second.1 (omega (arith, even)) in
    let quotient : (digit_value a * 16 + digit_value b) / 16 ≡ digit_value a = omega (arith, low.0) in
    let rest : (digit_value a * 16 + digit_value b) % 16 ≡ digit_value b = omega (arith, low.0) in
    let one : slice_index lower_digits ((digit_value a * 16 + digit_value b) / 16) ≡ a = ap (slice_index lower_digits) quotient ∙ high.1 in
    let two : slice_index lower_digits ((digit_value a * 16 + digit_value b) % 16) ≡ b = ap (slice_index lower_digits) rest ∙ low.1 in (
      ap (λ x. x ∷ slice_index lower_digits ((digit_value a * 16 + digit_value b) % 16) ∷ encode_lower (hex_bytes word)) one ∙ ap (λ x. a ∷ x ∷ encode_lower (hex_bytes word)) two ∙ ap (λ xs. a ∷ b ∷ xs) more.0,
      (let size = more.1 in omega (arith, size)),
      All-cons (λ n. n < 256) (digit_value a * 16 + digit_value b) (hex_bytes word) (omega (arith, high.0, low.0)) more.2,
    )

-- What is two digits or more is no `-`.
pub two_no_dash : (a b : ℕ) (more : List ℕ) → bytes_eq (a ∷ b ∷ more) (codes "-") ≡ false
two_no_dash a b more = and_right _ _ refl

pub bytes_back : (bytes : List ℕ) → AreBelow 256 bytes → bytes_of (hex_text bytes) ≡ Some bytes
unfolding bytes_of encode_with
bytes_back [] are = refl
bytes_back (b ∷ bytes) are =
    let text : List ℕ = encode_lower (b ∷ bytes) in
    let no : bytes_eq (encode_lower (b ∷ bytes)) (codes "-") ≡ false = two_no_dash (slice_index lower_digits (b / 16)) (slice_index lower_digits (b % 16)) (encode_lower bytes) in
    let size = length_hex (b ∷ bytes) in
    let is : (nat_lt 0 (length (encode_lower (b ∷ bytes))) && is_hex (encode_lower (b ∷ bytes))) ≡ true =
    and_from _ _ (lt-ltb 0 (length text) (omega (arith, size))) (and_from _ _ (eq-eqb (length text % 2) 0 (omega (arith, size))) (digits_hex (b ∷ bytes) are)) in
    ap (λ t. if t then Some [] else if nat_lt 0 (length text) && is_hex text then Some (hex_bytes text) else None) no
    ∙ ap (λ t. if t then Some (hex_bytes text) else None) is ∙ ap Some (hex_back (b ∷ bytes) are)

-- What has a byte is spelled in digits.
spelled : (bytes : List ℕ) → 0 < length bytes → hex_text bytes ≡ encode_lower bytes
spelled [] some = absurd (omega (arith, some))
spelled (b ∷ bytes) some = refl

read_by : (t u : Bool) (word bytes : List ℕ) → bytes_eq word (codes "-") ≡ t → (nat_lt 0 (length word) && is_hex word) ≡ u → (if t then Some [] else if u then Some (hex_bytes word) else None) ≡ Some bytes → (word ≡ hex_text bytes) × AreBelow 256 bytes
read_by true u word bytes dash hex is =
    let none : [] ≡ bytes = cc in
    ((bytes_eq-Decides word (codes "-")).0 dash ∙ ap hex_text none, subst (AreBelow 256) none (All-nil (λ n. n < 256)))
read_by false true word bytes dash hex is =
    let same : hex_bytes word ≡ bytes = cc in
    let both = and_parts (nat_lt 0 (length word)) (is_hex word) hex in
    let parts = and_parts (length word % 2 == 0) (list_all is_hex_digit word) both.1 in
    let some = ltb-true _ _ both.0 in
    let read = hex_only word parts.1 (eqb-true _ _ parts.0) in
    let size = read.1 in
    (sym (spelled (hex_bytes word) (omega (arith, some, size)) ∙ read.0) ∙ ap hex_text same, subst (AreBelow 256) same read.2)
read_by false false word bytes dash hex is = absurd cc

pub bytes_read : (word bytes : List ℕ) → bytes_of word ≡ Some bytes → (word ≡ hex_text bytes) × AreBelow 256 bytes
unfolding bytes_of
bytes_read word bytes is = read_by (bytes_eq word (codes "-")) (nat_lt 0 (length word) && is_hex word) word bytes refl refl is

-- At most so many bytes.
within_by : (b : Bool) (most : ℕ) (read bytes : List ℕ) → nat_le (length read) most ≡ b → (if b then Some read else None) ≡ Some bytes → (read ≡ bytes) × (length bytes ≤ most)
within_by true most read bytes few is = let same : read ≡ bytes = cc in (same, subst (λ l. length l ≤ most) same (leb-true _ _ few))
within_by false most read bytes few is = absurd cc

pub within_parts : (most : ℕ) (o : Option (List ℕ)) (bytes : List ℕ) → at_most most o ≡ Some bytes → (o ≡ Some bytes) × (length bytes ≤ most)
within_parts most None bytes is = absurd cc
within_parts most (Some read) bytes is = let both = within_by (nat_le (length read) most) most read bytes refl is in (ap Some both.0, both.1)

pub bytes_only : (word bytes : List ℕ) → bytes_of word ≡ Some bytes → word ≡ hex_text bytes
bytes_only word bytes is = (bytes_read word bytes is).0

pub bytes_range : (word bytes : List ℕ) → bytes_of word ≡ Some bytes → AreBelow 256 bytes
bytes_range word bytes is = (bytes_read word bytes is).1

pub within_few : (most : ℕ) (word bytes : List ℕ) → bytes_of word ≡ Some bytes → length bytes ≤ most → bytes_within most word ≡ Some bytes
within_few most word bytes is few = ap (at_most most) is ∙ ap (λ b. if b then Some bytes else None) (le-leb _ _ few)

plain_digit : (b : ℕ) → is_hex_digit b ≡ true → is_plain_byte b ≡ true
plain_digit b is = grind (arith, nat_tests)

pub plain_bytes : (bytes : List ℕ) → AreBelow 256 bytes → is_plain (hex_text bytes) ≡ true
unfolding is_plain
plain_bytes [] are = refl
plain_bytes (b ∷ bytes) are =
    let size = length_hex (b ∷ bytes) in
    and_from _ _ (lt-ltb 0 (length (encode_lower (b ∷ bytes))) (omega (arith, size))) (all_weaker is_hex_digit is_plain_byte plain_digit (encode_lower (b ∷ bytes)) (digits_hex (b ∷ bytes) are))

-- What the code answers, at each of its exits.
pub given_none : (word bytes : List ℕ) → bytes_eq word (codes "-") ≡ true → bytes ≡ [] → Some bytes ≡ bytes_of word
unfolding bytes_of
given_none word bytes dash none = ap Some none ∙ sym (ap (λ b. if b then Some [] else if nat_lt 0 (length word) && is_hex word then Some (hex_bytes word) else None) dash)

other_by : (word : List ℕ) (b : Bool) → bytes_eq word (codes "-") ≡ false → (nat_lt 0 (length word) && is_hex word) ≡ b → bytes_of word ≡ (if b then Some (hex_bytes word) else None)
unfolding bytes_of
other_by word b dash is =
    ap (λ t. if t then Some [] else if nat_lt 0 (length word) && is_hex word then Some (hex_bytes word) else None) dash
    ∙ ap (λ t. if t then Some (hex_bytes word) else None) is

pub given_empty : (word : List ℕ) → bytes_eq word (codes "-") ≡ false → length word ≡ 0 → None ≡ bytes_of word
given_empty word dash none = sym (other_by word false dash (and_left _ _ (le-ltb 0 (length word) (omega (arith, none)))))

pub given_other : (word : List ℕ) → bytes_eq word (codes "-") ≡ false → is_hex word ≡ false → None ≡ bytes_of word
given_other word dash hex = sym (other_by word false dash (and_right _ _ hex))

pub given_bytes : (word bytes : List ℕ) → bytes_eq word (codes "-") ≡ false → 0 < length word → is_hex word ≡ true → bytes ≡ hex_bytes word → Some bytes ≡ bytes_of word
given_bytes word bytes dash some hex is = ap Some is ∙ sym (other_by word true dash (and_from _ _ (lt-ltb 0 (length word) some) hex))

-- HEX is twice as long as its bytes.
text_length : (bytes : List ℕ) → length (hex_text bytes) / 2 ≡ length bytes
text_length [] = refl
text_length (b ∷ bytes) = let size = length_hex (b ∷ bytes) in omega (arith, size)

short_by : (o : Option (List ℕ)) (most : ℕ) (word : List ℕ) → bytes_of word ≡ o → length word / 2 ≤ most → o ≡ at_most most o
short_by None most word is few = refl
short_by (Some bytes) most word is few =
    let size : length word / 2 ≡ length bytes = ap (λ w. length w / 2) (bytes_only word bytes is) ∙ text_length bytes in
    sym (ap (λ b. if b then Some bytes else None) (le-leb (length bytes) most (omega (arith, size, few))))

pub within_short : (most : ℕ) (word : List ℕ) → length word / 2 ≤ most → bytes_of word ≡ bytes_within most word
within_short most word few = short_by (bytes_of word) most word refl few

long_by : (o : Option (List ℕ)) (most : ℕ) (word : List ℕ) → bytes_of word ≡ o → most < length word / 2 → None ≡ at_most most o
long_by None most word is many = refl
long_by (Some bytes) most word is many =
    let size : length word / 2 ≡ length bytes = ap (λ w. length w / 2) (bytes_only word bytes is) ∙ text_length bytes in
    sym (ap (λ b. if b then Some bytes else None) (lt-leb (length bytes) most (omega (arith, size, many))))

pub within_long : (most : ℕ) (word : List ℕ) → most < length word / 2 → None ≡ bytes_within most word
within_long most word many = long_by (bytes_of word) most word refl many

pub some_bytes : (n : ℕ) → (n == 0) ≡ false → 0 < n
some_bytes n is = let other = eqb-false n 0 is in omega (arith, other)
