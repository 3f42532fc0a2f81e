-- The digits of HEX, a pair at a time.
use Rattle.std.proofs.Common.{◌≡◌, ℕ, ◌+◌, ◌*◌, ◌%◌, ◌<◌, ◌&&◌, Bool, true, List, [], ◌∷◌, ◌++◌, ◌/◌, if◌then◌else◌, length, take, drop, drop-drop, get_or, bit_and, nat_eq, w16, arith, refl, ap, ◌∙◌, suc, zero, sym}
use Rattle.std.proofs.lemmas.Bool.Decides.{nat_tests}
use Rattle.std.proofs.lemmas.Bool.{and_parts, eqb-true}
use Rattle.std.proofs.lemmas.List.Folds.{list_all-append}
use Rattle.std.proofs.lemmas.List.{take-append-drop, length-take-le}
use Rattle.std.proofs.Math.Seq.{take-add}
use Rattle.std.specs.Char.{digit_value}
use Rattle.std.specs.Int.{from_le_bytes}
use Rattle.std.specs.List.{list_all}
use Rattle.std.specs.Simd.{first_chunks}
use Rattle.vg_laws.proofs.Below.{below, below_at}
use Rattle.vg_script_words.specs.Words.{is_hex_digit, hex_bytes}

-- Whole pairs, and others behind them.
hex_append : (xs ys : List ℕ) → length xs % 2 ≡ 0 → hex_bytes (xs ++ ys) ≡ hex_bytes xs ++ hex_bytes ys
unfolding hex_bytes
hex_append [] ys even = refl
hex_append (a ∷ []) ys even = absurd (omega (arith, even))
hex_append (a ∷ b ∷ xs) ys even = ap (λ l. (digit_value a * 16 + digit_value b) ∷ l) (hex_append xs ys (omega (arith, even)))

-- One pair more.
pub hex_more : (xs : List ℕ) (i : ℕ) → 2 * i + 1 < length xs → hex_bytes (take (2 * (i + 1)) xs) ≡ hex_bytes (take (2 * i) xs) ++ hex_bytes (take 2 (drop (2 * i) xs))
hex_more xs i within =
    let two : 2 * (i + 1) ≡ 2 * i + 2 = omega arith in
    let size = length-take-le (2 * i) xs (omega (arith, within)) in
    ap (λ n. hex_bytes (take n xs)) two ∙ ap hex_bytes (take-add (2 * i) 2 xs) ∙ hex_append (take (2 * i) xs) (take 2 (drop (2 * i) xs)) (omega (arith, size))

-- A part of what are all digits.
pub part_digits : (xs : List ℕ) (m n : ℕ) → list_all is_hex_digit xs ≡ true → list_all is_hex_digit (take n (drop m xs)) ≡ true
part_digits xs m n all =
    let back = and_parts (list_all is_hex_digit (take m xs)) (list_all is_hex_digit (drop m xs)) (sym (list_all-append is_hex_digit (take m xs) (drop m xs)) ∙ ap (list_all is_hex_digit) (take-append-drop m xs) ∙ all) in
    (and_parts (list_all is_hex_digit (take n (drop m xs))) (list_all is_hex_digit (drop n (drop m xs))) (sym (list_all-append is_hex_digit (take n (drop m xs)) (drop n (drop m xs))) ∙ ap (list_all is_hex_digit) (take-append-drop n (drop m xs)) ∙ back.1)).0

-- The pairs of a word.
pub pair_at : (k i : ℕ) (xs d : List ℕ) → i < k → get_or (first_chunks 2 k xs) i d ≡ take 2 (drop (2 * i) xs)
pair_at zero i xs d within = absurd (omega (arith, within))
pair_at (suc k) zero xs d within = refl
pair_at (suc k) (suc i) xs d within =
    let two : 2 + 2 * i ≡ 2 * suc i = omega arith in
    pair_at k i (drop 2 xs) d (omega (arith, within)) ∙ ap (take 2) (drop-drop (2 * i) 2 xs ∙ ap (λ n. drop n xs) two)

-- What the code makes of two digits that are read as one number, the first in its lower half.
abbrev both_digits : ℕ → ℕ
both_digits n = bit_and n 3855 + 9 * bit_and (n / 64) 257

abbrev pub told : ℕ → ℕ
told n = both_digits n % 16 * 16 + both_digits n / 256

-- It is held against the definition at each two digits, by computing.
abbrev tells : ℕ → ℕ → Bool
tells a b = if is_hex_digit b then nat_eq (told (a + b * 256)) (digit_value a * 16 + digit_value b) else true

abbrev tells_all : ℕ → Bool
tells_all a = if is_hex_digit a then below (tells a) 103 else true

digit_below : (a : ℕ) → is_hex_digit a ≡ true → a < 103
digit_below a is = grind (arith, nat_tests)

digit_small : (a : ℕ) → is_hex_digit a ≡ true → digit_value a < 16
digit_small a is = grind (arith, nat_tests)

pair_told : (a b : ℕ) → below tells_all 103 ≡ true → is_hex_digit a ≡ true → is_hex_digit b ≡ true → told (a + b * 256) ≡ digit_value a * 16 + digit_value b
pair_told a b all first second =
    let at : tells_all a ≡ true = below_at tells_all 103 a all (digit_below a first) in
    let row : below (tells a) 103 ≡ true = ap (λ t. if t then below (tells a) 103 else true) (sym first) ∙ at in
    let one : tells a b ≡ true = below_at (tells a) 103 b row (digit_below b second) in
    eqb-true (told (a + b * 256)) (digit_value a * 16 + digit_value b) (ap (λ t. if t then nat_eq (told (a + b * 256)) (digit_value a * 16 + digit_value b) else true) (sym second) ∙ one)

pub byte_told : (pair : List ℕ) (n : ℕ) → length pair ≡ 2 → n ≡ from_le_bytes w16 pair → list_all is_hex_digit pair ≡ true → (hex_bytes pair ≡ told n ∷ []) × (told n < 256)
unfolding below hex_bytes
byte_told [] n size is all = absurd (omega (arith, size))
byte_told (a ∷ []) n size is all = absurd (omega (arith, size))
byte_told (a ∷ b ∷ c ∷ more) n size is all = absurd (omega (arith, size))
byte_told (a ∷ b ∷ []) n size is all =
    let first = and_parts (is_hex_digit a) (is_hex_digit b && true) all in
    let second = and_parts (is_hex_digit b) true first.1 in
    let worth : n ≡ a + b * 256 = is ∙ omega arith in
    let both : told n ≡ digit_value a * 16 + digit_value b = ap told worth ∙ pair_told a b refl first.0 second.0 in
    let high = digit_small a first.0 in
    let low = digit_small b second.0 in
    (ap (λ x. x ∷ []) (sym both), omega (arith, both, high, low))
