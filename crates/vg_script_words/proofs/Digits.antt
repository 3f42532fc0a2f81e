-- The digits of a number, one at a time.
use Rattle.std.proofs.Common.{◌≡◌, ℕ, ◌+◌, ◌-◌, ◌*◌, ◌<◌, ◌≤◌, min, true, List, length, get_or, take, arith}
use Rattle.std.proofs.lemmas.Int.Digits.{digits_value_more}
use Rattle.std.proofs.lemmas.Bool.Decides.{nat_tests}
use Rattle.std.proofs.lemmas.List.Sums.{AllPass-from_list_all}
use Rattle.std.specs.Char.{is_ascii_digit, digit_value}
use Rattle.std.specs.List.{list_all}
use Rattle.std.specs.Str.Parse.{digits_value}
use Rattle.vg_script_words.specs.Words.{is_number}

digit_range : (c : ℕ) → is_ascii_digit c ≡ true → (48 ≤ c) × (c ≤ 57)
digit_range c h = (grind (arith, nat_tests), grind (arith, nat_tests))

pub digit_at : (xs : List ℕ) (i : ℕ) → list_all is_ascii_digit xs ≡ true → i < length xs → (48 ≤ get_or xs i 0) × (get_or xs i 0 ≤ 57)
digit_at xs i h lt = digit_range _ (AllPass-from_list_all is_ascii_digit xs h i 0 lt)

pub value_of_digit : (c : ℕ) → 48 ≤ c → c ≤ 57 → digit_value c ≡ c - 48
value_of_digit c low high = grind (arith, nat_tests)

-- The value saturates as it grows.
pub value_grows : (xs : List ℕ) (i top : ℕ) → list_all is_ascii_digit xs ≡ true → i < length xs
    → min (min (min (digits_value 10 (take i xs)) top * 10) top + (get_or xs i 0 - 48)) top ≡ min (digits_value 10 (take (i + 1) xs)) top
value_grows xs i top h lt =
    let d = digit_at xs i h lt in
    let same : digit_value (get_or xs i 0) ≡ get_or xs i 0 - 48 = value_of_digit _ d.0 d.1 in
    let more : digits_value 10 (take (i + 1) xs) ≡ digits_value 10 (take i xs) * 10 + digit_value (get_or xs i 0) = digits_value_more 10 xs i lt in
    omega (arith, same, more)

pub digits_from_number : (word : List ℕ) → is_number word ≡ true → list_all is_ascii_digit word ≡ true
digits_from_number word h = grind (arith, nat_tests)
