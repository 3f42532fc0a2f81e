-- A number and its word.
use Rattle.std.proofs.Common.{◌≡◌, ℕ, ◌<◌, ◌≤◌, ◌^◌, ◌==◌, ◌&&◌, ◌||◌, Bool, true, false, not, List, [], ◌∷◌, length, decimal, slice_index, get_or, nat_lt, if◌then◌else◌, Some, None, arith, rules, refl, sym, ap, ◌∙◌, inl, inr}
use Rattle.std.proofs.lemmas.Bool.{and_parts, and_from, lt-ltb, ltb-true, eq-eqb, eqb-true, eqb-false, or_left, or_right, or_cases, not-true, not_from_false, ne_eqb, cases_lt}
use Rattle.std.proofs.lemmas.Bool.Decides.{nat_tests}
use Rattle.std.proofs.lemmas.Fmt.{decimal_nonempty, decimal_digit, first_decimal, digits_decimal, digits_value-decimal, decimal-digits_value}
use Rattle.std.proofs.lemmas.Str.Parse.{IsNumeralModel, numerals_by_value}
use Rattle.std.specs.Char.{is_ascii_digit}
use Rattle.std.specs.List.{list_all}
use Rattle.std.specs.Str.Parse.{digits_value}
use Rattle.vg_script_words.specs.Words.{is_number, value}
use Rattle.vg_line_words.specs.Words.{number_of, is_plain, is_plain_byte}

-- What a test lets through.
pub if_some : {X : Type 0} (b : Bool) (x y : X) → (if b then Some x else None) ≡ Some y → (b ≡ true) × (x ≡ y)
if_some true x y is = (refl, cc)
if_some false x y is = absurd cc

own : IsNumeralModel (λ ds. list_all is_ascii_digit ds ≡ true) (digits_value 10)
own = numerals_by_value _ (search rules)

pub digits-decimal : (n : ℕ) → n < 2 ^ 64 → list_all is_ascii_digit (decimal n) ≡ true
digits-decimal n fits = digits_decimal own n fits

leads : (n : ℕ) → n < 2 ^ 64 → (length (decimal n) == 1 || not (slice_index (decimal n) 0 == 48)) ≡ true
leads n fits =
    elim (cases_lt 0 n) [
      | inl some ↦
          let first = first_decimal n some fits in
          or_right (length (decimal n) == 1) (not (slice_index (decimal n) 0 == 48)) (not_from_false _ (ne_eqb _ _ (λ e. omega (arith, first, e))))
      | inr none ↦
          let one : length (decimal n) ≡ 1 = ap length (decimal_digit n (omega (arith, none))) in
          or_left (length (decimal n) == 1) (not (slice_index (decimal n) 0 == 48)) (eq-eqb _ _ one)
    ]

pub is_number-decimal : (n : ℕ) → n < 2 ^ 64 → is_number (decimal n) ≡ true
is_number-decimal n fits = and_from _ _ (and_from _ _ (lt-ltb 0 _ (decimal_nonempty n fits)) (digits-decimal n fits)) (leads n fits)

pub value-decimal : (n : ℕ) → n < 2 ^ 64 → value (decimal n) ≡ n
value-decimal n fits = digits_value-decimal own n fits

pub number_back : (bound n : ℕ) → n < bound → bound ≤ 2 ^ 64 → number_of bound (decimal n) ≡ Some n
unfolding number_of
number_back bound n small fits =
    let same = value-decimal n (omega (arith, small, fits)) in
    let is : (is_number (decimal n) && nat_lt (value (decimal n)) bound) ≡ true = and_from _ _ (is_number-decimal n (omega (arith, small, fits))) (lt-ltb _ _ (omega (arith, same, small))) in
    ap (λ b. if b then Some (value (decimal n)) else None) is ∙ ap Some same

led : (word : List ℕ) → (length word == 1 || not (slice_index word 0 == 48)) ≡ true → get_or word 0 0 ≡ 48 → length word ≡ 1
led word is zero =
    elim (or_cases (length word == 1) (not (slice_index word 0 == 48)) is) [
      | inl one ↦ eqb-true _ _ one
      | inr other ↦ absurd (eqb-false _ _ (not-true _ other) zero)
    ]

pub number_only : (bound n : ℕ) (word : List ℕ) → bound ≤ 2 ^ 64 → number_of bound word ≡ Some n → word ≡ decimal n
unfolding number_of
number_only bound n word fits is =
    let both = if_some (is_number word && nat_lt (value word) bound) (value word) n is in
    let tests = and_parts (is_number word) (nat_lt (value word) bound) both.0 in
    let parts = and_parts (nat_lt 0 (length word) && list_all is_ascii_digit word) (length word == 1 || not (slice_index word 0 == 48)) tests.0 in
    let front = and_parts (nat_lt 0 (length word)) (list_all is_ascii_digit word) parts.0 in
    let small = ltb-true _ _ tests.1 in
    sym (decimal-digits_value own word front.1 (ltb-true _ _ front.0) (led word parts.1) (omega (arith, small, fits))) ∙ ap decimal both.1

pub number_range : (bound n : ℕ) (word : List ℕ) → number_of bound word ≡ Some n → n < bound
unfolding number_of
number_range bound n word is =
    let both = if_some (is_number word && nat_lt (value word) bound) (value word) n is in
    let small = ltb-true _ _ (and_parts (is_number word) (nat_lt (value word) bound) both.0).1 in
    omega (arith, small, both.1)

-- What passes one test passes another.
pub all_weaker : (p q : ℕ → Bool) → ((b : ℕ) → p b ≡ true → q b ≡ true) → (xs : List ℕ) → list_all p xs ≡ true → list_all q xs ≡ true
all_weaker p q weaker [] all = refl
all_weaker p q weaker (x ∷ xs) all = let both = and_parts (p x) (list_all p xs) all in and_from (q x) (list_all q xs) (weaker x both.0) (all_weaker p q weaker xs both.1)

pub plain_digit : (b : ℕ) → is_ascii_digit b ≡ true → is_plain_byte b ≡ true
plain_digit b is = grind (arith, nat_tests)

pub plain_decimal : (n : ℕ) → n < 2 ^ 64 → is_plain (decimal n) ≡ true
unfolding is_plain
plain_decimal n fits = and_from _ _ (lt-ltb 0 _ (decimal_nonempty n fits)) (all_weaker is_ascii_digit is_plain_byte plain_digit (decimal n) (digits-decimal n fits))
