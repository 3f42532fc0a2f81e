-- The words of a workload: numbers and digits are spelled as the grammar has them.
use Rattle.std.proofs.Common.{◌≡◌, ℕ, zero, suc, ◌+◌, ◌/◌, ◌%◌, ◌^◌, ◌<◌, ◌==◌, ◌&&◌, ◌++◌, Bool, true, nat_lt, nat_le, if◌then◌else◌, List, [], ◌∷◌, length, codes, decimal, arith, refl, sym, ap, ◌∙◌, subst, inl, inr}
use Rattle.std.proofs.lemmas.Bool.{and_parts, and_from, cases_lt, eqb-true, lt-ltb, le-ltb}
use Rattle.std.proofs.lemmas.Bool.Decides.{nat_tests}
use Rattle.std.proofs.lemmas.Fmt.{decimal_digit, decimal_step}
use Rattle.std.proofs.lemmas.List.Elements.{All-cons, All-nil}
use Rattle.std.proofs.lemmas.Nat.{mod_below}
use Rattle.std.specs.Int.{is_in_range, byte_at, bytes_low_first}
use Rattle.std.specs.List.{list_all}
use Rattle.vg_laws.proofs.Below.{below, below_at}
use Rattle.vg_numbers.specs.Numbers.{le}
use Rattle.vg_script_words.specs.Words.{is_number, value, is_within, is_signed, is_position, is_hex, is_hex_digit}
use Rattle.vg_line_words.specs.Words.{AreBelow}
use Rattle.vg_line_words.proofs.HexLaws.{digits_hex, length_hex}
use Rattle.vg_line_words.proofs.NumberLaws.{all_weaker}
use Rattle.vg_gen.specs.Generated.{hex_of}
use Rattle.vg_gen.proofs.LineLemmas.{is_word}

-- The digits of a number below 100.
abbrev pub digits : ℕ → List ℕ
digits n = if nat_lt n 10 then (48 + n) ∷ [] else (48 + n / 10) ∷ (48 + n % 10) ∷ []

pub decimal_is : (n : ℕ) → n < 100 → decimal n ≡ digits n
decimal_is n small =
    elim (cases_lt n 10) [
      | inl few ↦ rw (lt-ltb n 10 few) (decimal_digit n few)
      | inr many ↦
          let front : decimal (n / 10) ≡ (48 + n / 10) ∷ [] = decimal_digit (n / 10) (omega (arith, small)) in
          rw (le-ltb n 10 many) (decimal_step n many (omega (arith, small)) ∙ ap (λ ds. ds ++ (48 + n % 10) ∷ []) front)
    ]

-- A number below 64: in words of the grammar, and as the ring of a timeline.
abbrev says : ℕ → Bool
says n =
    is_number (digits n) && is_signed (digits n) && is_position (digits n) && is_within 0 63 (digits n) && is_word (digits n)
    && is_word (codes "K:" ++ digits n) && (value (digits n) == n)

all_say : below says 64 ≡ true
unfolding below
all_say = refl

pub record IsSaid (word : List ℕ) (n : ℕ) : Type 0 where
  pub number : is_number word ≡ true
  pub signed : is_signed word ≡ true
  pub position : is_position word ≡ true
  pub within : is_within 0 63 word ≡ true
  pub word_is : is_word word ≡ true
  pub timeline : is_word (codes "K:" ++ word) ≡ true
  pub value_is : value word ≡ n

digits_said : (n : ℕ) → n < 64 → IsSaid (digits n) n
digits_said n small =
    let a = and_parts (is_number (digits n) && is_signed (digits n) && is_position (digits n) && is_within 0 63 (digits n) && is_word (digits n) && is_word (codes "K:" ++ digits n)) (value (digits n) == n) (below_at says 64 n all_say small) in
    let b = and_parts (is_number (digits n) && is_signed (digits n) && is_position (digits n) && is_within 0 63 (digits n) && is_word (digits n)) (is_word (codes "K:" ++ digits n)) a.0 in
    let c = and_parts (is_number (digits n) && is_signed (digits n) && is_position (digits n) && is_within 0 63 (digits n)) (is_word (digits n)) b.0 in
    let d = and_parts (is_number (digits n) && is_signed (digits n) && is_position (digits n)) (is_within 0 63 (digits n)) c.0 in
    let e = and_parts (is_number (digits n) && is_signed (digits n)) (is_position (digits n)) d.0 in
    let f = and_parts (is_number (digits n)) (is_signed (digits n)) e.0 in
    record { number = f.0; signed = f.1; position = e.1; within = d.1; word_is = c.1; timeline = b.1; value_is = eqb-true _ _ a.1 }

pub said : (n : ℕ) → n < 64 → IsSaid (decimal n) n
said n small = subst (λ w. IsSaid w n) (sym (decimal_is n (omega (arith, small)))) (digits_said n small)

-- Four bytes as digits.
pub record IsPixel (word : List ℕ) : Type 0 where
  pub hex : is_hex word ≡ true
  pub size : length word ≡ 8
  pub word_is : is_word word ≡ true

byte_below : (i x : ℕ) → byte_at i x < 256
byte_below zero x = omega arith
byte_below (suc i) x = mod_below (x / 256 ^ suc i) 256 (omega arith)

bytes_below : (i n x : ℕ) → AreBelow 256 (bytes_low_first i n x) × (length (bytes_low_first i n x) ≡ n)
bytes_below i zero x = (All-nil (λ b. b < 256), refl)
bytes_below i (suc n) x =
    let more = bytes_below (suc i) n x in
    (All-cons (λ b. b < 256) (byte_at i x) (bytes_low_first (suc i) n x) (byte_below i x) more.0, ap suc more.1)

four_bytes : (x : ℕ) → AreBelow 256 (le 4 x) × (length (le 4 x) ≡ 4)
unfolding le
four_bytes x = bytes_below 0 4 x

digit_in : (b : ℕ) → is_hex_digit b ≡ true → is_in_range 33 126 b ≡ true
digit_in b is = grind (arith, nat_tests)

pub pixel : (x : ℕ) → IsPixel (hex_of x)
pixel x =
    let bytes = four_bytes x in
    let each = digits_hex (le 4 x) bytes.0 in
    let long = length_hex (le 4 x) in
    let size : length (hex_of x) ≡ 8 = (let four = bytes.1 in omega (arith, long, four)) in
    let even : (length (hex_of x) % 2 == 0) ≡ true = rw size refl in
    let some : nat_lt 0 (length (hex_of x)) ≡ true = rw size refl in
    let few : nat_le (length (hex_of x)) 20 ≡ true = rw size refl in
    record {
      hex = and_from (length (hex_of x) % 2 == 0) (list_all is_hex_digit (hex_of x)) even each;
      size = size;
      word_is =
          and_from (nat_lt 0 (length (hex_of x)) && nat_le (length (hex_of x)) 20) (list_all (is_in_range 33 126) (hex_of x))
          (and_from (nat_lt 0 (length (hex_of x))) (nat_le (length (hex_of x)) 20) some few) (all_weaker is_hex_digit (is_in_range 33 126) digit_in (hex_of x) each);
    }
