-- What tests and numbers tell.
use Rattle.std.proofs.Common.{◌≡◌, ℕ, ◌<◌, ◌≤◌, ◌^◌, ◌==◌, ◌&&◌, Bool, true, false, List, decimal, bytes_eq, if◌then◌else◌, Option, Some, None, arith, refl, ap, ◌∙◌, subst}
use Rattle.std.proofs.lemmas.Bool.{and_parts, eq-eqb, eqb-true, eqb-false, ne_eqb, false≢true}
use Rattle.vg_laws.proofs.Lists.{same_bytes}
use Rattle.vg_laws.proofs.Options.{some_is}
use Rattle.vg_line_words.specs.Words.{number_of}
use Rattle.vg_line_words.proofs.NumberLaws.{number_back, number_only, number_range}
use Rattle.vg_journal_lines.specs.Read.{from_one, is_this, not_zero, says}
use Rattle.vg_journal_lines.specs.Ranges.{IsCount}

-- What says something under a test has passed it.
pub passes : {X : Type 0} (b : Bool) (o : Option X) (x : X) → (if b then o else None) ≡ Some x → (b ≡ true) × (o ≡ Some x)
passes true o x is = (refl, is)
passes false o x is = absurd cc

-- A number that is expected.
pub this_back : (n : ℕ) → IsCount n → is_this n (decimal n) ≡ true
this_back n small = ap (says n) (number_back (2 ^ 63) n small (omega arith)) ∙ eq-eqb n n refl

says_by : (o : Option ℕ) (n : ℕ) (word : List ℕ) → number_of (2 ^ 63) word ≡ o → says n o ≡ true → (word ≡ decimal n) × IsCount n
says_by None n word read is = absurd (false≢true is)
says_by (Some m) n word read is =
    let same : m ≡ n = eqb-true m n is in
    subst (λ k. (word ≡ decimal k) × IsCount k) same (number_only (2 ^ 63) m word (omega arith) read, number_range (2 ^ 63) m word read)

pub this_only : (n : ℕ) (word : List ℕ) → is_this n word ≡ true → (word ≡ decimal n) × IsCount n
this_only n word is = says_by (number_of (2 ^ 63) word) n word refl is

-- A number from 1 on.
pub from_one_back : (bound n : ℕ) → 1 ≤ n → n < bound → bound ≤ 2 ^ 64 → from_one bound (decimal n) ≡ Some n
from_one_back bound n some small fits =
    ap not_zero (number_back bound n small fits) ∙ ap (λ b. if b then None else Some n) (ne_eqb n 0 (λ none. omega (arith, some, none)))

zero_by : (b : Bool) (m n : ℕ) → (m == 0) ≡ b → (if b then None else Some m) ≡ Some n → (m ≡ n) × (1 ≤ n)
zero_by true m n test is = absurd cc
zero_by false m n test is =
    let same : m ≡ n = some_is m n is in
    let other = eqb-false m 0 test in
    (same, subst (λ k. 1 ≤ k) same (omega (arith, other)))

one_by : (o : Option ℕ) (bound n : ℕ) (word : List ℕ) → bound ≤ 2 ^ 64 → number_of bound word ≡ o → not_zero o ≡ Some n → (word ≡ decimal n) × (1 ≤ n) × (n < bound)
one_by None bound n word fits read is = absurd cc
one_by (Some m) bound n word fits read is =
    let told = zero_by (m == 0) m n refl is in
    let said : number_of bound word ≡ Some n = read ∙ ap Some told.0 in
    (number_only bound n word fits said, told.1, number_range bound n word said)

pub from_one_only : (bound n : ℕ) (word : List ℕ) → bound ≤ 2 ^ 64 → from_one bound word ≡ Some n → (word ≡ decimal n) × (1 ≤ n) × (n < bound)
from_one_only bound n word fits is = one_by (number_of bound word) bound n word fits refl is

-- A known word, and a number that is expected.
pub known_this : (word this number : List ℕ) (n : ℕ) → (bytes_eq word this && is_this n number) ≡ true → (word ≡ this) × (number ≡ decimal n) × IsCount n
known_this word this number n is =
    let both = and_parts (bytes_eq word this) (is_this n number) is in
    let read = this_only n number both.1 in
    (same_bytes word this both.0, read.0, read.1)
