-- A list of numbers and its word.
use Rattle.std.proofs.Common.{◌≡◌, ℕ, ◌<◌, ◌≤◌, ◌^◌, ◌==◌, Bool, true, false, not, List, [], ◌∷◌, ◌++◌, map, length, decimal, bytes_eq, codes, if◌then◌else◌, Option, Some, None, arith, refl, sym, ap, ◌∙◌, subst, append_assoc, length-append}
use Rattle.std.proofs.lemmas.Bool.{and_from, lt-ltb, false_from_ne_true, false≢true}
use Rattle.std.proofs.lemmas.Bool.Decides.{nat_tests}
use Rattle.std.proofs.lemmas.List.Elements.{All-head, All-tail, All-cons, All-nil, All-map, All-weaker}
use Rattle.std.proofs.lemmas.List.Folds.{list_all-append}
use Rattle.std.proofs.lemmas.Slice.Eq.{bytes_eq-Decides}
use Rattle.std.proofs.lemmas.Fmt.{decimal_nonempty}
use Rattle.std.specs.Char.{is_ascii_digit}
use Rattle.std.specs.List.{All, list_all, join_with_byte}
use Rattle.vg_line_words.specs.Words.{AreBelow, and_more, all_numbers, is_plain, is_plain_byte, lacks, number_of, numbers_of, numbers_text, parts_at}
use Rattle.vg_line_words.proofs.NumberLaws.{number_back, number_only, number_range, digits-decimal, all_weaker, plain_digit}
use Rattle.vg_line_words.proofs.PartLemmas.{parts-joined, joined-parts, some-parts}

-- Words of numbers, each by itself.
pub all_back : (bound : ℕ) (numbers : List ℕ) → AreBelow bound numbers → bound ≤ 2 ^ 64 → all_numbers bound (map decimal numbers) ≡ Some numbers
unfolding all_numbers
all_back bound [] are fits = refl
all_back bound (n ∷ more) are fits =
    ap (λ o. and_more o (all_numbers bound (map decimal more))) (number_back bound n (All-head (λ m. m < bound) n more are) fits)
    ∙ ap (λ o. and_more (Some n) o) (all_back bound more (All-tail (λ m. m < bound) n more are) fits)

pub and_more_parts : (o : Option ℕ) (p : Option (List ℕ)) (numbers : List ℕ) → and_more o p ≡ Some numbers → (n : ℕ) × (more : List ℕ) × (o ≡ Some n) × (p ≡ Some more) × (n ∷ more ≡ numbers)
and_more_parts None p numbers is = absurd cc
and_more_parts (Some n) None numbers is = absurd cc
and_more_parts (Some n) (Some more) numbers is = (n, more, refl, refl, cc)

pub all_only : (bound : ℕ) (words : List (List ℕ)) (numbers : List ℕ) → bound ≤ 2 ^ 64 → all_numbers bound words ≡ Some numbers → words ≡ map decimal numbers
unfolding all_numbers
all_only bound [] numbers fits is = let none : [] ≡ numbers = cc in ap (map decimal) none
all_only bound (word ∷ words) numbers fits is =
    let parts = and_more_parts (number_of bound word) (all_numbers bound words) numbers is in
    let first : word ≡ decimal parts.0 = number_only bound parts.0 word fits parts.2 in
    let rest : words ≡ map decimal parts.1 = all_only bound words parts.1 fits parts.3 in
    ap (λ w. w ∷ words) first ∙ ap (λ ws. decimal parts.0 ∷ ws) rest ∙ ap (map decimal) parts.4

pub all_range : (bound : ℕ) (words : List (List ℕ)) (numbers : List ℕ) → all_numbers bound words ≡ Some numbers → AreBelow bound numbers
unfolding all_numbers
all_range bound [] numbers is = let none : [] ≡ numbers = cc in subst (AreBelow bound) none (All-nil (λ m. m < bound))
all_range bound (word ∷ words) numbers is =
    let parts = and_more_parts (number_of bound word) (all_numbers bound words) numbers is in
    subst (AreBelow bound) parts.4 (All-cons (λ m. m < bound) parts.0 parts.1 (number_range bound parts.0 word parts.2) (all_range bound words parts.1 parts.3))

-- No number has a comma.
not_comma : (b : ℕ) → is_ascii_digit b ≡ true → not (b == 44) ≡ true
not_comma b is = grind (arith, nat_tests)

pub no_commas : (numbers : List ℕ) → AreBelow (2 ^ 64) numbers → All (λ w. lacks 44 w ≡ true) (map decimal numbers)
no_commas numbers are =
    All-map (λ w. lacks 44 w ≡ true) decimal numbers
    (All-weaker (λ n. n < 2 ^ 64) (λ n. lacks 44 (decimal n) ≡ true) (λ n fits. all_weaker is_ascii_digit (λ b. not (b == 44)) not_comma (decimal n) (digits-decimal n fits)) numbers are)

-- The words between the commas.
numbers_parts : (n : ℕ) (more : List ℕ) → AreBelow (2 ^ 64) (n ∷ more) → parts_at 44 (numbers_text (n ∷ more)) ≡ map decimal (n ∷ more)
numbers_parts n more are = parts-joined 44 (decimal n) (map decimal more) (no_commas (n ∷ more) are)

pub dash_part : parts_at 44 (codes "-") ≡ codes "-" ∷ []
unfolding parts_at
dash_part = refl

first_is : (v w : List ℕ) (vs ws : List (List ℕ)) → v ∷ vs ≡ w ∷ ws → v ≡ w
first_is v w vs ws is = cc

-- What has a number is no `-`.
numbers_no_dash : (n : ℕ) (more : List ℕ) → AreBelow (2 ^ 64) (n ∷ more) → bytes_eq (numbers_text (n ∷ more)) (codes "-") ≡ false
numbers_no_dash n more are = false_from_ne_true _ (λ dash.
    let same : numbers_text (n ∷ more) ≡ codes "-" = (bytes_eq-Decides (numbers_text (n ∷ more)) (codes "-")).0 dash in
    let first : decimal n ≡ codes "-" = first_is _ _ _ _ (sym (numbers_parts n more are) ∙ ap (parts_at 44) same ∙ dash_part) in
    false≢true (ap (list_all is_ascii_digit) (sym first) ∙ digits-decimal n (All-head (λ m. m < 2 ^ 64) n more are)))

pub below_weaker : (low high : ℕ) (numbers : List ℕ) → low ≤ high → AreBelow low numbers → AreBelow high numbers
below_weaker low high numbers fits are = All-weaker (λ n. n < low) (λ n. n < high) (λ n small. omega (arith, small, fits)) numbers are

pub numbers_back : (bound : ℕ) (numbers : List ℕ) → AreBelow bound numbers → bound ≤ 2 ^ 64 → numbers_of bound (numbers_text numbers) ≡ Some numbers
unfolding numbers_of
numbers_back bound [] are fits = refl
numbers_back bound (n ∷ more) are fits =
    let wide = below_weaker bound (2 ^ 64) (n ∷ more) fits are in
    ap (λ b. if b then Some [] else all_numbers bound (parts_at 44 (numbers_text (n ∷ more)))) (numbers_no_dash n more wide)
    ∙ ap (all_numbers bound) (numbers_parts n more wide)
    ∙ all_back bound (n ∷ more) are fits

-- What is read.
joined_text : (numbers : List ℕ) → (map decimal numbers ≡ [] → ⊥) → join_with_byte 44 (map decimal numbers) ≡ numbers_text numbers
joined_text [] some = absurd (some refl)
joined_text (n ∷ more) some = refl

only_by : (b : Bool) (bound : ℕ) (word numbers : List ℕ) → bound ≤ 2 ^ 64 → bytes_eq word (codes "-") ≡ b → (if b then Some [] else all_numbers bound (parts_at 44 word)) ≡ Some numbers → word ≡ numbers_text numbers
only_by true bound word numbers fits dash is = let none : [] ≡ numbers = cc in (bytes_eq-Decides word (codes "-")).0 dash ∙ ap numbers_text none
only_by false bound word numbers fits dash is =
    let words = all_only bound (parts_at 44 word) numbers fits is in
    sym (joined-parts 44 word) ∙ ap (join_with_byte 44) words ∙ joined_text numbers (λ none. some-parts 44 word (words ∙ none))

pub numbers_only : (bound : ℕ) (word numbers : List ℕ) → bound ≤ 2 ^ 64 → numbers_of bound word ≡ Some numbers → word ≡ numbers_text numbers
unfolding numbers_of
numbers_only bound word numbers fits is = only_by (bytes_eq word (codes "-")) bound word numbers fits refl is

range_by : (b : Bool) (bound : ℕ) (word numbers : List ℕ) → (if b then Some [] else all_numbers bound (parts_at 44 word)) ≡ Some numbers → AreBelow bound numbers
range_by true bound word numbers is = let none : [] ≡ numbers = cc in subst (AreBelow bound) none (All-nil (λ m. m < bound))
range_by false bound word numbers is = all_range bound (parts_at 44 word) numbers is

pub numbers_range : (bound : ℕ) (word numbers : List ℕ) → numbers_of bound word ≡ Some numbers → AreBelow bound numbers
unfolding numbers_of
numbers_range bound word numbers is = range_by (bytes_eq word (codes "-")) bound word numbers is

-- Bytes of words joined are those of the words, and marks.
pub joined_all : (p : ℕ → Bool) (mark : ℕ) (words : List (List ℕ)) → p mark ≡ true → All (λ w. list_all p w ≡ true) words → list_all p (join_with_byte mark words) ≡ true
joined_all p mark [] also are = refl
joined_all p mark (word ∷ []) also are = All-head (λ w. list_all p w ≡ true) word [] are
joined_all p mark (word ∷ next ∷ words) also are =
    list_all-append p word (mark ∷ join_with_byte mark (next ∷ words))
    ∙ and_from _ _ (All-head (λ w. list_all p w ≡ true) word (next ∷ words) are) (and_from _ _ also (joined_all p mark (next ∷ words) also (All-tail (λ w. list_all p w ≡ true) word (next ∷ words) are)))

joined_some : (mark : ℕ) (word : List ℕ) (words : List (List ℕ)) → 0 < length word → 0 < length (join_with_byte mark (word ∷ words))
joined_some mark word [] some = some
joined_some mark word (next ∷ words) some = let size = length-append word (mark ∷ join_with_byte mark (next ∷ words)) in omega (arith, size, some)

pub plain_numbers : (numbers : List ℕ) → AreBelow (2 ^ 64) numbers → is_plain (numbers_text numbers) ≡ true
unfolding is_plain
plain_numbers [] are = refl
plain_numbers (n ∷ more) are =
    let words = All-map (λ w. list_all is_plain_byte w ≡ true) decimal (n ∷ more)
    (All-weaker (λ n. n < 2 ^ 64) (λ n. list_all is_plain_byte (decimal n) ≡ true) (λ n fits. all_weaker is_ascii_digit is_plain_byte plain_digit (decimal n) (digits-decimal n fits)) (n ∷ more) are) in
    let some = decimal_nonempty n (All-head (λ m. m < 2 ^ 64) n more are) in
    and_from _ _ (lt-ltb _ _ (joined_some 44 (decimal n) (map decimal more) some)) (joined_all is_plain_byte 44 (map decimal (n ∷ more)) refl words)

-- Numbers read so far, and those of the words that are left.
abbrev pub onto : List ℕ → Option (List ℕ) → Option (List ℕ)
onto front None = None
onto front (Some more) = Some (front ++ more)

pub onto-nil : (o : Option (List ℕ)) → onto [] o ≡ o
onto-nil None = refl
onto-nil (Some more) = refl

onto_by : (o : Option ℕ) (n : ℕ) (front : List ℕ) (p : Option (List ℕ)) → o ≡ Some n → onto (front ++ n ∷ []) p ≡ onto front (and_more o p)
onto_by None n front p is = absurd cc
onto_by (Some m) n front None is = refl
onto_by (Some m) n front (Some more) is = let same : m ≡ n = cc in ap Some (append_assoc front (n ∷ []) more ∙ ap (λ k. front ++ k ∷ more) (sym same))

-- One number more.
pub onto_more : (bound n : ℕ) (front word : List ℕ) (words all : List (List ℕ)) → all ≡ word ∷ words → number_of bound word ≡ Some n → onto (front ++ n ∷ []) (all_numbers bound words) ≡ onto front (all_numbers bound all)
unfolding all_numbers
onto_more bound n front word words all is read = onto_by (number_of bound word) n front (all_numbers bound words) read ∙ ap (λ ws. onto front (all_numbers bound ws)) (sym is)

-- No number.
pub onto_none : (bound : ℕ) (front word : List ℕ) (words all : List (List ℕ)) → all ≡ word ∷ words → number_of bound word ≡ None → onto front (all_numbers bound all) ≡ None
unfolding all_numbers
onto_none bound front word words all is none = ap (λ ws. onto front (all_numbers bound ws)) is ∙ ap (λ o. onto front (and_more o (all_numbers bound words))) none

-- The last number.
pub onto_last : (bound n : ℕ) (front word : List ℕ) (all : List (List ℕ)) → all ≡ word ∷ [] → number_of bound word ≡ Some n → onto front (all_numbers bound all) ≡ Some (front ++ n ∷ [])
unfolding all_numbers
onto_last bound n front word all is read = ap (λ ws. onto front (all_numbers bound ws)) is ∙ ap (λ o. onto front (and_more o (Some []))) read

-- What the code answers, at each of its exits.
pub given_none : (bound : ℕ) (word numbers : List ℕ) → bytes_eq word (codes "-") ≡ true → numbers ≡ [] → Some numbers ≡ numbers_of bound word
unfolding numbers_of
given_none bound word numbers dash none = ap Some none ∙ sym (ap (λ b. if b then Some [] else all_numbers bound (parts_at 44 word)) dash)

pub given_all : (bound : ℕ) (word : List ℕ) → bytes_eq word (codes "-") ≡ false → numbers_of bound word ≡ all_numbers bound (parts_at 44 word)
unfolding numbers_of
given_all bound word dash = ap (λ b. if b then Some [] else all_numbers bound (parts_at 44 word)) dash
