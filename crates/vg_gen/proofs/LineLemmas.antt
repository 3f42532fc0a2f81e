-- Lines of words, and their text.
use Rattle.std.proofs.Common.{◌≡◌, ℕ, ◌*◌, ◌<◌, ◌≤◌, ◌==◌, ◌&&◌, Bool, true, false, not, nat_lt, nat_le, List, [], ◌∷◌, ◌++◌, length, map, filter, arith, refl, sym, ap, ◌∙◌, length-append, append_assoc}
use Rattle.std.proofs.lemmas.Bool.{and_parts, and_from, not-true, ltb-true, leb-true, le-leb, not_from_false, ne_eqb}
use Rattle.std.proofs.lemmas.Bool.Decides.{nat_tests}
use Rattle.std.proofs.lemmas.List.Elements.{All-weaker}
use Rattle.std.proofs.lemmas.List.Splits.{slice_split_none, slice_split_at}
use Rattle.std.proofs.lemmas.List.Sums.{AllPass-from_list_all}
use Rattle.std.specs.Int.{is_in_range}
use Rattle.std.specs.List.{All, list_all, join_with_byte, slice_split}
use Rattle.vg_script_words.specs.Words.{words_of, is_text}
use Rattle.vg_script.specs.Lines.{lines_of, closed_lines}
use Rattle.vg_line_words.specs.Words.{parts_at, lacks}
use Rattle.vg_line_words.proofs.NumberLaws.{all_weaker}
use Rattle.vg_line_words.proofs.ListLaws.{joined_all}
use Rattle.vg_line_words.proofs.PartLemmas.{parts-joined}
use Rattle.vg_gen.specs.Generated.{Words, text_of}

-- A short word, whose bytes are neither spaces nor line ends.
abbrev pub is_word : List ℕ → Bool
is_word word = nat_lt 0 (length word) && nat_le (length word) 20 && list_all (is_in_range 33 126) word

-- A few of them.
abbrev pub is_line : Words → Bool
is_line words = nat_lt 0 (length words) && nat_le (length words) 12 && list_all is_word words

no_blank : (b : ℕ) → is_in_range 33 126 b ≡ true → not (b == 32) ≡ true
no_blank b is = grind (arith, nat_tests)

no_line_end : (b : ℕ) → is_in_range 32 126 b ≡ true → not (b == 10) ≡ true
no_line_end b is = grind (arith, nat_tests)

as_text : (b : ℕ) → is_in_range 33 126 b ≡ true → is_in_range 32 126 b ≡ true
as_text b is = grind (arith, nat_tests)

word_some : (word : List ℕ) → is_word word ≡ true → 0 < length word
word_some word is = ltb-true _ _ (and_parts (nat_lt 0 (length word)) (nat_le (length word) 20) (and_parts (nat_lt 0 (length word) && nat_le (length word) 20) (list_all (is_in_range 33 126) word) is).0).0

word_short : (word : List ℕ) → is_word word ≡ true → length word ≤ 20
word_short word is = leb-true _ _ (and_parts (nat_lt 0 (length word)) (nat_le (length word) 20) (and_parts (nat_lt 0 (length word) && nat_le (length word) 20) (list_all (is_in_range 33 126) word) is).0).1

word_each : (word : List ℕ) → is_word word ≡ true → list_all (is_in_range 33 126) word ≡ true
word_each word is = (and_parts (nat_lt 0 (length word) && nat_le (length word) 20) (list_all (is_in_range 33 126) word) is).1

word_blank : (word : List ℕ) → is_word word ≡ true → lacks 32 word ≡ true
word_blank word is = all_weaker (is_in_range 33 126) (λ b. not (b == 32)) no_blank word (word_each word is)

word_text : (word : List ℕ) → is_word word ≡ true → list_all (is_in_range 32 126) word ≡ true
word_text word is = all_weaker (is_in_range 33 126) (is_in_range 32 126) as_text word (word_each word is)

line_words : (words : Words) → is_line words ≡ true → list_all is_word words ≡ true
line_words words is = (and_parts (nat_lt 0 (length words) && nat_le (length words) 12) (list_all is_word words) is).1

line_short : (words : Words) → is_line words ≡ true → length words ≤ 12
line_short words is = leb-true _ _ (and_parts (nat_lt 0 (length words)) (nat_le (length words) 12) (and_parts (nat_lt 0 (length words) && nat_le (length words) 12) (list_all is_word words) is).0).1

each_word : (words : Words) → list_all is_word words ≡ true → All (λ w. is_word w ≡ true) words
each_word words are = AllPass-from_list_all is_word words are

-- no word is empty
kept : (words : Words) → list_all is_word words ≡ true → filter (λ word. not (length word == 0)) words ≡ words
kept [] are = refl
kept (word ∷ words) are =
    let both = and_parts (is_word word) (list_all is_word words) are in
    let some = word_some word both.0 in
    let is : not (length word == 0) ≡ true = not_from_false _ (ne_eqb _ _ (λ e. omega (arith, some, e))) in
    rw is (ap (λ ws. word ∷ ws) (kept words both.1))

-- The words of a line are these.
pub words_back : (words : Words) → is_line words ≡ true → words_of (join_with_byte 32 words) ≡ words
unfolding words_of parts_at
words_back [] is = absurd (grind (arith, nat_tests))
words_back (word ∷ words) is =
    let all = line_words (word ∷ words) is in
    ap (filter (λ w. not (length w == 0))) (parts-joined 32 word words (All-weaker (λ w. is_word w ≡ true) (λ w. lacks 32 w ≡ true) word_blank (word ∷ words) (each_word (word ∷ words) all)))
    ∙ kept (word ∷ words) all

-- A line is short.
joined_length : (words : Words) → list_all is_word words ≡ true → length (join_with_byte 32 words) ≤ 21 * length words
joined_length [] are = omega arith
joined_length (word ∷ []) are = let short = word_short word (and_parts (is_word word) true are).0 in omega (arith, short)
joined_length (word ∷ next ∷ words) are =
    let both = and_parts (is_word word) (list_all is_word (next ∷ words)) are in
    let short = word_short word both.0 in
    let more = joined_length (next ∷ words) both.1 in
    let size = length-append word (32 ∷ join_with_byte 32 (next ∷ words)) in
    omega (arith, short, more, size)

pub line_length : (words : Words) → is_line words ≡ true → length (join_with_byte 32 words) ≤ 252
line_length words is = let a = joined_length words (line_words words is) in let b = line_short words is in omega (arith, a, b)

line_bytes : (words : Words) → is_line words ≡ true → list_all (is_in_range 32 126) (join_with_byte 32 words) ≡ true
line_bytes words is = joined_all (is_in_range 32 126) 32 words refl (All-weaker (λ w. is_word w ≡ true) (λ w. list_all (is_in_range 32 126) w ≡ true) word_text words (each_word words (line_words words is)))

-- And it is text, without a line end.
pub line_text : (words : Words) → is_line words ≡ true → is_text (join_with_byte 32 words) ≡ true
line_text words is = let short = line_length words is in and_from _ _ (le-leb _ _ (omega (arith, short))) (line_bytes words is)

line_lacks : (words : Words) → is_line words ≡ true → lacks 10 (join_with_byte 32 words) ≡ true
line_lacks words is = all_weaker (is_in_range 32 126) (λ b. not (b == 10)) no_line_end (join_with_byte 32 words) (line_bytes words is)

lacking : (bytes : List ℕ) → lacks 10 bytes ≡ true → All (λ b. (b == 10) ≡ false) bytes
lacking bytes are = λ k d within. not-true _ (AllPass-from_list_all (λ b. not (b == 10)) bytes are k d within)

pieces : (lines : List Words) → list_all is_line lines ≡ true → slice_split (λ b. b == 10) (text_of lines) ≡ map (join_with_byte 32) lines ++ [] ∷ []
pieces [] are = slice_split_none (λ b. b == 10) [] (λ k d within. absurd (omega (arith, within)))
pieces (line ∷ lines) are =
    let both = and_parts (is_line line) (list_all is_line lines) are in
    slice_split_at (λ b. b == 10) (join_with_byte 32 line) 10 (text_of lines) (lacking _ (line_lacks line both.0)) refl
    ∙ ap (λ ls. join_with_byte 32 line ∷ ls) (pieces lines both.1)

closed : (ls : List (List ℕ)) → closed_lines (ls ++ [] ∷ []) ≡ ls
unfolding closed_lines
closed [] = refl
closed (line ∷ []) = refl
closed (line ∷ next ∷ more) = ap (λ ls. line ∷ ls) (closed (next ∷ more))

-- The lines of their text are these.
pub lines_back : (lines : List Words) → list_all is_line lines ≡ true → lines_of (text_of lines) ≡ map (join_with_byte 32) lines
unfolding lines_of
lines_back lines are = ap closed_lines (pieces lines are) ∙ closed (map (join_with_byte 32) lines)

-- The text is no longer than so.
pub text_length : (lines : List Words) → list_all is_line lines ≡ true → length (text_of lines) ≤ 253 * length lines
text_length [] are = omega arith
text_length (line ∷ lines) are =
    let both = and_parts (is_line line) (list_all is_line lines) are in
    let one = line_length line both.0 in
    let more = text_length lines both.1 in
    let size = length-append (join_with_byte 32 line) (10 ∷ text_of lines) in
    omega (arith, one, more, size)

-- The text of lines and of more.
pub text_of-append : (a b : List Words) → text_of (a ++ b) ≡ text_of a ++ text_of b
text_of-append [] b = refl
text_of-append (line ∷ a) b = ap (λ t. join_with_byte 32 line ++ 10 ∷ t) (text_of-append a b) ∙ sym (append_assoc (join_with_byte 32 line) (10 ∷ text_of a) (text_of b))
