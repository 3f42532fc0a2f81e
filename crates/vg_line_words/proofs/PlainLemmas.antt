-- Plain words in a line.
use Rattle.std.proofs.Common.{◌≡◌, ℕ, ◌<◌, ◌==◌, ◌&&◌, true, not, nat_lt, List, ◌∷◌, length, codes, refl, sym, ap, ◌∙◌}
use Rattle.std.proofs.lemmas.Bool.{and_parts, false≢true, ltb-true}
use Rattle.std.proofs.lemmas.List.Elements.{All-weaker}
use Rattle.std.specs.List.{All, list_all, join_with_byte}
use Rattle.vg_line_words.specs.Words.{is_plain, is_plain_byte, lacks, parts_at}
use Rattle.vg_line_words.proofs.NumberLaws.{all_weaker}
use Rattle.vg_line_words.proofs.ListLaws.{joined_all}
use Rattle.vg_line_words.proofs.PartLemmas.{parts-joined}

no_blank : (b : ℕ) → is_plain_byte b ≡ true → not (b == 32) ≡ true
no_blank b is = (and_parts (not (b == 32)) (not (b == 10)) (and_parts (not (b == 32) && not (b == 10)) (not (b == 61)) is).0).0

no_line_end : (b : ℕ) → is_plain_byte b ≡ true → not (b == 10) ≡ true
no_line_end b is = (and_parts (not (b == 32)) (not (b == 10)) (and_parts (not (b == 32) && not (b == 10)) (not (b == 61)) is).0).1

no_sign : (b : ℕ) → is_plain_byte b ≡ true → not (b == 61) ≡ true
no_sign b is = (and_parts (not (b == 32) && not (b == 10)) (not (b == 61)) is).1

-- A plain word has a byte, and no blank, line end or `=`; so it isn't the word `=`.
pub plain_some : (word : List ℕ) → is_plain word ≡ true → 0 < length word
unfolding is_plain
plain_some word is = ltb-true _ _ (and_parts (nat_lt 0 (length word)) (list_all is_plain_byte word) is).0

pub plain_each : (word : List ℕ) → is_plain word ≡ true → list_all is_plain_byte word ≡ true
unfolding is_plain
plain_each word is = (and_parts (nat_lt 0 (length word)) (list_all is_plain_byte word) is).1

pub plain_blank : (word : List ℕ) → is_plain word ≡ true → lacks 32 word ≡ true
plain_blank word is = all_weaker is_plain_byte (λ b. not (b == 32)) no_blank word (plain_each word is)

pub plain_line_end : (word : List ℕ) → is_plain word ≡ true → lacks 10 word ≡ true
plain_line_end word is = all_weaker is_plain_byte (λ b. not (b == 10)) no_line_end word (plain_each word is)

pub plain_sign : (word : List ℕ) → is_plain word ≡ true → lacks 61 word ≡ true
plain_sign word is = all_weaker is_plain_byte (λ b. not (b == 61)) no_sign word (plain_each word is)

pub plain_other : (word : List ℕ) → is_plain word ≡ true → word ≡ codes "=" → ⊥
plain_other word is same = false≢true (ap (lacks 61) (sym same) ∙ plain_sign word is)

-- Plain words are the parts of their line, which has no line end in it.
pub plain_parts : (word : List ℕ) (words : List (List ℕ)) → All (λ w. is_plain w ≡ true) (word ∷ words) → parts_at 32 (join_with_byte 32 (word ∷ words)) ≡ word ∷ words
plain_parts word words are = parts-joined 32 word words (All-weaker (λ w. is_plain w ≡ true) (λ w. lacks 32 w ≡ true) plain_blank (word ∷ words) are)

pub plain_line : (words : List (List ℕ)) → All (λ w. is_plain w ≡ true) words → lacks 10 (join_with_byte 32 words) ≡ true
plain_line words are = joined_all (λ b. not (b == 10)) 32 words refl (All-weaker (λ w. is_plain w ≡ true) (λ w. list_all (λ b. not (b == 10)) w ≡ true) plain_line_end words are)
