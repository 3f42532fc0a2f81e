-- Words in a row.
use Rattle.std.proofs.Common.{◌≡◌, ℕ, ◌==◌, true, not, List, [], ◌∷◌, ◌++◌, refl, sym, ap, ◌∙◌, subst, append_assoc}
use Rattle.std.proofs.lemmas.List.Elements.{All-weaker}
use Rattle.std.specs.List.{All}
use Rattle.vg_line_words.specs.Words.{is_plain, lacks, parts_at}
use Rattle.vg_line_words.proofs.ListLaws.{joined_all}
use Rattle.vg_line_words.proofs.PartLemmas.{parts-joined}
use Rattle.vg_line_words.proofs.PlainLemmas.{plain_blank, plain_line_end}
use Rattle.vg_journal_lines.specs.Words.{joined}

-- A list with a word in it.
pub record HasWord (words : List (List ℕ)) : Type 0 where
  pub word : List ℕ
  pub more : List (List ℕ)
  pub is : words ≡ word ∷ more

-- One word and others.
pub joined_more : (word : List ℕ) (words : List (List ℕ)) → HasWord words → joined (word ∷ words) ≡ word ++ 32 ∷ joined words
joined_more word words some =
    ap (λ ws. joined (word ∷ ws)) some.is ∙ ap (λ ws. word ++ 32 ∷ joined ws) (sym some.is)

joined_cons : (first : List ℕ) (front : List (List ℕ)) (words : List (List ℕ)) → HasWord words → joined (first ∷ front ++ words) ≡ joined (first ∷ front) ++ 32 ∷ joined words
joined_cons first [] words some = joined_more first words some
joined_cons first (next ∷ front) words some =
    ap (λ l. first ++ 32 ∷ l) (joined_cons next front words some) ∙ sym (append_assoc first (32 ∷ joined (next ∷ front)) (32 ∷ joined words))

-- Some words and others.
pub joined_both : (front words : List (List ℕ)) → HasWord front → HasWord words → joined (front ++ words) ≡ joined front ++ 32 ∷ joined words
joined_both front words first some =
    ap (λ ws. joined (ws ++ words)) first.is ∙ joined_cons first.word first.more words some ∙ ap (λ ws. joined ws ++ 32 ∷ joined words) (sym first.is)

-- Words with no blank and no line end.
pub record AreWords (words : List (List ℕ)) : Type 0 where
  pub some : HasWord words
  pub blanks : All (λ w. lacks 32 w ≡ true) words
  pub ends : All (λ w. lacks 10 w ≡ true) words

-- They are the parts of their line, which has no line end.
pub words_parts : (words : List (List ℕ)) → AreWords words → parts_at 32 (joined words) ≡ words
words_parts words are =
    let blanks = subst (All (λ w. lacks 32 w ≡ true)) are.some.is are.blanks in
    ap (λ ws. parts_at 32 (joined ws)) are.some.is ∙ parts-joined 32 are.some.word are.some.more blanks ∙ sym are.some.is

pub words_line : (words : List (List ℕ)) → AreWords words → lacks 10 (joined words) ≡ true
words_line words are = joined_all (λ b. not (b == 10)) 32 words refl are.ends

-- Plain words.
pub plain_words : (words : List (List ℕ)) → HasWord words → All (λ w. is_plain w ≡ true) words → AreWords words
plain_words words some are = record {
  some = some;
  blanks = All-weaker (λ w. is_plain w ≡ true) (λ w. lacks 32 w ≡ true) plain_blank words are;
  ends = All-weaker (λ w. is_plain w ≡ true) (λ w. lacks 10 w ≡ true) plain_line_end words are;
}
