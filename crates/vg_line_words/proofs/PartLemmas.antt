-- The parts of a text between marks, and words joined with a mark between two.
use Rattle.std.proofs.Common.{◌≡◌, ℕ, ◌+◌, ◌-◌, ◌<◌, ◌==◌, true, false, not, List, [], ◌∷◌, length, take, drop, arith, refl, sym, ap, ◌∙◌, length-drop, Some, None}
use Rattle.std.proofs.lemmas.Bool.{not-true, eq-eqb}
use Rattle.std.proofs.lemmas.List.{take_all}
use Rattle.std.proofs.lemmas.List.Elements.{All-head, All-tail}
use Rattle.std.proofs.lemmas.List.Splits.{slice_split_none, slice_split_at, slice_split_first, length-slice_split, join_with_byte-slice_split}
use Rattle.std.proofs.lemmas.List.Sums.{AllPass-from_list_all, fails_before_first}
use Rattle.std.specs.List.{All, join_with_byte, slice_split, position_or_len}
use Rattle.memchr.specs.Find.{IsFirstByte, is_byte}
use Rattle.vg_script_words.proofs.Cuts.{whole, no_place, first_place}
use Rattle.vg_line_words.specs.Words.{parts_at, lacks}

lacking : (mark : ℕ) (word : List ℕ) → lacks mark word ≡ true → All (λ b. (b == mark) ≡ false) word
lacking mark word are = λ k d within. not-true _ (AllPass-from_list_all (λ b. not (b == mark)) word are k d within)

-- Words joined are cut into these words.
pub parts-joined : (mark : ℕ) (word : List ℕ) (words : List (List ℕ)) → All (λ w. lacks mark w ≡ true) (word ∷ words) → parts_at mark (join_with_byte mark (word ∷ words)) ≡ word ∷ words
unfolding parts_at
parts-joined mark word [] are = slice_split_none (λ b. b == mark) word (lacking mark word (All-head (λ w. lacks mark w ≡ true) word [] are))
parts-joined mark word (next ∷ words) are =
    slice_split_at (λ b. b == mark) word mark (join_with_byte mark (next ∷ words)) (lacking mark word (All-head (λ w. lacks mark w ≡ true) word (next ∷ words) are)) (eq-eqb mark mark refl)
    ∙ ap (λ ws. word ∷ ws) (parts-joined mark next words (All-tail (λ w. lacks mark w ≡ true) word (next ∷ words) are))

-- The parts joined are the text.
pub joined-parts : (mark : ℕ) (text : List ℕ) → join_with_byte mark (parts_at mark text) ≡ text
unfolding parts_at
joined-parts mark text = join_with_byte-slice_split mark text

-- A text has at least one part.
pub some-parts : (mark : ℕ) (text : List ℕ) → parts_at mark text ≡ [] → ⊥
unfolding parts_at
some-parts mark text none = let size = length-slice_split (λ b. b == mark) text in let zero = ap length none in omega (arith, size, zero)

-- A text is cut at its first mark.
pub no-mark : (mark : ℕ) (text : List ℕ) → IsFirstByte (is_byte mark) text None → parts_at mark text ≡ text ∷ []
unfolding parts_at
no-mark mark text none =
    let size = no_place mark text none in
    let all = whole (λ b. b == mark) text (omega (arith, size)) in
    slice_split_none (λ b. b == mark) text (λ k d within. fails_before_first (λ b. b == mark) text k d (omega (arith, within, size)))

pub first-mark : (mark : ℕ) (text : List ℕ) (place : ℕ) → IsFirstByte (is_byte mark) text (Some place) → parts_at mark text ≡ take place text ∷ parts_at mark (take (length text - (place + 1)) (drop (place + 1) text))
unfolding parts_at
first-mark mark text place is =
    let same = first_place mark text place is in
    let within : position_or_len (λ b. b == mark) text < length text = (let high = is.0.high in omega (arith, same, high)) in
    let size = length-drop {A = ℕ} (place + 1) text in
    let rest : take (length text - (place + 1)) (drop (place + 1) text) ≡ drop (place + 1) text = take_all (length text - (place + 1)) (drop (place + 1) text) (omega (arith, size)) in
    slice_split_first (λ b. b == mark) text 0 within
    ∙ ap (λ n. take n text ∷ slice_split (λ b. b == mark) (drop (n + 1) text)) (sym same)
    ∙ ap (λ l. take place text ∷ slice_split (λ b. b == mark) l) (sym rest)
