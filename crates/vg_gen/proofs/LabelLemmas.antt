-- The labels of a workload, and what each is by its text.
use Rattle.std.proofs.Common.{◌≡◌, ℕ, zero, suc, ◌+◌, ◌<◌, ◌≤◌, ◌==◌, ◌&&◌, Bool, true, false, nat_lt, if◌then◌else◌, List, [], ◌∷◌, ◌++◌, map, codes, bytes_eq, decimal, replicate, Option, Some, None, arith, refl, sym, ap, ◌∙◌, subst, append-nil, inl, inr}
use Rattle.std.proofs.lemmas.Bool.{and_parts, eqb-true, lt-ltb, cases_lt}
use Rattle.std.specs.List.{list_all, join_with_byte}
use Rattle.vg_laws.proofs.Below.{below, below_at}
use Rattle.vg_script_words.specs.Words.{is_name}
use Rattle.vg_call_lines.specs.declared.names.LabelKind.{LabelKind}
use Rattle.vg_call_lines.specs.declared.names.LabelKind.TheVariants as labels
use Rattle.vg_call_lines.specs.declared.names.Label.{Label}
use Rattle.vg_call_lines.specs.Tables.{is_label, label_number}
use Rattle.vg_script.specs.Labels.{label_among, label_of, with_found, labels_of, label_from, label_in}
use Rattle.vg_gen.specs.Generated.{Words, opening, joining, picture, pictures, cursor, move, moves, closing, client_lines, all_lines, display, memory, generated_lines}
use Rattle.vg_gen.proofs.LineLemmas.{is_line, is_word, line_text, words_back}
use Rattle.vg_gen.proofs.WordLemmas.{digits, decimal_is}
use Rattle.vg_gen.proofs.CycleLemmas.{given_before}

abbrev pub Known : Type 0
Known = List (LabelKind × List ℕ)

-- The labels that a client gives, where there are so many before it, by how a number is spelled.
abbrev pub labels_at : (ℕ → List ℕ) → ℕ → Known
labels_at spell zero = (labels.Token, codes "X" ++ spell 1) ∷ (labels.Fence, codes "F" ++ spell 1) ∷ []
labels_at spell (suc n) =
    (labels.Token, codes "X" ++ spell (suc (suc n))) ∷ (labels.Fence, codes "F" ++ spell (suc (suc n))) ∷ (labels.Fence, codes "G" ++ spell (suc (suc n))) ∷ []

-- Those of the first clients.
pub upto : (ℕ → List ℕ) → ℕ → Known
upto spell zero = []
upto spell (suc n) = upto spell n ++ labels_at spell n

same_at : (n : ℕ) → n < 16 → labels_at decimal n ≡ labels_at digits n
same_at zero few = ap (λ w. (labels.Token, codes "X" ++ w) ∷ (labels.Fence, codes "F" ++ w) ∷ []) (decimal_is 1 (omega arith))
same_at (suc n) few =
    ap (λ w. (labels.Token, codes "X" ++ w) ∷ (labels.Fence, codes "F" ++ w) ∷ (labels.Fence, codes "G" ++ w) ∷ []) (decimal_is (suc (suc n)) (omega (arith, few)))

same_upto : (n : ℕ) → n ≤ 16 → upto decimal n ≡ upto digits n
unfolding upto
same_upto zero few = refl
same_upto (suc n) few = ap (λ ls. ls ++ labels_at decimal n) (same_upto n (omega (arith, few))) ∙ ap (λ ls. upto digits n ++ ls) (same_at n (omega (arith, few)))

-- A label among the first is that among all.
found_by : (b : Bool) (x : Option Label) (y z : Option Label) (l : Label) → (if b then x else y) ≡ Some l → (y ≡ Some l → z ≡ Some l) → (if b then x else z) ≡ Some l
found_by true x y z l is more = is
found_by false x y z l is more = more is

found_first : (first : ℕ) (xs ys : Known) (word : List ℕ) (l : Label) → label_from first xs word ≡ Some l → label_from first (xs ++ ys) word ≡ Some l
unfolding label_from
found_first first [] ys word l is = absurd (cc is)
found_first first (x ∷ xs) ys word l is = found_by (bytes_eq x.1 word) _ _ _ l is (found_first (first + 1) xs ys word l)

found_upto : (spell : ℕ → List ℕ) (n m : ℕ) (word : List ℕ) (l : Label) → n ≤ m → label_in (upto spell n) word ≡ Some l → label_in (upto spell m) word ≡ Some l
unfolding upto
found_upto spell n zero word l within is = let e : n ≡ zero = omega (arith, within) in subst (λ k. label_in (upto spell k) word ≡ Some l) e is
found_upto spell n (suc m) word l within is =
    elim (cases_lt m n) [
      | inl past ↦ let e : n ≡ suc m = omega (arith, within, past) in subst (λ k. label_in (upto spell k) word ≡ Some l) e is
      | inr there ↦ found_first 1 (upto spell m) (labels_at spell m) word l (found_upto spell n m word l there is)
    ]

-- A label of a kind is this one.
abbrev IsThe : LabelKind → ℕ → Option Label → Type 0
IsThe kind number label = (is_label kind label ≡ true) × (label_number label ≡ number)

the_known : (kind : LabelKind) (number : ℕ) (o p : Option Label) → ((l : Label) → o ≡ Some l → p ≡ Some l) → IsThe kind number o → IsThe kind number p
the_known kind number None p same (is, value) = absurd (cc is)
the_known kind number (Some l) p same is = subst (IsThe kind number) (sym (same l refl)) is

-- What is said of the labels of each client, by computing.
abbrev is_the : LabelKind → ℕ → Option Label → Bool
is_the kind number label = is_label kind label && (label_number label == number)

abbrev says_later : Known → ℕ → List ℕ → Bool
says_later known zero spelled = true
says_later known (suc n) spelled = is_the labels.Fence (given_before (suc n) + 1 + 1 + 1) (label_in known (codes "G" ++ spelled))

abbrev says : ℕ → Bool
says n =
    is_the labels.Token (given_before n + 1) (label_in (upto digits (suc n)) (codes "X" ++ digits (suc n)))
    && is_the labels.Fence (given_before n + 1 + 1) (label_in (upto digits (suc n)) (codes "F" ++ digits (suc n)))
    && says_later (upto digits (suc n)) n (digits (suc n))

all_say : below says 16 ≡ true
unfolding below upto label_from
all_say = refl

-- They are names, and words.
abbrev spells : ℕ → Bool
spells n =
    is_name (codes "X" ++ digits n) && is_name (codes "F" ++ digits n) && is_name (codes "G" ++ digits n)
    && is_word (codes "X" ++ digits n) && is_word (codes "F" ++ digits n) && is_word (codes "G" ++ digits n)

all_spell : below spells 18 ≡ true
unfolding below
all_spell = refl

pub record AreSpelled (spelled : List ℕ) : Type 0 where
  pub x_name : is_name (codes "X" ++ spelled) ≡ true
  pub f_name : is_name (codes "F" ++ spelled) ≡ true
  pub g_name : is_name (codes "G" ++ spelled) ≡ true
  pub x_word : is_word (codes "X" ++ spelled) ≡ true
  pub f_word : is_word (codes "F" ++ spelled) ≡ true
  pub g_word : is_word (codes "G" ++ spelled) ≡ true

pub are_spelled : (n : ℕ) → n < 18 → AreSpelled (decimal n)
are_spelled n few =
    let w = digits n in
    let a = and_parts (is_name (codes "X" ++ w) && is_name (codes "F" ++ w) && is_name (codes "G" ++ w) && is_word (codes "X" ++ w) && is_word (codes "F" ++ w)) (is_word (codes "G" ++ w)) (below_at spells 18 n all_spell few) in
    let b = and_parts (is_name (codes "X" ++ w) && is_name (codes "F" ++ w) && is_name (codes "G" ++ w) && is_word (codes "X" ++ w)) (is_word (codes "F" ++ w)) a.0 in
    let c = and_parts (is_name (codes "X" ++ w) && is_name (codes "F" ++ w) && is_name (codes "G" ++ w)) (is_word (codes "X" ++ w)) b.0 in
    let d = and_parts (is_name (codes "X" ++ w) && is_name (codes "F" ++ w)) (is_name (codes "G" ++ w)) c.0 in
    let e = and_parts (is_name (codes "X" ++ w)) (is_name (codes "F" ++ w)) d.0 in
    subst AreSpelled (sym (decimal_is n (omega (arith, few)))) (record { x_name = e.0; f_name = e.1; g_name = d.1; x_word = c.1; f_word = b.1; g_word = a.1 })

-- What the labels of a client are, where there are so many clients before it.
pub record AreLabelled (labels_are : List ℕ → Option Label) (n : ℕ) : Type 0 where
  pub x_is : IsThe labels.Token (given_before n + 1) (labels_are (codes "X" ++ decimal (suc n)))
  pub f_is : IsThe labels.Fence (given_before n + 1 + 1) (labels_are (codes "F" ++ decimal (suc n)))
  pub g_is : 1 ≤ n → IsThe labels.Fence (given_before n + 1 + 1 + 1) (labels_are (codes "G" ++ decimal (suc n)))

the_by : (kind : LabelKind) (number : ℕ) (label : Option Label) → is_the kind number label ≡ true → IsThe kind number label
the_by kind number label is = let both = and_parts (is_label kind label) (label_number label == number) is in (both.0, eqb-true _ _ both.1)

later_by : (known : Known) (n : ℕ) (spelled : List ℕ) → says_later known n spelled ≡ true → 1 ≤ n → IsThe labels.Fence (given_before n + 1 + 1 + 1) (label_in known (codes "G" ++ spelled))
later_by known zero spelled is some = absurd (omega (arith, some))
later_by known (suc n) spelled is some = the_by labels.Fence _ _ is

own_labels : (n : ℕ) → n < 16 → AreLabelled (label_in (upto decimal (suc n))) n
own_labels n few =
    let known = upto digits (suc n) in
    let w = digits (suc n) in
    let a = and_parts (is_the labels.Token (given_before n + 1) (label_in known (codes "X" ++ w)) && is_the labels.Fence (given_before n + 1 + 1) (label_in known (codes "F" ++ w))) (says_later known n w) (below_at says 16 n all_say few) in
    let b = and_parts (is_the labels.Token (given_before n + 1) (label_in known (codes "X" ++ w))) (is_the labels.Fence (given_before n + 1 + 1) (label_in known (codes "F" ++ w))) a.0 in
    let spelled = sym (decimal_is (suc n) (omega (arith, few))) in
    let P : Known → List ℕ → Type 0 = λ ks v.
    IsThe labels.Token (given_before n + 1) (label_in ks (codes "X" ++ v)) × IsThe labels.Fence (given_before n + 1 + 1) (label_in ks (codes "F" ++ v))
    × (1 ≤ n → IsThe labels.Fence (given_before n + 1 + 1 + 1) (label_in ks (codes "G" ++ v))) in
    let at : P known w = (the_by _ _ _ b.0, the_by _ _ _ b.1, later_by known n w a.1) in
    let there : P (upto decimal (suc n)) (decimal (suc n)) = subst (λ ks. P ks (decimal (suc n))) (sym (same_upto (suc n) (omega (arith, few)))) (subst (P known) spelled at) in
    record { x_is = there.0; f_is = there.1; g_is = there.2 }

-- A client's labels among those of all.
pub are_labelled : (n clients : ℕ) → n < clients → clients ≤ 16 → AreLabelled (label_in (upto decimal clients)) n
are_labelled n clients within few =
    let own = own_labels n (omega (arith, within, few)) in
    let on : (word : List ℕ) (l : Label) → label_in (upto decimal (suc n)) word ≡ Some l → label_in (upto decimal clients) word ≡ Some l =
    λ word l is. found_upto decimal (suc n) clients word l (omega (arith, within)) is in
    record {
      x_is = the_known _ _ _ _ (on (codes "X" ++ decimal (suc n))) own.x_is;
      f_is = the_known _ _ _ _ (on (codes "F" ++ decimal (suc n))) own.f_is;
      g_is = λ some. the_known _ _ _ _ (on (codes "G" ++ decimal (suc n))) (own.g_is some);
    }

-- ---- the labels that lines of words define

pub found : List Words → Known
found [] = []
found (line ∷ lines) = with_found (label_among line) (found lines)

with_more : (o : Option (LabelKind × List ℕ)) (xs ys : Known) → with_found o (xs ++ ys) ≡ with_found o xs ++ ys
with_more None xs ys = refl
with_more (Some label) xs ys = refl

found-append : (a b : List Words) → found (a ++ b) ≡ found a ++ found b
unfolding found
found-append [] b = refl
found-append (line ∷ a) b = ap (with_found (label_among line)) (found-append a b) ∙ with_more (label_among line) (found a) (found b)

label_is : (words : Words) → is_line words ≡ true → label_of (join_with_byte 32 words) ≡ label_among words
label_is words is = rw (line_text words is, words_back words is) refl

pub labels_are : (lines : List Words) → list_all is_line lines ≡ true → labels_of (map (join_with_byte 32) lines) ≡ found lines
unfolding labels_of found
labels_are [] are = refl
labels_are (line ∷ lines) are =
    let both = and_parts (is_line line) (list_all is_line lines) are in
    ap (λ o. with_found o (labels_of (map (join_with_byte 32) lines))) (label_is line both.0) ∙ ap (with_found (label_among line)) (labels_are lines both.1)

no_lines : found [] ≡ []
unfolding found
no_lines = refl

in_opening : (number n : ℕ) → found (opening number (suc n)) ≡ (labels.Token, codes "X" ++ decimal (suc n)) ∷ (labels.Fence, codes "F" ++ decimal (suc n)) ∷ []
unfolding found opening
in_opening number n = refl

in_joining : (n : ℕ) → found (joining (suc n)) ≡ (labels.Fence, codes "G" ++ decimal (suc n)) ∷ []
unfolding found joining
in_joining n = refl

in_picture : (number client n : ℕ) → found (picture number client n) ≡ []
unfolding found picture
in_picture number client n = refl

in_pictures : (number client n : ℕ) → found (pictures number client n) ≡ []
unfolding found
in_pictures number client zero = refl
in_pictures number client (suc n) =
    found-append (pictures number client n) (picture number client (suc n)) ∙ ap (λ ls. ls ++ found (picture number client (suc n))) (in_pictures number client n) ∙ in_picture number client (suc n)

in_cursor : (number client : ℕ) → found (cursor number client) ≡ []
unfolding found cursor
in_cursor number client = refl

in_move : (number client n : ℕ) → found (move number client n) ≡ []
unfolding found move
in_move number client n = refl

in_moves : (number client n : ℕ) → found (moves number client n) ≡ []
unfolding found
in_moves number client zero = refl
in_moves number client (suc n) =
    found-append (moves number client n) (move number client (suc n)) ∙ ap (λ ls. ls ++ found (move number client (suc n))) (in_moves number client n) ∙ in_move number client (suc n)

in_closing : (b : Bool) (client : ℕ) → found (if b then closing client else []) ≡ []
unfolding found closing
in_closing true client = refl
in_closing false client = refl

nothing_behind : (a b : List Words) (ls : Known) → found a ≡ ls → found b ≡ [] → found (a ++ b) ≡ ls
nothing_behind a b ls some none = found-append a b ∙ (λ i. some i ++ none i) ∙ append-nil ls

in_front : (number n : ℕ) → found (opening number (suc n) ++ (if nat_lt 1 (suc n) then joining (suc n) else [])) ≡ labels_at decimal n
in_front number zero = nothing_behind (opening number 1) [] _ (in_opening number zero) no_lines
in_front number (suc n) =
    rw (lt-ltb 1 (suc (suc n)) (omega arith))
    (found-append (opening number (suc (suc n))) (joining (suc (suc n))) ∙ (λ i. in_opening number (suc n) i ++ in_joining (suc n) i))

in_client : (number clients n : ℕ) → found (client_lines number clients (suc n)) ≡ labels_at decimal n
in_client number clients n =
    nothing_behind _ (if nat_lt (suc n) clients then closing (suc n) else []) _
    (nothing_behind _ (moves number (suc n) 10) _
    (nothing_behind _ (cursor number (suc n)) _
    (nothing_behind _ (pictures number (suc n) 20) _ (in_front number n) (in_pictures number (suc n) 20))
    (in_cursor number (suc n))) (in_moves number (suc n) 10)) (in_closing (nat_lt (suc n) clients) (suc n))

in_all : (number clients n : ℕ) → found (all_lines number clients n) ≡ upto decimal n
unfolding found upto
in_all number clients zero = refl
in_all number clients (suc n) =
    found-append (all_lines number clients n) (client_lines number clients (suc n)) ∙ (λ i. in_all number clients n i ++ in_client number clients n i)

in_displays : (n : ℕ) (rest : List Words) → found (replicate n display ++ rest) ≡ found rest
unfolding found
in_displays zero rest = refl
in_displays (suc n) rest = in_displays n rest

in_memory : (rest : List Words) → found (memory ∷ rest) ≡ found rest
unfolding found
in_memory rest = refl

-- All labels of the workload.
pub all_found : (number clients : ℕ) → found (generated_lines number clients) ≡ upto decimal clients
unfolding generated_lines
all_found number clients = in_displays clients (memory ∷ all_lines number clients clients) ∙ in_memory (all_lines number clients clients) ∙ in_all number clients clients
