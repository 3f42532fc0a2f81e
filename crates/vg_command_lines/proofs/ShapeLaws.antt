-- A shape and its word.
use Rattle.std.proofs.Common.{◌≡◌, ℕ, zero, suc, ◌+◌, ◌≤◌, List, [], ◌∷◌, ◌++◌, bytes_eq, codes, decimal, true, Some, map, option_map, ⊎_elim, arith, refl, sym, ap, ◌∙◌, subst}
use Rattle.std.specs.List.{find}
use Rattle.std.proofs.lemmas.Fmt.{decimal_digit}
use Rattle.vg_laws.proofs.Lists.{same_bytes}
use Rattle.vg_laws.proofs.Options.{or_parts}
use Rattle.vg_chain.specs.declared.chain.ChainFault.{ChainFault}
use Rattle.vg_chain.specs.declared.chain.ChainFault.TheVariants.{Index, Loop, Nested, NextWithIndirect, TableLength, Order, Range}
use Rattle.vg_chain.specs.declared.shape.Shape.{Shape}
use Rattle.vg_chain.specs.declared.shape.Shape.TheVariants.{Plain, Pieces, Indirect, Mixed, Bad}
use Rattle.vg_journal_words.specs.Text.{fault_text, shape_text}
use Rattle.vg_line_words.specs.Words.{is_plain}
use Rattle.vg_command_lines.specs.Shapes.{ShapeInRange, count_of, fault_of, faults, shape_of}
use Rattle.vg_act_lines.proofs.PartLaws.{map_parts}
use Rattle.vg_command_lines.proofs.FindLemmas.{found}

pub plain_fault : (fault : ChainFault) → is_plain (fault_text fault) ≡ true
unfolding is_plain
plain_fault Index = refl
plain_fault Loop = refl
plain_fault Nested = refl
plain_fault NextWithIndirect = refl
plain_fault TableLength = refl
plain_fault Order = refl
plain_fault Range = refl

pub fault_back : (fault : ChainFault) → fault_of (fault_text fault) ≡ Some fault
unfolding fault_of
fault_back Index = refl
fault_back Loop = refl
fault_back Nested = refl
fault_back NextWithIndirect = refl
fault_back TableLength = refl
fault_back Order = refl
fault_back Range = refl

pub fault_only : (word : List ℕ) (fault : ChainFault) → fault_of word ≡ Some fault → word ≡ fault_text fault
unfolding fault_of
fault_only word fault is =
    same_bytes word (fault_text fault) (found (λ _. Unit {0}) (λ fault. bytes_eq word (fault_text fault)) faults fault (tt, (tt, (tt, (tt, (tt, (tt, (tt, tt))))))) is).0

-- ---- pieces, whose count is one digit

abbrev digit_word : ℕ → List ℕ
digit_word n = codes "pieces" ++ (48 + n) ∷ []

word_of : (n : ℕ) → n ≤ 8 → digit_word n ≡ codes "pieces" ++ decimal n
word_of n few = ap (λ digits. codes "pieces" ++ digits) (sym (decimal_digit n (omega arith)))

abbrev IsSaid : ℕ → Type 0
IsSaid n = (is_plain (digit_word n) ≡ true) × (shape_of (digit_word n) ≡ Some (Pieces n))

digit_said : (n : ℕ) → 2 ≤ n → n ≤ 8 → IsSaid n
unfolding is_plain shape_of
digit_said zero some few = absurd (omega arith)
digit_said (suc zero) some few = absurd (omega arith)
digit_said (suc (suc zero)) some few = (refl, refl)
digit_said (suc (suc (suc zero))) some few = (refl, refl)
digit_said (suc (suc (suc (suc zero)))) some few = (refl, refl)
digit_said (suc (suc (suc (suc (suc zero))))) some few = (refl, refl)
digit_said (suc (suc (suc (suc (suc (suc zero)))))) some few = (refl, refl)
digit_said (suc (suc (suc (suc (suc (suc (suc zero))))))) some few = (refl, refl)
digit_said (suc (suc (suc (suc (suc (suc (suc (suc zero)))))))) some few = (refl, refl)
digit_said (suc (suc (suc (suc (suc (suc (suc (suc (suc n))))))))) some few = absurd (omega arith)

-- ---- shapes

pub plain_shape : (shape : Shape) → ShapeInRange shape → is_plain (shape_text shape) ≡ true
unfolding is_plain
plain_shape Plain r = refl
plain_shape (Pieces n) r = ap is_plain (sym (word_of n r.1)) ∙ (digit_said n r.0 r.1).0
plain_shape Indirect r = refl
plain_shape Mixed r = refl
plain_shape (Bad fault) r = plain_fault fault

bad_back : (fault : ChainFault) → shape_of (fault_text fault) ≡ Some (Bad fault)
unfolding shape_of
bad_back Index = refl
bad_back Loop = refl
bad_back Nested = refl
bad_back NextWithIndirect = refl
bad_back TableLength = refl
bad_back Order = refl
bad_back Range = refl

pub shape_back : (shape : Shape) → ShapeInRange shape → shape_of (shape_text shape) ≡ Some shape
unfolding shape_of
shape_back Plain r = refl
shape_back (Pieces n) r = ap shape_of (sym (word_of n r.1)) ∙ (digit_said n r.0 r.1).1
shape_back Indirect r = refl
shape_back Mixed r = refl
shape_back (Bad fault) r = bad_back fault

count_only : (word : List ℕ) (n : ℕ) → count_of word ≡ Some n → (word ≡ codes "pieces" ++ decimal n) × ((2 ≤ n) × (n ≤ 8))
count_only word n is =
    let few : ℕ → Type 0 = λ n. (2 ≤ n) × (n ≤ 8) in
    let said = found few (λ n. bytes_eq word (digit_word n)) (2 ∷ 3 ∷ 4 ∷ 5 ∷ 6 ∷ 7 ∷ 8 ∷ []) n
    ((omega arith, omega arith), ((omega arith, omega arith), ((omega arith, omega arith), ((omega arith, omega arith), ((omega arith, omega arith), ((omega arith, omega arith), ((omega arith, omega arith), tt))))))) is in
    (same_bytes word (digit_word n) said.0 ∙ word_of n said.1.1, said.1)

pub shape_only : (shape : Shape) (word : List ℕ) → shape_of word ≡ Some shape → (word ≡ shape_text shape) × ShapeInRange shape
unfolding shape_of
shape_only shape word is =
    ⊎_elim
    (λ here.
    let said = found ShapeInRange (λ shape. bytes_eq word (shape_text shape)) (Plain ∷ Indirect ∷ Mixed ∷ map Bad faults) shape (tt, (tt, (tt, (tt, (tt, (tt, (tt, (tt, (tt, (tt, tt)))))))))) here in
    (same_bytes word (shape_text shape) said.0, said.1))
    (λ pieces.
    let parts = map_parts Pieces (count_of word) shape pieces in
    let said = count_only word parts.0 parts.1 in
    (said.0 ∙ ap shape_text parts.2, subst ShapeInRange parts.2 said.1))
    (or_parts (find (λ shape. bytes_eq word (shape_text shape)) (Plain ∷ Indirect ∷ Mixed ∷ map Bad faults)) (option_map Pieces (count_of word)) shape is)
