-- The layout of a chain, by the word that a journal has for it.
use Rattle.std.specs.Prelude.{ℕ, ◌+◌, ◌≤◌, List, [], ◌∷◌, ◌++◌, Option, option_map, bytes_eq, codes, map}
use Rattle.std.specs.Bool.{⊤}
use Rattle.std.specs.List.{find}
use Rattle.std.specs.Option.{option_or}
use Rattle.vg_chain.specs.declared.chain.ChainFault.{ChainFault}
use Rattle.vg_chain.specs.declared.chain.ChainFault.TheVariants.{Index, Loop, Nested, NextWithIndirect, TableLength, Order, Range}
use Rattle.vg_chain.specs.declared.shape.Shape.{Shape}
use Rattle.vg_chain.specs.declared.shape.Shape.TheVariants.{Plain, Pieces, Indirect, Mixed, Bad}
use Rattle.vg_journal_words.specs.Text.{fault_text, shape_text}

-- The pieces of a request are 2 to 8.
abbrev pub ShapeInRange : Shape → Type 0
ShapeInRange Plain = ⊤
ShapeInRange (Pieces n) = (2 ≤ n) × (n ≤ 8)
ShapeInRange Indirect = ⊤
ShapeInRange Mixed = ⊤
ShapeInRange (Bad fault) = ⊤

abbrev pub faults : List ChainFault
faults = Index ∷ Loop ∷ Nested ∷ NextWithIndirect ∷ TableLength ∷ Order ∷ Range ∷ []

-- The fault that has this word.
unfoldable pub fault_of : List ℕ → Option ChainFault
fault_of word = find (λ fault. bytes_eq word (fault_text fault)) faults

-- How many pieces have this word, which is `pieces` and a digit.
abbrev pub count_of : List ℕ → Option ℕ
count_of word = find (λ n. bytes_eq word (codes "pieces" ++ (48 + n) ∷ [])) (2 ∷ 3 ∷ 4 ∷ 5 ∷ 6 ∷ 7 ∷ 8 ∷ [])

-- The shape that has this word.
unfoldable pub shape_of : List ℕ → Option Shape
shape_of word =
    option_or (find (λ shape. bytes_eq word (shape_text shape)) (Plain ∷ Indirect ∷ Mixed ∷ map Bad faults)) (option_map Pieces (count_of word))
