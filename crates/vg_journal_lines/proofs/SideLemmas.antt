-- How the words on both sides of `=` are found.
use Rattle.std.proofs.Common.{◌≡◌, ℕ, ◌+◌, ◌-◌, ◌<◌, ◌≤◌, Bool, true, false, List, [], ◌∷◌, ◌++◌, length, map, take, drop, get_or, bytes_eq, codes, if◌then◌else◌, Option, Some, None, arith, refl, sym, ap, ◌∙◌, append_assoc, append-nil, add-one, drop-cons, length-drop}
use Rattle.std.proofs.Math.Seq.{take-suc}
use Rattle.std.proofs.lemmas.List.{take_all, drop_all, map-append}
use Rattle.vg_journal_lines.specs.Entries.{Sides, and_before, sides}

before_on : (front : List (List ℕ)) (word : List ℕ) (o : Option Sides) → and_before (front ++ word ∷ []) o ≡ and_before front (and_before (word ∷ []) o)
before_on front word None = refl
before_on front word (Some both) = ap (λ ws. Some (ws, both.1)) (append_assoc front (word ∷ []) both.0)

pub before_none : (o : Option Sides) → and_before [] o ≡ o
before_none None = refl
before_none (Some both) = refl

-- At a `=`, and at another word.
sides_at : (word : List ℕ) (words : List (List ℕ)) (b : Bool) → bytes_eq word (codes "=") ≡ b → sides (word ∷ words) ≡ (if b then Some ([], words) else and_before (word ∷ []) (sides words))
unfolding sides
sides_at word words b is = ap (λ b. if b then Some ([], words) else and_before (word ∷ []) (sides words)) is

sides_nil : sides [] ≡ None
unfolding sides
sides_nil = refl

module _ {X : Type 0} (f : X → List ℕ) (xs : List X) where
  -- The words from a place on.
  here : (at : ℕ) (d : X) → at < length xs → map f (drop at xs) ≡ f (get_or xs at d) ∷ map f (drop (at + 1) xs)
  here at d within = ap (map f) (drop-cons xs at d within) ∙ ap (λ n. f (get_or xs at d) ∷ map f (drop n xs)) (sym (add-one at))

  pub found : (at : ℕ) (d : X) → at < length xs → bytes_eq (f (get_or xs at d)) (codes "=") ≡ true → and_before (map f (take at xs)) (sides (map f (drop at xs))) ≡ sides (map f xs)
      → sides (map f xs) ≡ Some (map f (take at xs), map f (take (length xs - (at + 1)) (drop (at + 1) xs)))
  found at d within is so_far =
      let size = length-drop {A = X} (at + 1) xs in
      let rest : take (length xs - (at + 1)) (drop (at + 1) xs) ≡ drop (at + 1) xs = take_all (length xs - (at + 1)) (drop (at + 1) xs) (omega (arith, size)) in
      sym so_far
      ∙ ap (λ ws. and_before (map f (take at xs)) (sides ws)) (here at d within)
      ∙ ap (and_before (map f (take at xs))) (sides_at (f (get_or xs at d)) (map f (drop (at + 1) xs)) true is)
      ∙ (λ i. Some (append-nil (map f (take at xs)) i, map f (sym rest i)))

  pub passed : (at : ℕ) (d : X) → at < length xs → bytes_eq (f (get_or xs at d)) (codes "=") ≡ false → and_before (map f (take at xs)) (sides (map f (drop at xs))) ≡ sides (map f xs)
      → and_before (map f (take (at + 1) xs)) (sides (map f (drop (at + 1) xs))) ≡ sides (map f xs)
  passed at d within is so_far =
      let word : List ℕ = f (get_or xs at d) in
      let front : map f (take (at + 1) xs) ≡ map f (take at xs) ++ word ∷ [] =
      ap (λ n. map f (take n xs)) (add-one at) ∙ ap (map f) (take-suc xs at d within) ∙ map-append f (take at xs) (get_or xs at d ∷ []) in
      ap (λ ws. and_before ws (sides (map f (drop (at + 1) xs)))) front
      ∙ before_on (map f (take at xs)) word (sides (map f (drop (at + 1) xs)))
      ∙ ap (and_before (map f (take at xs))) (sym (sides_at word (map f (drop (at + 1) xs)) false is))
      ∙ ap (λ ws. and_before (map f (take at xs)) (sides ws)) (sym (here at d within))
      ∙ so_far

  pub nowhere : (at : ℕ) → length xs ≤ at → and_before (map f (take at xs)) (sides (map f (drop at xs))) ≡ sides (map f xs) → sides (map f xs) ≡ None
  nowhere at all so_far =
      sym so_far ∙ ap (λ ws. and_before (map f (take at xs)) (sides (map f ws))) (drop_all at xs all) ∙ ap (and_before (map f (take at xs))) sides_nil
