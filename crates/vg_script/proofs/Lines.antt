-- The lines of a text, with the first taken off.
use Rattle.std.proofs.Common.{◌≡◌, ℕ, ◌+◌, ◌<◌, ◌≤◌, ◌==◌, Bool, true, false, List, [], ◌∷◌, length, arith, refl, inl, inr, length-drop}
use Rattle.std.proofs.lemmas.Bool.Decides.{nat_tests}
use Rattle.std.specs.List.{slice_split, before_first, after_first}
use Rattle.vg_script.specs.Lines.{lines_of, closed_lines}
use Rattle.vg_script_words.proofs.Cuts.{slice_split_parts}

pub lines_of-nil : lines_of [] ≡ []
unfolding lines_of closed_lines
lines_of-nil = refl

-- A list has a first part.
slice_split_some : (p : ℕ → Bool) (xs : List ℕ) → (first : List ℕ) × (more : List (List ℕ)) × (slice_split p xs ≡ first ∷ more)
slice_split_some p xs = elim (slice_split_parts p xs) [ inl e ↦ (before_first p xs, slice_split p (after_first p xs), e) | inr e ↦ (before_first p xs, [], e.0) ]

closed_lines-cons : (line : List ℕ) (p : ℕ → Bool) (xs : List ℕ) → closed_lines (line ∷ slice_split p xs) ≡ line ∷ closed_lines (slice_split p xs)
unfolding closed_lines
closed_lines-cons line p xs = let s = slice_split_some p xs in rw s.2 refl

closed_lines-one : (line : List ℕ) → 0 < length line → closed_lines (line ∷ []) ≡ line ∷ []
unfolding closed_lines
closed_lines-one line h = grind (arith, nat_tests)

closed_lines-nothing : closed_lines ([] ∷ []) ≡ []
unfolding closed_lines
closed_lines-nothing = refl

-- The lines of bytes that aren't empty, with the first taken off.
pub lines_of-first : (xs : List ℕ) → 0 < length xs → lines_of xs ≡ before_first (λ b. b == 10) xs ∷ lines_of (after_first (λ b. b == 10) xs)
unfolding lines_of
lines_of-first xs h =
    elim (slice_split_parts (λ b. b == 10) xs) [
      | inl e ↦ rw e (closed_lines-cons _ (λ b. b == 10) (after_first (λ b. b == 10) xs))
      | inr e ↦ rw (e.0, e.1, e.2, closed_lines-nothing) (closed_lines-one xs h)
    ]

pub some_left : (xs : List ℕ) → (length xs == 0) ≡ false → 0 < length xs
some_left [] h = cc
some_left (x ∷ xs) h = omega arith

pub none_left : (xs : List ℕ) → (length xs == 0) ≡ true → xs ≡ []
none_left [] h = refl
none_left (x ∷ xs) h = absurd (grind (arith, nat_tests))

-- What is behind the first part is shorter.
pub shorter : (p : ℕ → Bool) (xs : List ℕ) → 0 < length xs → length (after_first p xs) + 1 ≤ length xs
shorter p xs h = simp length-drop (omega arith)
