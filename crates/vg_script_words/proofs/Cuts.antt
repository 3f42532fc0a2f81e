-- A list of parts, with the first part taken off.
use Rattle.std.proofs.Common.{◌≡◌, ℕ, ◌<◌, ◌≤◌, ◌==◌, ◌⊎◌, Bool, true, false, List, [], ◌∷◌, length, arith, refl, inl, inr, sym, Some, None}
use Rattle.std.proofs.lemmas.Grind.{common_steps}
use Rattle.std.proofs.lemmas.Bool.{cases_lt}
use Rattle.std.proofs.lemmas.Bool.Decides.{nat_tests}
use Rattle.std.proofs.lemmas.List.Splits.{slice_split_first, slice_split_none}
use Rattle.std.proofs.lemmas.List.Sums.{fails_before_first, position_or_len_is}
use Rattle.std.specs.List.{slice_split, before_first, after_first, position_or_len}
use Rattle.memchr.specs.Find.{IsFirstByte, is_byte}
use Rattle.vg_script_words.specs.Words.{words_of}

pub words_of-nil : words_of [] ≡ []
unfolding words_of
words_of-nil = refl

pub whole : (p : ℕ → Bool) (xs : List ℕ) → length xs ≤ position_or_len p xs → (before_first p xs ≡ xs) × (after_first p xs ≡ [])
whole p xs h = (grind (arith, common_steps), grind (arith, common_steps))

-- The parts of a list, with the first taken off.
pub slice_split_parts : (p : ℕ → Bool) (xs : List ℕ)
    → ((slice_split p xs ≡ before_first p xs ∷ slice_split p (after_first p xs))
    ⊎ ((slice_split p xs ≡ before_first p xs ∷ []) × (after_first p xs ≡ []) × (before_first p xs ≡ xs)))
slice_split_parts p xs =
    elim (cases_lt (position_or_len p xs) (length xs)) [
      | inl s ↦ inl (slice_split_first p xs 0 s)
      | inr s ↦
          let w : (before_first p xs ≡ xs) × (after_first p xs ≡ []) = whole p xs s in
          inr (rw w.0 (slice_split_none p xs (λ k d lt. fails_before_first p xs k d (omega arith))), w.1, w.0)
    ]

-- The words of bytes, of which the first part is a word or nothing.
pub words_of-some : (xs : List ℕ) → 0 < length (before_first (λ b. b == 32) xs) → words_of xs ≡ before_first (λ b. b == 32) xs ∷ words_of (after_first (λ b. b == 32) xs)
unfolding words_of
words_of-some xs h =
    elim (slice_split_parts (λ b. b == 32) xs) [
      | inl e ↦ rw e (grind (arith, nat_tests))
      | inr e ↦ rw (e.0, e.1) (grind (arith, nat_tests))
    ]

pub words_of-none : (xs : List ℕ) → length (before_first (λ b. b == 32) xs) ≡ 0 → words_of xs ≡ words_of (after_first (λ b. b == 32) xs)
unfolding words_of
words_of-none xs h =
    elim (slice_split_parts (λ b. b == 32) xs) [
      | inl e ↦ rw e (grind (arith, nat_tests))
      | inr e ↦ rw (e.0, e.1) (grind (arith, nat_tests))
    ]

-- The first of a byte, as it is searched.
is_false : (b : Bool) → (b ≡ true → ⊥) → b ≡ false
is_false true h = absurd (h refl)
is_false false h = refl

pub no_place : (at : ℕ) (bytes : List ℕ) → IsFirstByte (is_byte at) bytes None → length bytes ≡ position_or_len (λ b. b == at) bytes
no_place at bytes h = sym (position_or_len_is (λ b. b == at) bytes (length bytes) 0 (omega arith) (λ k lt. is_false _ (h k (omega arith) lt)) (λ lt. absurd (omega arith)))

pub first_place : (at : ℕ) (bytes : List ℕ) (place : ℕ) → IsFirstByte (is_byte at) bytes (Some place) → place ≡ position_or_len (λ b. b == at) bytes
first_place at bytes place h = sym (position_or_len_is (λ b. b == at) bytes place 0 (omega (arith, h.0.high)) (λ k lt. is_false _ (h.0.before k (omega arith) lt)) (λ lt. h.1))
