use Rattle.std.proofs.Common.{◌≡◌, ℕ, zero, suc, ◌+◌, ◌*◌, ◌^◌, ◌<◌, List, ◌++◌, length, take, drop, slice_index, refl, sym, ap, ◌∙◌, arith, append_assoc, length-append}
use Rattle.std.specs.List.{range_with_len, flat_map}
use Rattle.std.proofs.Math.Seq.{drop-append-add}
use Rattle.std.proofs.lemmas.List.{drop-drop}
use Rattle.vg_numbers.specs.Numbers.{number, number_at, le}
use Rattle.vg_split.specs.Words.{available_index, used_index, available_place, used_place, image_of, IsAvailable, IsUsed}
use Rattle.vg_split.proofs.WordLemmas.{used_bytes}

-- pieces of one size, one after another: how many bytes they have, and what stands from each of them on
pieces_length : (f : ℕ → List ℕ) (size : ℕ) → ((i : ℕ) → length (f i) ≡ size) → (a n : ℕ) → length (flat_map f (range_with_len a n)) ≡ size * n
pieces_length f size each a zero = omega arith
pieces_length f size each a (suc n) = simp length-append (omega (arith, each a, pieces_length f size each (a + 1) n))

piece_at : (f : ℕ → List ℕ) (size : ℕ) → ((i : ℕ) → length (f i) ≡ size) → (a n k : ℕ) → k < n → (rest : List ℕ) × (drop (size * k) (flat_map f (range_with_len a n)) ≡ f (a + k) ++ rest)
piece_at f size each a zero k less = absurd (omega arith)
piece_at f size each a (suc n) zero less =
    let none : size * 0 ≡ 0 = omega arith in
    let here : a + 0 ≡ a = omega arith in
    (flat_map f (range_with_len (a + 1) n), rw (none, here) refl)
piece_at f size each a (suc n) (suc k) less =
    let more = flat_map f (range_with_len (a + 1) n) in
    let ih = piece_at f size each (a + 1) n k (omega arith) in
    let far : size * suc k ≡ length (f a) + size * k = omega (arith, each a) in
    let place : a + 1 + k ≡ a + suc k = omega arith in
    (ih.0, ap (λ (i : ℕ). drop i (f a ++ more)) far ∙ (drop-append-add (f a) more (size * k) ∙ (ih.1 ∙ ap (λ (i : ℕ). f i ++ ih.0) place)))

-- the same of pieces behind a front of four bytes
behind_front : (front : List ℕ) (f : ℕ → List ℕ) (size : ℕ) → length front ≡ 4 → ((i : ℕ) → length (f i) ≡ size) → (n k : ℕ) → k < n
    → (rest : List ℕ) × (drop (4 + size * k) (front ++ flat_map f (range_with_len 0 n)) ≡ f k ++ rest)
behind_front front f size four each n k less =
    let at = piece_at f size each 0 n k less in
    let far : 4 + size * k ≡ length front + size * k = omega (arith, four) in
    let place : 0 + k ≡ k = omega arith in
    (at.0, ap (λ (i : ℕ). drop i (front ++ flat_map f (range_with_len 0 n))) far ∙ (drop-append-add front (flat_map f (range_with_len 0 n)) (size * k) ∙ (at.1 ∙ ap (λ (i : ℕ). f i ++ at.0) place)))

-- the numbers that two and four bytes say
pub two_say : (v : ℕ) (rest : List ℕ) → v < 2 ^ 16 → number (take 2 (le 2 v ++ rest)) ≡ v
unfolding le
two_say v rest small = omega arith

pub four_say : (v : ℕ) (rest : List ℕ) → v < 2 ^ 32 → number (take 4 (le 4 v ++ rest)) ≡ v
unfolding le
four_say v rest small = omega arith

pub after_four : (v : ℕ) (rest : List ℕ) → drop 4 (le 4 v ++ rest) ≡ rest
unfolding le
after_four v rest = refl

length_two : (v : ℕ) → length (le 2 v) ≡ 2
unfolding le
length_two v = refl

length_eight : (v : ℕ) → length (le 8 v) ≡ 8
unfolding le
length_eight v = refl

-- the flags and the index of either ring
ring_flags : (index : ℕ) (rest : List ℕ) → number_at 2 0 (le 2 0 ++ le 2 index ++ rest) ≡ 0
unfolding number_at le
ring_flags index rest = refl

ring_index : (index : ℕ) (rest : List ℕ) → index < 2 ^ 16 → number_at 2 2 (le 2 0 ++ le 2 index ++ rest) ≡ index
unfolding number_at le
ring_index index rest small = omega arith

ring_front : (index : ℕ) → length (le 2 0 ++ le 2 index) ≡ 4
unfolding le
ring_front index = refl

pub available_is : (n : ℕ) (words : List ℕ) → IsAvailable n words (image_of n words).available
unfolding number_at
available_is n words =
    let index = slice_index words available_index in
    let front = le 2 0 ++ le 2 index in
    let f : ℕ → List ℕ = λ k. le 2 (slice_index words (available_place n k)) in
    let each : (i : ℕ) → length (f i) ≡ 2 = λ i. length_two (slice_index words (available_place n i)) in
    record {
      size = simp length-append (omega (arith, length_two 0, length_two index, pieces_length f 2 each 0 n));
      flags = ring_flags index (flat_map f (range_with_len 0 n));
      index = ring_index index (flat_map f (range_with_len 0 n));
      elements = λ k less small. (
          let at = behind_front front f 2 (ring_front index) each n k less in
          ap (λ (xs : List ℕ). number (take 2 xs)) at.1 ∙ two_say (slice_index words (available_place n k)) at.0 small
          );
    }

pub used_is : (n : ℕ) (words : List ℕ) → IsUsed n words (image_of n words).used
unfolding number_at
used_is n words =
    let index = slice_index words used_index in
    let front = le 2 0 ++ le 2 index in
    let f : ℕ → List ℕ = λ k. le 8 (slice_index words (used_place n k)) in
    let each : (i : ℕ) → length (f i) ≡ 8 = λ i. length_eight (slice_index words (used_place n i)) in
    record {
      size = simp length-append (omega (arith, length_two 0, length_two index, pieces_length f 8 each 0 n));
      flags = ring_flags index (flat_map f (range_with_len 0 n));
      index = ring_index index (flat_map f (range_with_len 0 n));
      elements = λ k head len less small fits is. (
          let bytes = front ++ flat_map f (range_with_len 0 n) in
          let at = behind_front front f 8 (ring_front index) each n k less in
          let apart : f k ++ at.0 ≡ le 4 head ++ (le 4 len ++ at.0) = ap (λ (w : ℕ). le 8 w ++ at.0) is ∙ (ap (λ (xs : List ℕ). xs ++ at.0) (used_bytes head len small fits) ∙ append_assoc (le 4 head) (le 4 len) at.0) in
          let here : drop (4 + 8 * k) bytes ≡ le 4 head ++ (le 4 len ++ at.0) = at.1 ∙ apart in
          let far : 8 + 8 * k ≡ 4 + 8 * k + 4 = omega arith in
          let behind : drop (8 + 8 * k) bytes ≡ le 4 len ++ at.0 = ap (λ (i : ℕ). drop i bytes) far ∙ (sym (drop-drop 4 (4 + 8 * k) bytes) ∙ (ap (drop 4) here ∙ after_four head (le 4 len ++ at.0))) in
          (ap (λ (xs : List ℕ). number (take 4 xs)) here ∙ four_say head (le 4 len ++ at.0) (omega arith), ap (λ (xs : List ℕ). number (take 4 xs)) behind ∙ four_say len at.0 fits)
          );
    }
