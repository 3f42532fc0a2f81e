use Rattle.std.proofs.Common.{◌≡◌, ℕ, zero, suc, ◌+◌, ◌*◌, ◌-◌, ◌^◌, ◌<◌, List, [], ◌∷◌, ◌++◌, length, take, drop, refl, sym, ap, ◌∙◌, arith}
use Rattle.std.proofs.lemmas.List.{drop_at, take_all, append-nil}
use Rattle.std.proofs.lemmas.Slice.{between_to_end}
use Rattle.byteorder.specs.Endian.{little_bytes, little_from}
use Rattle.byteorder.specs.Numbers.{little_from-cons, length-bytes_low_first, little_number-reads_back}
use Rattle.vg_numbers.specs.Numbers.{number, number_at, le}

-- nothing is read of no bytes
little_from-none : (i n : ℕ) → little_from i n [] ≡ 0
little_from-none i zero = refl
little_from-none i (suc n) = omega (arith, little_from-none (suc i) n)

-- what byteorder reads is the number of the bytes that it reads
pub little_from-number : (n : ℕ) (xs : List ℕ) → little_from 0 n xs ≡ number (take n xs)
little_from-number zero [] = refl
little_from-number zero (x ∷ xs) = refl
little_from-number (suc n) [] = omega (arith, little_from-none 1 n)
little_from-number (suc n) (x ∷ xs) = ap (λ r. x + 256 * r) (little_from-cons 0 n x xs ∙ little_from-number n xs)

pub field_at : (n at : ℕ) (bytes : List ℕ) → little_from 0 n (drop at bytes) ≡ number_at n at bytes
unfolding number_at
field_at n at bytes = little_from-number n (drop at bytes)

-- the same of the rest of a slice
pub field_at-rest : (n at : ℕ) (bytes : List ℕ) → little_from 0 n (take (length bytes - at) (drop at bytes)) ≡ number_at n at bytes
field_at-rest n at bytes = ap (little_from 0 n) (between_to_end bytes at (length bytes) (omega arith)) ∙ field_at n at bytes

pub length-le : (k n : ℕ) → length (le k n) ≡ k
unfolding le
length-le k n = length-bytes_low_first 0 k n

-- a number's bytes are read as itself
pub number-le : (k n : ℕ) → n < 256 ^ k → number (le k n) ≡ n
unfolding le
number-le k n h =
    let bytes = little_bytes k n in
    let all : take k (bytes ++ []) ≡ bytes = ap (take k) (append-nil bytes) ∙ take_all k bytes (omega (arith, length-bytes_low_first 0 k n)) in
    sym (ap number all) ∙ sym (little_from-number k (bytes ++ [])) ∙ little_number-reads_back k n [] h

-- and so behind others
pub number_at-le : (k : ℕ) (front rest : List ℕ) (at n : ℕ) → length front ≡ at → n < 256 ^ k → number_at k at (front ++ (le k n ++ rest)) ≡ n
unfolding le
number_at-le k front rest at n e h =
    sym (field_at k at (front ++ (little_bytes k n ++ rest)))
    ∙ ap (λ xs. little_from 0 k xs) (drop_at front (little_bytes k n ++ rest) at e)
    ∙ little_number-reads_back k n rest h
