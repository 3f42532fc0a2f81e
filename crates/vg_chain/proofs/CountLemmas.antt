use Rattle.std.proofs.Common.{◌≡◌, ℕ, zero, suc, ◌+◌, ◌-◌, ◌*◌, ◌<◌, false, true, min, Some, None, slice_get, ◌⊎◌, ◌++◌, List, [], ◌∷◌, length, refl, ap, inl, inr, arith}
use Rattle.std.proofs.lemmas.Bool.Decides.{eqb_tells}
use Rattle.std.proofs.lemmas.Option.{slice_get_past}
use Rattle.vg_chain.specs.Made.{pieces, room_of}
use Rattle.vg_chain.proofs.PieceLemmas.{no_pieces}

-- the count of pieces, wherever they stand
pub length_any : (k size addr addr' n : ℕ) → length (pieces k size addr n) ≡ length (pieces k size addr' n)
length_any zero size addr addr' n = refl
length_any (suc k) size addr addr' n = elim (eqb_tells n 0) [
  | inl w ↦ rw w.0 refl
  | inr w ↦ rw w.0 (ap suc (length_any k size (addr + size) (addr' + size) (n - size)))
]

pub count_more : (k j size n c c' total : ℕ) → k ≡ suc j → c + length (pieces k size 0 n) ≡ total → (0 < n → c' ≡ c + 1) → (n ≡ 0 → c' ≡ c) → c' + length (pieces j size 0 (n - size)) ≡ total
count_more k j size n c c' total e so_far some none = elim (eqb_tells n 0) [
  | inl w ↦ (
      let zero_n : n ≡ 0 = w.1 in
      let before : length (pieces k size 0 n) ≡ 0 = rw (zero_n, no_pieces k size 0) refl in
      let left : n - size ≡ 0 = omega arith in
      let after : length (pieces j size 0 (n - size)) ≡ 0 = rw (left, no_pieces j size 0) refl in
      omega (arith, none zero_n)
      )
  | inr w ↦ (
      let one : length (pieces k size 0 n) ≡ suc (length (pieces j size (0 + size) (n - size))) = rw (e, w.0) refl in
      let moved = length_any j size (0 + size) 0 (n - size) in
      omega (arith, one, moved, some (omega arith))
      )
]

-- the piece at a place
pub piece_at : (k size addr n i a l : ℕ) → i < length (pieces k size addr n) → a ≡ addr + i * size → l ≡ min size (n - i * size)
    → (i * size < n) × (slice_get (pieces k size addr n) i ≡ Some (record { addr = a; len = l; writes = false }))
piece_at zero size addr n i a l h e f = absurd (omega arith)
piece_at (suc k) size addr n zero a l h e f = elim (eqb_tells n 0) [
  | inl w ↦ (let none : length (pieces (suc k) size addr n) ≡ 0 = rw w.0 refl in absurd (omega arith))
  | inr w ↦ (let e' : a ≡ addr = omega arith in let f' : l ≡ min size n = omega arith in (omega arith, rw (w.0, e', f') refl))
]
piece_at (suc k) size addr n (suc i) a l h e f = elim (eqb_tells n 0) [
  | inl w ↦ (let none : length (pieces (suc k) size addr n) ≡ 0 = rw w.0 refl in absurd (omega arith))
  | inr w ↦ (
      let some : length (pieces (suc k) size addr n) ≡ suc (length (pieces k size (addr + size) (n - size))) = rw w.0 refl in
      let rest = piece_at k size (addr + size) (n - size) i a l (omega arith) (omega arith) (omega arith) in
      (omega (arith, rest.0), rw w.0 rest.1)
      )
]

pub get_front : {X : Type 0} → (xs ys : List X) (i : ℕ) → i < length xs → slice_get (xs ++ ys) i ≡ slice_get xs i
get_front [] ys i h = absurd (omega arith)
get_front (x ∷ xs) ys zero h = refl
get_front (x ∷ xs) ys (suc i) h = get_front xs ys i (omega arith)

pub get_back : {X : Type 0} → (xs ys : List X) (i j : ℕ) → i ≡ length xs + j → slice_get (xs ++ ys) i ≡ slice_get ys j
get_back [] ys i j h = let e : i ≡ j = omega arith in rw e refl
get_back (x ∷ xs) ys zero j h = absurd (omega arith)
get_back (x ∷ xs) ys (suc i) j h = get_back xs ys i j (omega arith)

pub some_room : (r b : ℕ) → 0 < r → slice_get (room_of r b) 0 ≡ Some (record { addr = b + 49152; len = r; writes = true })
some_room r b some = elim (eqb_tells r 0) [ inl w ↦ absurd (omega arith) | inr w ↦ rw w.0 refl ]

pub no_room : (r b j : ℕ) → (0 < j) ⊎ (r ≡ 0) → slice_get (room_of r b) j ≡ None
no_room r b j past = elim (eqb_tells r 0) [
  | inl w ↦ rw w.0 refl
  | inr w ↦ elim past [ inl more ↦ rw w.0 (slice_get_past (_ ∷ []) j (omega arith)) | inr none ↦ absurd (omega arith) ]
]
