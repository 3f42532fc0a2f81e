use Rattle.std.proofs.Common.{◌≡◌, ℕ, zero, suc, ◌+◌, ◌-◌, ◌*◌, ◌/◌, ◌<◌, ◌≤◌, true, false, min, List, [], ◌∷◌, ◌++◌, length, refl, inl, inr, arith, length-append}
use Rattle.std.proofs.lemmas.Bool.{cases_lt}
use Rattle.std.proofs.lemmas.Bool.Decides.{nat_tests, eqb_tells}
use Rattle.std.proofs.Math.Nat.{div-add-mod, mod-lt}
use Rattle.vg_chain.specs.Memory.{Memory, lies_in}
use Rattle.vg_chain.specs.declared.part.Part.{Part}
use Rattle.vg_chain.specs.Made.{pieces, room_of, or_empty, Covers, reads, writes}
use Rattle.vg_chain.proofs.PartLemmas.{AreFine}

pub lies : (start size addr len : ℕ) → start ≤ addr → addr + len ≤ start + size → lies_in start size addr len ≡ true
lies start size addr len low high = grind (arith, nat_tests)

pub fine_room : (m : Memory) (r : ℕ) → r ≡ m.room → AreFine m false (room_of r m.base)
fine_room m r e = elim (eqb_tells r 0) [
  | inl w ↦ rw w.0 tt
  | inr w ↦ rw w.0 ((λ off. refl), lies (m.base + 49152) m.room (m.base + 49152) r (omega arith) (omega arith), tt)
]

pub fine_pieces : (m : Memory) (k size addr n r : ℕ) → (0 < n → (m.base ≤ addr) × (addr + n ≤ m.base + m.request)) → r ≡ m.room
    → AreFine m false (pieces k size addr n ++ room_of r m.base)
fine_pieces m zero size addr n r within e = fine_room m r e
fine_pieces m (suc k) size addr n r within e = elim (eqb_tells n 0) [
  | inl w ↦ rw w.0 (fine_room m r e)
  | inr w ↦ (
      let some : 0 < n = omega arith in
      let bounds = within some in
      let low : m.base ≤ addr = bounds.0 in
      let high : addr + n ≤ m.base + m.request = bounds.1 in
      rw w.0 ((λ off. refl), lies m.base m.request addr (min size n) low (omega arith), fine_pieces m k size (addr + size) (n - size) r (λ more. (omega arith, omega arith)) e)
      )
]

pub fine_or_empty : (m : Memory) (parts : List Part) → AreFine m false parts → AreFine m false (or_empty m.base parts)
fine_or_empty m [] fine = ((λ off. refl), lies m.base m.request m.base 0 (omega arith) (omega arith), tt)
fine_or_empty m (p ∷ parts) fine = fine

pub reads_room : (r b : ℕ) → reads (room_of r b) ≡ []
reads_room r b = elim (eqb_tells r 0) [ inl w ↦ rw w.0 refl | inr w ↦ rw w.0 refl ]

pub writes_room : (r b : ℕ) → Covers (b + 49152) r (writes (room_of r b))
writes_room r b = elim (eqb_tells r 0) [
  | inl w ↦ rw w.0 w.1
  | inr w ↦ rw w.0 (refl, omega arith, omega arith)
]

writes_pieces : (k size addr n : ℕ) (more : List Part) → writes (pieces k size addr n ++ more) ≡ writes more
writes_pieces zero size addr n more = refl
writes_pieces (suc k) size addr n more = elim (eqb_tells n 0) [
  | inl w ↦ rw w.0 refl
  | inr w ↦ rw w.0 (writes_pieces k size (addr + size) (n - size) more)
]

pub no_pieces : (k size addr : ℕ) → pieces k size addr 0 ≡ []
no_pieces zero size addr = refl
no_pieces (suc k) size addr = refl

-- what one piece leaves
covers_left : (k size addr n : ℕ) (more : List Part) → reads more ≡ [] → Covers (addr + size) (n - size) (reads (pieces k size (addr + size) (n - size) ++ more))
    → Covers (addr + min size n) (n - min size n) (reads (pieces k size (addr + size) (n - size) ++ more))
covers_left k size addr n more none covers = elim (cases_lt n size) [
  | inl less ↦ (
      let whole : min size n ≡ n = omega arith in
      let over : n - size ≡ 0 = omega arith in
      let left : n - n ≡ 0 = omega arith in
      rw (whole, over, no_pieces k size (addr + size), none) left
      )
  | inr most ↦ (let full : min size n ≡ size = omega arith in rw full covers)
]

covers_pieces : (k size addr n : ℕ) (more : List Part) → n ≤ k * size → reads more ≡ [] → Covers addr n (reads (pieces k size addr n ++ more))
covers_pieces zero size addr n more all none = rw none (omega arith)
covers_pieces (suc k) size addr n more all none = elim (eqb_tells n 0) [
  | inl w ↦ rw (w.0, none) w.1
  | inr w ↦ (let left = covers_left k size addr n more none (covers_pieces k size (addr + size) (n - size) more (omega arith) none) in rw w.0 (refl, omega arith, left))
]

pub covers_read : (k size addr n r b : ℕ) → n ≤ k * size → Covers addr n (reads (pieces k size addr n ++ room_of r b))
covers_read k size addr n r b all = covers_pieces k size addr n (room_of r b) all (reads_room r b)

pub covers_written : (k size addr n r b : ℕ) → Covers (b + 49152) r (writes (pieces k size addr n ++ room_of r b))
covers_written k size addr n r b = rw (writes_pieces k size addr n (room_of r b)) (writes_room r b)

pub covers_or_empty : (b n : ℕ) (parts : List Part) → Covers b n (reads parts) → Covers b n (reads (or_empty b parts))
covers_or_empty b n [] covers = (refl, omega arith, omega (arith, covers))
covers_or_empty b n (p ∷ parts) covers = covers

pub writes_or_empty : (b : ℕ) (parts : List Part) → writes (or_empty b parts) ≡ writes parts
writes_or_empty b [] = refl
writes_or_empty b (p ∷ parts) = refl

-- pieces of a k-th, rounded up, are enough
pub enough : (k n : ℕ) → 1 ≤ k → n ≤ k * ((n + (k - 1)) / k)
enough k n some =
    let split = div-add-mod (n + (k - 1)) k in
    let small = mod-lt (n + (k - 1)) some in
    omega (arith, split, small)

length_pieces : (k size addr n : ℕ) → length (pieces k size addr n) ≤ k
length_pieces zero size addr n = omega arith
length_pieces (suc k) size addr n = elim (eqb_tells n 0) [
  | inl w ↦ rw w.0 (omega arith)
  | inr w ↦ rw w.0 (let ih = length_pieces k size (addr + size) (n - size) in omega (arith, ih))
]

length_room : (r b : ℕ) → length (room_of r b) ≤ 1
length_room r b = elim (eqb_tells r 0) [ inl w ↦ rw w.0 (omega arith) | inr w ↦ rw w.0 (omega arith) ]

pub length_parts : (size addr n r b : ℕ) → length (pieces 1 size addr n ++ room_of r b) ≤ 2
length_parts size addr n r b = omega (arith, length-append (pieces 1 size addr n) (room_of r b), length_pieces 1 size addr n, length_room r b)

pub length_or_empty : (b : ℕ) (parts : List Part) → length parts ≤ 2 → (length (or_empty b parts) ≤ 2) × (1 ≤ length (or_empty b parts))
length_or_empty b [] few = (omega arith, omega arith)
length_or_empty b (p ∷ parts) few = (few, omega arith)
