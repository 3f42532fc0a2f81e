use Rattle.std.specs.Prelude.{◌≡◌, ℕ, ◌+◌, ◌<◌, ◌≤◌, ◌==◌, List, [], ◌∷◌, length, drop, slice_index, if◌then◌else◌}
use Rattle.vg_cargo.specs.declared.entries.Entry.{Entry}
use Rattle.vg_cargo.specs.Entries.{times, weigh, uses, spread}

-- How many places of a list don't link to the next one, or the last one to itself.
abbrev pub next_in : ℕ → List ℕ → ℕ
next_in place [] = place
next_in place (other ∷ more) = other

abbrev pub is_wrong : List ℕ → ℕ → ℕ → ℕ
is_wrong links place next = if slice_index links place == next then 0 else 1

abbrev pub wrong : List ℕ → List ℕ → ℕ
wrong links [] = 0
wrong links (place ∷ more) = is_wrong links place (next_in place more) + wrong links more

abbrev pub wrong_in : List ℕ → Entry → ℕ
wrong_in links e = wrong links e.places

-- The places from this one on are linked.
pub record IsPath (links : List ℕ) (head : ℕ) (places : List ℕ) : Type 0 where
  pub some : 0 < length places
  pub head_is : slice_index places 0 ≡ head
  pub linked : wrong links places ≡ 0
  pub apart : (p : ℕ) → times p places ≤ 1
  pub below : (p : ℕ) → 0 < times p places → p < length links

-- The free places of a ring, and how those of each entry that is out are linked.
pub record ArePlaces (size : ℕ) (free links : List ℕ) (at : ℕ) (outs : List Entry) : Type 0 where
  pub free_size : length free ≡ size
  pub links_size : length links ≡ size
  pub at_is : at ≡ spread outs
  pub at_most : at ≤ size
  pub once : (p : ℕ) → times p (drop at free) + uses p outs ≤ 1
  pub below : (p : ℕ) → 0 < times p (drop at free) + uses p outs → p < size
  pub linked : weigh (wrong_in links) outs ≡ 0

-- These places are linked from the head on, and so many aren't free; and they are free again.
pub record IsGiven (links free : List ℕ) (at head : ℕ) (places : List ℕ) : Type 0 where
  pub path : IsPath links head places
  pub many : length places ≤ at
  pub most : at ≤ length free

pub record IsGivenBack (free : List ℕ) (at : ℕ) (free' : List ℕ) (at' : ℕ) (places : List ℕ) : Type 0 where
  pub fewer : at' + length places ≡ at
  pub counts : (p : ℕ) → times p (drop at' free') ≡ times p (drop at free) + times p places
