-- Bytes of guest memory that were lent.
use Rattle.std.specs.Prelude.{◌≡◌, ℕ, ◌/◌, ◌<◌, ◌≤◌, Bool, true, false, List, [], ◌∷◌, ◌++◌, length, nat_lt, take, if◌then◌else◌, slice_index, slice_index_or}
use Rattle.std.specs.List.{list_any}
use Rattle.vg_pages.specs.Memory.{Memory, free_pages, is_among}

-- Lists one after another.
abbrev pub joined : List (List ℕ) → List ℕ
joined [] = []
joined (xs ∷ more) = xs ++ joined more

-- Bytes of guest memory, and the pages that they were in.
pub record Lending : Type 0 where
  pub bytes : List ℕ
  pub pages : List ℕ

-- From this place on each list has an element.
pub record AreSome (next : ℕ) (pieces : List (List ℕ)) : Type 0 where
  pub each : (k : ℕ) → next ≤ k → k < length pieces → 0 < length (slice_index_or pieces k [])

-- Two states of a guest memory have the same bytes in these pages.
pub record AreSameIn (pages : List ℕ) (one other : Memory) : Type 0 where
  pub size : length other.bytes ≡ length one.bytes
  pub each : (place : ℕ) → is_among pages (place / 4096) ≡ true → slice_index other.bytes place ≡ slice_index one.bytes place

-- Whether the flag of this page is set. Past the end of the flags none is.
abbrev pub is_flagged : List Bool → ℕ → Bool
is_flagged flags page = slice_index_or flags page false

-- The flags of these pages are set, and no others.
pub record AreFlagged (flags : List Bool) (pages : List ℕ) : Type 0 where
  pub each : (page : ℕ) → is_flagged flags page ≡ is_among pages page

-- One of the lowest free pages, so many, is among these, where there are as many.
abbrev pub would_take : ℕ → List ℕ → List Bool → Bool
would_take n pages taken = if nat_lt (length (free_pages taken)) n then false else list_any (is_among pages) (take n (free_pages taken))
