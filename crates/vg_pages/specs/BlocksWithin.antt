-- The bytes of pages of which some have a block of their own.
use Rattle.std.specs.Prelude.{◌≡◌, ◌⊎◌, ◌<◌, ◌≤◌, ℕ, ◌+◌, ◌/◌, ◌%◌, List, ◌++◌, take, drop, replicate, length, slice_index, slice_index_or, Option, Some, None}
use Rattle.vg_places.specs.Places.{tabulate}

-- The byte at a place, whose page has this block.
abbrev pub byte_in : Option (List ℕ) → List ℕ → ℕ → ℕ
byte_in (Some block) base place = slice_index block (place % 4096)
byte_in None base place = slice_index base place

-- The byte at a place: that of its page's block, or else of `base`.
abbrev pub byte_of : List (Option (List ℕ)) → List ℕ → ℕ → ℕ
byte_of blocks base place = byte_in (slice_index_or blocks (place / 4096) None) base place

-- The bytes of all pages.
unfoldable pub overlaid : List (Option (List ℕ)) → List ℕ → List ℕ
overlaid blocks base = tabulate (length base) (byte_of blocks base)

-- These bytes, with a piece in place of what stands from a place on.
abbrev pub spliced : ℕ → List ℕ → List ℕ → List ℕ
spliced start piece bytes = take start bytes ++ piece ++ drop (start + length piece) bytes

-- The bytes of the page that begins at `start`, which has this block.
abbrev pub page_of : Option (List ℕ) → List ℕ → ℕ → List ℕ
page_of (Some block) base start = block
page_of None base start = take 4096 (drop start base)

-- These bytes were written over the page that begins at `start`, from its byte `from` on, which has the block `new` then in place
-- of `old`; all else is as before.
pub record IsWritten (start from : ℕ) (bytes : List ℕ) (old new : Option (List ℕ)) (base after : List ℕ) : Type 0 where
  pub size : length after ≡ length base
  pub long : length (page_of old base start) ≡ 4096
  pub page : page_of new after start ≡ spliced from bytes (page_of old base start)
  pub rest : (k : ℕ) → (k < start) ⊎ (start + 4096 ≤ k) → slice_index after k ≡ slice_index base k

-- The bytes of a page that was shared, with its block or, where they are all 0, without.
abbrev pub shared_bytes : Option (List ℕ) → List ℕ
shared_bytes (Some block) = block
shared_bytes None = replicate 4096 0
