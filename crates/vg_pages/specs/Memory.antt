-- Guest memory and its pages.
use Rattle.std.specs.Prelude.{◌≡◌, ◌≢◌, ℕ, ◌+◌, ◌-◌, ◌*◌, ◌/◌, ◌<◌, ◌≤◌, ◌==◌, Bool, true, false, not, if◌then◌else◌, List, ◌++◌, length, take, drop, replicate, slice_index, slice_index_or, slice_get, Some}
use Rattle.std.specs.List.{filter, range_with_len, list_any, All, AllPairs}
use Rattle.vg_places.specs.Places.{tabulate}

-- Guest memory: its bytes in the order of their addresses, and of each page whether it is taken.
pub record Memory : Type 0 where
  pub bytes : List ℕ
  pub taken : List Bool

-- There is a page, there are not too many, and each has its bytes.
abbrev pub HasWholePages : Memory → Type 0
HasWholePages memory =
    (length memory.bytes ≡ 4096 * length memory.taken)
    × (0 < length memory.taken) × (length memory.taken ≤ 65536)

-- The address of the first byte of a page.
abbrev pub page_address : ℕ → ℕ
page_address page = 1048576 + 4096 * page

-- Memory of this many pages at first: each byte is 0, and no page is taken.
unfoldable pub fresh_memory : ℕ → Memory
fresh_memory count = record { bytes = replicate (4096 * count) 0; taken = replicate count false }

-- The n bytes from this address on lie wholly in memory. An empty range does at each address up to its end.
abbrev pub HoldsRange : Memory → ℕ → ℕ → Type 0
HoldsRange memory addr n = (1048576 ≤ addr) × (addr + n ≤ 1048576 + length memory.bytes)

-- Bytes with as many zeros behind them as make this many in all.
abbrev pub padded : ℕ → List ℕ → List ℕ
padded size bytes = bytes ++ replicate (size - length bytes) 0

-- The n bytes of memory from this address on.
abbrev pub bytes_at : List ℕ → ℕ → ℕ → List ℕ
bytes_at bytes addr n = take n (drop (addr - 1048576) bytes)

-- The bytes of memory after these were written from this address on.
abbrev pub written_at : List ℕ → ℕ → List ℕ → List ℕ
written_at bytes addr piece =
    take (addr - 1048576) bytes ++ piece ++ drop (addr - 1048576 + length piece) bytes

abbrev pub is_free : List Bool → ℕ → Bool
is_free taken page = not (slice_index_or taken page true)

-- The free pages, rising.
abbrev pub free_pages : List Bool → List ℕ
free_pages taken = filter (is_free taken) (range_with_len 0 (length taken))

-- No page below this one is free.
pub record AreTakenBelow (taken : List Bool) (low : ℕ) : Type 0 where
  pub each : (page : ℕ) → page < low → is_free taken page ≡ false

abbrev pub is_among : List ℕ → ℕ → Bool
is_among pages page = list_any (λ one. one == page) pages

-- These pages are as `now` says, and each other page as before.
unfoldable pub marked : List ℕ → Bool → List Bool → List Bool
marked pages now taken =
    tabulate (length taken) (λ page. if is_among pages page then now else slice_index_or taken page now)

-- Each byte of these pages is 0, and each other byte as before.
unfoldable pub zeroed : List ℕ → List ℕ → List ℕ
zeroed pages bytes =
    tabulate (length bytes) (λ place. if is_among pages (place / 4096) then 0 else slice_index bytes place)

-- Memory after these pages were taken.
abbrev pub after_taking : Memory → List ℕ → Memory
after_taking memory pages = record { bytes = zeroed pages memory.bytes; taken = marked pages true memory.taken }

-- These pages may be taken: all of them are free, and no two are one.
pub record AreTakeable (taken : List Bool) (pages : List ℕ) : Type 0 where
  pub all_free : All (λ page. is_free taken page ≡ true) pages
  pub differ : AllPairs (λ one other. one ≢ other) pages

-- These pages may be given back: all of them are taken, and no two are one.
pub record AreGivable (taken : List Bool) (pages : List ℕ) : Type 0 where
  pub all_taken : All (λ page. slice_get taken page ≡ Some true) pages
  pub differ : AllPairs (λ one other. one ≢ other) pages
