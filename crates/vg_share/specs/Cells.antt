-- The bytes of a buffer, which are spread over its pages.
use Rattle.std.specs.Prelude.{ℕ, ◌+◌, ◌-◌, ◌*◌, ◌/◌, ◌%◌, ◌==◌, ◌&&◌, nat_le, nat_lt, if◌then◌else◌, List, length, slice_index}
use Rattle.std.specs.List.{position_or_len}
use Rattle.vg_places.specs.Places.{tabulate}

-- How many pages hold so many bytes.
abbrev pub pages_of : ℕ → ℕ
pages_of bytes = (bytes + 4095) / 4096

-- Where byte b of a buffer with these pages stands in guest memory, counted from its first byte.
abbrev pub place_in_memory : List ℕ → ℕ → ℕ
place_in_memory pages b = 4096 * slice_index pages (b / 4096) + b % 4096

-- Which byte of the buffer stands at a place of guest memory; past the buffer's end, where none does.
abbrev pub place_in_buffer : List ℕ → ℕ → ℕ
place_in_buffer pages place = 4096 * position_or_len (λ page. page == place / 4096) pages + place % 4096

-- The n bytes of the buffer from `offset` on.
unfoldable pub loaded : List ℕ → List ℕ → ℕ → ℕ → List ℕ
loaded bytes pages offset n = tabulate n (λ k. slice_index bytes (place_in_memory pages (offset + k)))

abbrev pub stored_byte : List ℕ → ℕ → List ℕ → List ℕ → ℕ → ℕ
stored_byte pages offset piece bytes place =
    if nat_le offset (place_in_buffer pages place) && nat_lt (place_in_buffer pages place) (offset + length piece) then
    slice_index piece (place_in_buffer pages place - offset)
    else slice_index bytes place

-- The bytes of guest memory after the piece was stored in the buffer, from `offset` on.
unfoldable pub stored : List ℕ → ℕ → List ℕ → List ℕ → List ℕ
stored pages offset piece bytes = tabulate (length bytes) (stored_byte pages offset piece bytes)

-- These bytes, so many times, one after another.
unfoldable pub repeated : List ℕ → ℕ → List ℕ
repeated bytes times = tabulate (length bytes * times) (λ k. slice_index bytes (k % length bytes))
