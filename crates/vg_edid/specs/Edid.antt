use Rattle.std.specs.Prelude.{ℕ, ◌+◌, ◌-◌, ◌*◌, ◌/◌, ◌%◌, List, [], ◌∷◌, ◌++◌, sum, replicate}
use Rattle.vg_numbers.specs.Numbers.{le}

-- The parts of the base block, in their order, with the bytes at which they stand (E-EDID 1.4, 3.3 to 3.11).

-- 0 to 7: header (3.3)
abbrev pub header : List ℕ
header = 0x00 ∷ 0xff ∷ 0xff ∷ 0xff ∷ 0xff ∷ 0xff ∷ 0xff ∷ 0x00 ∷ []

-- 8 to 11: manufacturer and product code (3.4.1, 3.4.2)
abbrev pub product : List ℕ
product = 0x58 ∷ 0xf0 ∷ 0x01 ∷ 0x00 ∷ []

-- 12 to 15: serial number (3.4.3): the scanout, from 1
abbrev pub serial : ℕ → List ℕ
serial scanout = le 4 (scanout + 1)

-- 16 to 19: week and year of manufacture (3.4.4), version and revision (3.5)
abbrev pub version : List ℕ
version = 0x01 ∷ 0x20 ∷ 0x01 ∷ 0x04 ∷ []

-- 20 to 24: basic display parameters and features (3.6)
abbrev pub features : List ℕ
features = 0x80 ∷ 0x00 ∷ 0x00 ∷ 0x78 ∷ 0x06 ∷ []

-- 25 to 34: chromaticity (3.7)
abbrev pub chromaticity : List ℕ
chromaticity = 0xee ∷ 0x91 ∷ 0xa3 ∷ 0x54 ∷ 0x4c ∷ 0x99 ∷ 0x26 ∷ 0x0f ∷ 0x50 ∷ 0x54 ∷ []

-- 35 to 37: established timings (3.8); 38 to 53: standard timings (3.9): none of either
abbrev pub timings : List ℕ
timings = replicate 3 0x00 ++ replicate 16 0x01

-- The pixel clock in 10 kHz, at 60 frames in a second, with 160 pixels of blanking in a row and 23 rows of it.
abbrev pub pixel_clock : ℕ → ℕ → ℕ
pixel_clock width height = (width + 160) * (height + 23) * 60 / 10000

-- 54 to 71: detailed timing descriptor (3.10.2): the clock; the low 8 bits of the width, of the 160 of blanking, and the
-- high 4 bits of the width; the same of the height and its 23; front porches and widths of the pulses; sizes and borders; the signal
abbrev pub detailed : ℕ → ℕ → List ℕ
detailed width height =
    le 2 (pixel_clock width height)
    ++ (width % 256 ∷ 0xa0 ∷ width / 256 * 16 ∷ [])
    ++ (height % 256 ∷ 0x17 ∷ height / 256 * 16 ∷ [])
    ++ (0x30 ∷ 0x20 ∷ 0x35 ∷ []) ++ replicate 6 0x00 ++ (0x18 ∷ [])

-- 18 bytes: a dummy descriptor (3.10.3.11)
abbrev pub dummy : List ℕ
dummy = (0x00 ∷ 0x00 ∷ 0x00 ∷ 0x10 ∷ []) ++ replicate 14 0x00

-- 72 to 125: no other descriptors; 126: no extension blocks (3.11)
abbrev pub rest : List ℕ
rest = dummy ++ dummy ++ dummy ++ (0x00 ∷ [])

-- The byte that makes the sum of all bytes 0 modulo 256 (3.11).
unfoldable pub checksum : List ℕ → ℕ
checksum bytes = (256 - sum bytes % 256) % 256

-- Bytes 0 to 126.
unfoldable pub unsummed : ℕ → ℕ → ℕ → List ℕ
unsummed width height scanout =
    header ++ product ++ serial scanout ++ version ++ features ++ chromaticity ++ timings ++ detailed width height ++ rest

-- The base block of a display of this size on this scanout (E-EDID 1.4, 3).
unfoldable pub edid_bytes : ℕ → ℕ → ℕ → List ℕ
edid_bytes width height scanout = unsummed width height scanout ++ (checksum (unsummed width height scanout) ∷ [])
