use Rattle.std.specs.Prelude.{◌≡◌, ◌≤◌, ◌<◌, ◌==◌, ℕ, ◌-◌, ◌+◌, ◌*◌, ◌^◌, Bool, false, if◌then◌else◌, Option, Some, None, is_none, List, [], ◌∷◌, ◌++◌, length, map, replicate}
use Rattle.std.specs.List.{flat_map, range_with_len}
use Rattle.vg_numbers.specs.Numbers.{number_at, le}

-- A display's width and height in pixels, or none.
abbrev pub Mode : Type 0
Mode = Option (ℕ × ℕ)

abbrev pub ends_in_none : List Mode → Bool
ends_in_none [] = false
ends_in_none (mode ∷ []) = is_none mode
ends_in_none (mode ∷ next ∷ more) = ends_in_none (next ∷ more)

-- At most 16 modes, of which the last isn't none.
abbrev pub IsModes : List Mode → Type 0
IsModes modes = (length modes ≤ 16) × (ends_in_none modes ≡ false)

-- A mode's 24 bytes: its rectangle, enabled and flags; zeros for none (VIRTIO 1.2, 5.7.6.8, struct virtio_gpu_display_one).
unfoldable pub mode_bytes : Mode → List ℕ
mode_bytes None = replicate 24 0
mode_bytes (Some (width, height)) = le 4 0 ++ le 4 0 ++ le 4 width ++ le 4 height ++ le 4 1 ++ le 4 0

-- The modes of 16 scanouts: those past the last are none.
abbrev pub sixteen : List Mode → List Mode
sixteen modes = modes ++ replicate (16 - length modes) None

-- The bytes of the modes of 16 scanouts.
unfoldable pub modes_bytes : List Mode → List ℕ
modes_bytes modes = flat_map mode_bytes (sixteen modes)

-- The mode whose bytes stand from place at.
abbrev pub slot_at : List ℕ → ℕ → Mode
slot_at bytes at = if number_at 4 (at + 16) bytes == 1 then Some (number_at 4 (at + 8) bytes, number_at 4 (at + 12) bytes) else None

-- The modes of the first n slots that follow a header.
abbrev pub slots : ℕ → List ℕ → List Mode
slots n bytes = map (λ slot. slot_at bytes (24 + 24 * slot)) (range_with_len 0 n)

-- The modes of all 16 slots.
unfoldable pub slots_of : List ℕ → List Mode
slots_of bytes = slots 16 bytes

-- A mode, and the modes after it without the nones at their end: without its own end, if it is none.
abbrev pub before_trimmed : Mode → List Mode → List Mode
before_trimmed None [] = []
before_trimmed None (next ∷ more) = None ∷ next ∷ more
before_trimmed (Some size) more = Some size ∷ more

-- The modes without the nones at their end.
abbrev pub trimmed : List Mode → List Mode
trimmed [] = []
trimmed (mode ∷ more) = before_trimmed mode (trimmed more)

-- The sizes fit their fields.
abbrev pub FitsMode : Mode → Type 0
FitsMode None = Unit {0}
FitsMode (Some (width, height)) = (width < 2 ^ 32) × (height < 2 ^ 32)

abbrev pub AllFit : List Mode → Type 0
AllFit [] = Unit {0}
AllFit (mode ∷ more) = FitsMode mode × AllFit more
