-- The words of a frame, row by row, where each byte of its screen and of its image is the number of the client who stored it.
use Rattle.std.specs.Prelude.{◌≡◌, ◌<◌, ℕ, ◌+◌, ◌/◌, ◌%◌, nat_lt, if◌then◌else◌, List, slice_index, Option, Some, None, ℤ, pos, negsuc}
use Rattle.vg_cursor.specs.Blended.{image_place}
use Rattle.vg_cursor.specs.declared.cursor.Cursor.{Cursor}
use Rattle.vg_painted.specs.Paint.{blended_at, over_at}
use Rattle.vg_drawn.specs.Words.{union_below, word_of, words}

-- A word is that of these so far, and goes on with those of a row.
abbrev pub GoesOn : ℕ → ℕ → (ℕ → ℕ) → ℕ → Type 0
GoesOn all count row result =
    (at : ℕ → ℕ) (start : ℕ) → all ≡ union_below at start → ((c : ℕ) → c < count → at (start + c) ≡ row c) → result ≡ union_below at (start + count)

-- The place of an image's row or column, where it has it.
abbrev pub on_image : ℤ → Option ℕ
on_image (pos i) = if nat_lt i 64 then Some i else None
on_image (negsuc n) = None

-- The word of byte c of a pixel where this is the image's column over it, in row j.
abbrev pub over_by : Option ℕ → ℕ → ℕ → (ℕ → ℕ) → ℕ → ℕ
over_by (Some i) j c image screen = over_at words i j c image screen
over_by None j c image screen = screen

-- The words of the cursor's image.
abbrev pub image_word : Cursor → ℕ → ℕ
image_word cursor k = word_of (slice_index cursor.image k)

-- The word at place c of a row of the screen, which the image's row lies over, if any does.
abbrev pub row_by : Option ℕ → Cursor → (ℕ → ℕ) → ℕ → ℕ
row_by (Some j) cursor row c = over_by (on_image (image_place cursor.x cursor.hot_x (c / 4))) j (c % 4) (image_word cursor) (row c)
row_by None cursor row c = row c

abbrev pub row_word : Cursor → ℕ → (ℕ → ℕ) → ℕ → ℕ
row_word cursor y row c = row_by (on_image (image_place cursor.y cursor.hot_y y)) cursor row c

-- The word at a place of a frame of so many pixels a row, with the cursor, if it is shown.
abbrev pub frame_word : Cursor → ℕ → List ℕ → ℕ → ℕ
frame_word cursor width screen place = blended_at words cursor width (λ k. word_of (slice_index screen k)) (image_word cursor) place
