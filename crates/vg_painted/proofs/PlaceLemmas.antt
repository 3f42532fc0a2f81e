-- What stands at each place of lists that are given by formulas, as the painting in numbers has it.
use Rattle.std.proofs.Common.{◌≡◌, ℕ, zero, suc, ◌+◌, ◌-◌, ◌*◌, ◌/◌, ◌%◌, ◌<◌, ◌≤◌, ◌==◌, ◌&&◌, Bool, true, false, cond, nat_le, nat_lt, List, [], ◌∷◌, length, get_or, slice_index, take, drop, replicate, Some, refl, sym, ap, ◌∙◌, inl, inr, arith}
use Rattle.std.specs.Prelude.{ℤ, pos, negsuc}
use Rattle.std.proofs.lemmas.Bool.{cases_lt, lt-ltb, le-ltb}
use Rattle.std.proofs.lemmas.Bool.Decides.{nat_tests}
use Rattle.std.proofs.lemmas.List.{get_or-take, get_or-drop, get_or_past, get_or-replicate, get_or_append_left, get_or-append_right, length-take, length-replicate}
use Rattle.std.proofs.lemmas.Nat.{mod_below}
use Rattle.vg_formats.specs.declared.entry.MemEntry.{MemEntry}
use Rattle.vg_formats.specs.declared.format.Format.{Format}
use Rattle.vg_formats.specs.declared.format.Format.TheVariants.{B8G8R8A8, B8G8R8X8, A8R8G8B8, X8R8G8B8, R8G8B8A8, X8B8G8R8, A8B8G8R8, R8G8B8X8}
use Rattle.vg_formats.specs.Formats.{shown_bytes}
use Rattle.vg_places.specs.declared.rectangles.Area.{Area}
use Rattle.vg_places.specs.Places.{tabulate}
use Rattle.vg_places.specs.Rectangles.{filled, filled_place, is_inside}
use Rattle.vg_places.proofs.Places.{length-tabulate, get_or-tabulate}
use Rattle.vg_pages.specs.Memory.{Memory, bytes_at, is_among, zeroed}
use Rattle.vg_share.specs.Cells.{place_in_buffer, repeated, stored, stored_byte}
use Rattle.vg_share.proofs.CellLemmas.{length-repeated}
use Rattle.vg_backing.specs.Backing.{AreHeld, backing_bytes}
use Rattle.vg_backing.proofs.BackingLemmas.{length-bytes_at}
use Rattle.vg_cursor.specs.declared.cursor.Cursor.{Cursor}
use Rattle.vg_cursor.specs.Blended.{blended, blended_place, covered, image_place, mixed, over}
use Rattle.vg_formats.specs.Shown.{shown_byte, shown_row}
use Rattle.vg_resource.specs.declared.resource.Resource.{Resource}
use Rattle.vg_painted.specs.Inks.{numbers}
use Rattle.vg_painted.specs.Paint.{blended_at, byte_of_entries, cleared_at, covered_at, filled_at, image_at, over_at, shown_at, stored_at}
use Rattle.vg_painted.specs.Painted.{IsAt}

-- ---- lists and tests

pub past-at : (bytes : List ℕ) (at : ℕ → ℕ) → IsAt bytes at → (k : ℕ) → length bytes ≤ k → 0 ≡ at k
past-at bytes at is k past = sym (get_or_past bytes k 0 past) ∙ is k

tabulated-at : (f g : ℕ → ℕ) (n : ℕ) → ((k : ℕ) → k < n → f k ≡ g k) → ((k : ℕ) → n ≤ k → 0 ≡ g k) → IsAt (tabulate n f) g
tabulated-at f g n inside past = λ k.
    elim (cases_lt k n) [
      | inl within ↦ get_or-tabulate f n k 0 within ∙ inside k within
      | inr behind ↦ get_or_past (tabulate n f) k 0 (omega (arith, length-tabulate f n, behind)) ∙ past k behind
    ]

-- all bytes are 0
pub zeros-at : (n : ℕ) → IsAt (replicate n 0) (λ place. 0)
zeros-at n = λ k.
    elim (cases_lt k n) [
      | inl within ↦ get_or-replicate n k 0 0 within
      | inr behind ↦ get_or_past (replicate n 0) k 0 (omega (arith, length-replicate {A = ℕ} n 0, behind))
    ]

-- the first bytes of a list
pub taken-at : (n : ℕ) (bytes : List ℕ) (at : ℕ → ℕ) → IsAt bytes at → IsAt (take n bytes) (λ place. cond (nat_lt place n) (at place) 0)
taken-at n bytes at is = λ k.
    elim (cases_lt k n) [
      | inl within ↦ get_or-take n bytes k 0 within ∙ is k ∙ sym (ap (λ b. cond b (at k) 0) (lt-ltb k n within))
      | inr behind ↦ get_or_past (take n bytes) k 0 (omega (arith, length-take n bytes, behind)) ∙ sym (ap (λ b. cond b (at k) 0) (le-ltb k n behind))
    ]

chosen : (t : Bool) (x x' y y' : ℕ) → (t ≡ true → x ≡ x') → y ≡ y' → cond t x y ≡ cond t x' y'
chosen true x x' y y' one other = one refl
chosen false x x' y y' one other = other

within-and : (k n : ℕ) (t : Bool) (x y : ℕ) → k < n → cond t x y ≡ cond (nat_lt k n && t) x y
within-and k n t x y within = sym (ap (λ b. cond (b && t) x y) (lt-ltb k n within))

past-and : (k n : ℕ) (t : Bool) (x y : ℕ) → n ≤ k → 0 ≡ y → 0 ≡ cond (nat_lt k n && t) x y
past-and k n t x y past is = is ∙ sym (ap (λ b. cond (b && t) x y) (le-ltb k n past))

zero-either : (t : Bool) (x : ℕ) → 0 ≡ x → 0 ≡ cond t 0 x
zero-either true x is = refl
zero-either false x is = is

-- ---- memory

pub zeroed-at : (pages bytes : List ℕ) (at : ℕ → ℕ) → IsAt bytes at → IsAt (zeroed pages bytes) (cleared_at numbers pages at)
unfolding zeroed
zeroed-at pages bytes at is =
    tabulated-at (λ place. cond (is_among pages (place / 4096)) 0 (get_or bytes place 0)) (cleared_at numbers pages at) (length bytes)
    (λ k within. ap (cond (is_among pages (k / 4096)) 0) (is k))
    (λ k past. zero-either (is_among pages (k / 4096)) (at k) (past-at bytes at is k past))

-- a byte of the bytes so many times
repeated-byte : (bytes : List ℕ) (times k : ℕ) → k < length bytes * times → slice_index (repeated bytes times) k ≡ slice_index bytes (k % length bytes)
unfolding repeated
repeated-byte bytes times k within = get_or-tabulate (λ k. slice_index bytes (k % length bytes)) (length bytes * times) k 0 within

in-piece : (offset b n : ℕ) → (nat_le offset b && nat_lt b (offset + n)) ≡ true → b - offset < n
in-piece offset b n test = grind (arith, nat_tests)

pub stored-at : (entry client : ℕ) (pages : List ℕ) (offset : ℕ) (bytes : List ℕ) (times : ℕ) (memory : List ℕ) (at : ℕ → ℕ) → IsAt memory at
    → IsAt (stored pages offset (repeated bytes times) memory) (stored_at numbers (length memory) entry client pages offset bytes times at)
unfolding stored
stored-at entry client pages offset bytes times memory at is =
    let piece = repeated bytes times in
    let n = length bytes * times in
    let size : length piece ≡ n = length-repeated bytes times in
    tabulated-at (stored_byte pages offset piece memory) (stored_at numbers (length memory) entry client pages offset bytes times at) (length memory)
    (λ k within.
    let b = place_in_buffer pages k in
    let t = nat_le offset b && nat_lt b (offset + n) in
    ap (λ m. cond (nat_le offset b && nat_lt b (offset + m)) (slice_index piece (b - offset)) (slice_index memory k)) size
    ∙ chosen t (slice_index piece (b - offset)) (slice_index bytes ((b - offset) % length bytes)) (slice_index memory k) (at k)
    (λ test. repeated-byte bytes times (b - offset) (in-piece offset b n test)) (is k)
    ∙ within-and k (length memory) t (slice_index bytes ((b - offset) % length bytes)) (at k) within)
    (λ k past.
    let b = place_in_buffer pages k in
    past-and k (length memory) (nat_le offset b && nat_lt b (offset + n)) (slice_index bytes ((b - offset) % length bytes)) (at k) past (past-at memory at is k past))

-- the bytes of entries
pub entries-at : (memory : Memory) (at : ℕ → ℕ) → IsAt memory.bytes at → (parts : List MemEntry) → AreHeld memory parts → IsAt (backing_bytes memory parts) (byte_of_entries numbers at parts)
unfolding backing_bytes
entries-at memory at is [] held = λ k. get_or_past [] k 0 (omega arith)
entries-at memory at is (entry ∷ more) held = λ k.
    let here = bytes_at memory.bytes entry.addr entry.length in
    let rest = backing_bytes memory more in
    let start = entry.addr - 1048576 in
    let long : length here ≡ entry.length = length-bytes_at memory entry.addr entry.length (held zero entry (omega arith)).1 in
    let later : AreHeld memory more = λ n d within. held (suc n) d (omega arith) in
    elim (cases_lt k entry.length) [
      | inl within ↦
          get_or_append_left here rest 0 k (omega (arith, long, within))
          ∙ get_or-take entry.length (drop start memory.bytes) k 0 within ∙ get_or-drop start memory.bytes k 0 ∙ is (start + k)
          ∙ sym (ap (λ b. cond b (at (start + k)) (byte_of_entries numbers at more (k - entry.length))) (lt-ltb k entry.length within))
      | inr behind ↦
          get_or-append_right here rest entry.length k 0 long behind
          ∙ entries-at memory at is more later (k - entry.length)
          ∙ sym (ap (λ b. cond b (at (start + k)) (byte_of_entries numbers at more (k - entry.length))) (le-ltb k entry.length behind))
    ]

-- ---- rectangles

pub filled-at : (area : Area) (row_length : ℕ) (value value' : ℕ → ℕ → ℕ) (old : List ℕ) (at : ℕ → ℕ) → ((i c : ℕ) → value i c ≡ value' i c) → IsAt old at
    → IsAt (filled area row_length value old) (filled_at area row_length (length old) value' at)
unfolding filled
filled-at area row_length value value' old at same is =
    tabulated-at (filled_place area row_length value old) (filled_at area row_length (length old) value' at) (length old)
    (λ k within.
    let t = is_inside area (k / row_length) (k % row_length) in
    let i = k / row_length - area.row in
    let c = k % row_length - area.column in
    chosen t (value i c) (value' i c) (slice_index old k) (at k) (λ test. same i c) (is k) ∙ within-and k (length old) t (value' i c) (at k) within)
    (λ k past.
    past-and k (length old) (is_inside area (k / row_length) (k % row_length)) (value' (k / row_length - area.row) (k % row_length - area.column)) (at k) past (past-at old at is k past))

-- ---- pixels as they are shown

four-of : (f : ℕ → ℕ) (c : ℕ) → c < 4 → slice_index (f 0 ∷ f 1 ∷ f 2 ∷ f 3 ∷ []) c ≡ f c
four-of f zero below = refl
four-of f (suc zero) below = refl
four-of f (suc (suc zero)) below = refl
four-of f (suc (suc (suc zero))) below = refl
four-of f (suc (suc (suc (suc c)))) below = absurd (omega (arith, below))

-- the bytes of a pixel, each as the painting has it
abbrev four_shown : ℕ → Format → (ℕ → ℕ) → List ℕ
four_shown entry format pixel =
    shown_at numbers entry format pixel 0 ∷ shown_at numbers entry format pixel 1 ∷ shown_at numbers entry format pixel 2 ∷ shown_at numbers entry format pixel 3 ∷ []

four-at : (entry : ℕ) (format : Format) (m : List ℕ) (pixel : ℕ → ℕ) → slice_index m 0 ≡ pixel 0 → slice_index m 1 ≡ pixel 1 → slice_index m 2 ≡ pixel 2 → slice_index m 3 ≡ pixel 3
    → shown_bytes format m ≡ four_shown entry format pixel
four-at entry B8G8R8A8 m pixel a b c d = λ i. a i ∷ b i ∷ c i ∷ d i ∷ []
four-at entry B8G8R8X8 m pixel a b c d = λ i. a i ∷ b i ∷ c i ∷ 255 ∷ []
four-at entry A8R8G8B8 m pixel a b c d = λ i. d i ∷ c i ∷ b i ∷ a i ∷ []
four-at entry X8R8G8B8 m pixel a b c d = λ i. d i ∷ c i ∷ b i ∷ 255 ∷ []
four-at entry R8G8B8A8 m pixel a b c d = λ i. c i ∷ b i ∷ a i ∷ d i ∷ []
four-at entry X8B8G8R8 m pixel a b c d = λ i. b i ∷ c i ∷ d i ∷ 255 ∷ []
four-at entry A8B8G8R8 m pixel a b c d = λ i. b i ∷ c i ∷ d i ∷ a i ∷ []
four-at entry R8G8B8X8 m pixel a b c d = λ i. c i ∷ b i ∷ a i ∷ 255 ∷ []

shown-byte : (entry : ℕ) (format : Format) (m : List ℕ) (pixel : ℕ → ℕ) (c : ℕ) → c < 4 → ((n : ℕ) → n < 4 → slice_index m n ≡ pixel n) → slice_index (shown_bytes format m) c ≡ shown_at numbers entry format pixel c
shown-byte entry format m pixel c below is =
    ap (λ xs. slice_index xs c) (four-at entry format m pixel (is 0 (omega arith)) (is 1 (omega arith)) (is 2 (omega arith)) (is 3 (omega arith)))
    ∙ four-of (shown_at numbers entry format pixel) c below

-- byte c of pixels of a surface, the first of which begins at a place
pub surface-byte : (entry : ℕ) (format : Format) (bytes : List ℕ) (at : ℕ → ℕ) (start c : ℕ) → IsAt bytes at
    → shown_byte format (drop start bytes) c ≡ shown_at numbers entry format (λ n. at (start + 4 * (c / 4) + n)) (c % 4)
surface-byte entry format bytes at start c is =
    let skip = 4 * (c / 4) in
    shown-byte entry format (take 4 (drop skip (drop start bytes))) (λ n. at (start + skip + n)) (c % 4) (mod_below c 4 (omega arith)) (λ n below.
    get_or-take 4 (drop skip (drop start bytes)) n 0 below ∙ get_or-drop skip (drop start bytes) n 0 ∙ get_or-drop start bytes (skip + n) 0 ∙ is (start + (skip + n)) ∙ ap at (omega arith))

-- an image
pub image-is : (entry : ℕ) (resource : Resource) (at : ℕ → ℕ) → IsAt resource.pixels at → IsAt (shown_row resource.format resource.pixels) (image_at numbers entry (Some resource) at)
unfolding shown_row
image-is entry resource at is =
    let bytes = resource.pixels in
    let format = resource.format in
    let value : ℕ → ℕ = λ k. shown_at numbers entry format (λ n. at (4 * (k / 4) + n)) (k % 4) in
    tabulated-at (shown_byte format bytes) (image_at numbers entry (Some resource) at) (length bytes)
    (λ k within.
    let skip = 4 * (k / 4) in
    shown-byte entry format (take 4 (drop skip bytes)) (λ n. at (skip + n)) (k % 4) (mod_below k 4 (omega arith)) (λ n below. get_or-take 4 (drop skip bytes) n 0 below ∙ get_or-drop skip bytes n 0 ∙ is (skip + n))
    ∙ sym (ap (λ b. cond b (value k) 0) (lt-ltb k (length bytes) within)))
    (λ k past. sym (ap (λ b. cond b (value k) 0) (le-ltb k (length bytes) past)))

-- ---- frames

over-is : (i j c : ℕ) (image : List ℕ) (at : ℕ → ℕ) (screen : ℕ) → IsAt image at → over image i j c screen ≡ over_at numbers i j c at screen
over-is i j c image at screen is =
    λ k. cond (c == 3) 255 (mixed (is (4 * (64 * j + i) + c) k) (is (4 * (64 * j + i) + 3) k) screen)

covered-is : (z w : ℤ) (c : ℕ) (image : List ℕ) (at : ℕ → ℕ) (screen : ℕ) → IsAt image at → covered image z w c screen ≡ covered_at numbers z w c at screen
covered-is (pos i) (pos j) c image at screen is = ap (λ byte. cond (nat_lt i 64 && nat_lt j 64) byte screen) (over-is i j c image at screen is)
covered-is (pos i) (negsuc n) c image at screen is = refl
covered-is (negsuc n) w c image at screen is = refl

blended-by : (b : Bool) (cursor : Cursor) (width : ℕ) (screen : List ℕ) (at image : ℕ → ℕ) → IsAt screen at → IsAt cursor.image image → (k : ℕ) → k < length screen
    → get_or (cond b (tabulate (length screen) (blended_place cursor width screen)) screen) k 0
    ≡ cond b (covered_at numbers (image_place cursor.x cursor.hot_x (k % (4 * width) / 4)) (image_place cursor.y cursor.hot_y (k / (4 * width))) (k % 4) image (at k)) (at k)
blended-by true cursor width screen at image is are k within =
    let z = image_place cursor.x cursor.hot_x (k % (4 * width) / 4) in
    let w = image_place cursor.y cursor.hot_y (k / (4 * width)) in
    get_or-tabulate (blended_place cursor width screen) (length screen) k 0 within
    ∙ ap (covered cursor.image z w (k % 4)) (is k)
    ∙ covered-is z w (k % 4) cursor.image image (at k) are
blended-by false cursor width screen at image is are k within = is k

pub blended-is : (cursor : Cursor) (width : ℕ) (screen : List ℕ) (at image : ℕ → ℕ) → IsAt screen at → IsAt cursor.image image → (k : ℕ) → k < length screen
    → slice_index (blended cursor width screen) k ≡ blended_at numbers cursor width at image k
unfolding blended
blended-is cursor width screen at image is are k within = blended-by cursor.visible cursor width screen at image is are k within

length-chosen : (b : Bool) (f : ℕ → ℕ) (screen : List ℕ) → length (cond b (tabulate (length screen) f) screen) ≡ length screen
length-chosen true f screen = length-tabulate f (length screen)
length-chosen false f screen = refl

pub length-blend : (cursor : Cursor) (width : ℕ) (screen : List ℕ) → length (blended cursor width screen) ≡ length screen
unfolding blended
length-blend cursor width screen = length-chosen cursor.visible (blended_place cursor width screen) screen
