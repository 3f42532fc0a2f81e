-- What a transfer copies, pixel by pixel, and rows that stand one after another.
use Rattle.std.proofs.Common.{◌≡◌, ℕ, ◌+◌, ◌-◌, ◌*◌, ◌/◌, ◌%◌, ◌<◌, ◌≤◌, ◌&&◌, Bool, true, false, not, List, [], ◌∷◌, length, get_or, slice_index, take, drop, Option, Some, None, Result, Ok, sym, ap, ◌∙◌, refl, subst, arith, le_refl}
use Rattle.std.specs.Prelude.{IfSome, is_none, nat_lt, unwrap_or}
use Rattle.std.specs.List.{All}
use Rattle.std.proofs.lemmas.Bool.Decides.{nat_tests}
use Rattle.std.proofs.lemmas.List.{get_or-take, get_or-drop, length-take, length-drop}
use Rattle.std.proofs.lemmas.Nat.{div-add-mod', div_below, mod_below, row_fits}
use Rattle.std.proofs.lemmas.Map.Entries.{All-lookup}
use borrow.Rule.Slice.PartMut.{put_mid}
use Rattle.vg_places.specs.declared.rectangles.Area.{Area}
use Rattle.vg_places.specs.Places.{tabulate}
use Rattle.vg_places.specs.Rectangles.{place_of, filled, copied}
use Rattle.vg_places.proofs.Places.{tabulate_from_places}
use Rattle.vg_places.proofs.Tabulated.{put_mid-tabulate}
use Rattle.vg_places.proofs.Filled.{length-filled, row-ends}
use Rattle.vg_places.proofs.PixelLemmas.{filled-in, filled-out, length-four, of-four, pixel-in, pixel-out}
use Rattle.vg_formats.specs.declared.entry.MemEntry.{MemEntry}
use Rattle.vg_formats.specs.declared.rect.Rect.{Rect}
use Rattle.vg_formats.specs.Pixels.{is_empty, is_inside}
use Rattle.vg_pages.specs.Memory.{Memory}
use Rattle.vg_refusals.specs.Refusals.{refusal_of, unless_refused}
use Rattle.vg_backing.specs.Backing.{AreHeld, backing_bytes, total}
use Rattle.vg_backing.proofs.BackingLemmas.{length-backing_bytes}
use Rattle.vg_transfer.specs.Backings.{backing_at, bytes_of_rect, entries_at, transfer, transfer_end, transfer_refusals, transferred}
use Rattle.vg_transfer.specs.Pixels.{CopiesRect}

-- rows that are as wide as those of the list stand one after another, in it and in the source
pub copied-whole : (a : Area) (row_length offset : ℕ) (source old part : List ℕ) (to m : ℕ)
    → 0 < row_length → a.column ≡ 0 → a.width ≡ row_length → to ≡ a.row * row_length → m ≡ a.height * row_length
    → to + m ≤ length old → offset + m ≤ length source → part ≡ take m (drop offset source)
    → put_mid to m old part ≡ copied a row_length source row_length offset old
copied-whole a row_length offset source old part to m some left wide start size fits inside is =
    let value : ℕ → ℕ → ℕ = λ i c. slice_index source (offset + row_length * i + c) in
    let new = filled a row_length value old in
    let at : ℕ → ℕ = λ k. get_or new k 0 in
    let was : old ≡ tabulate (length old) (λ k. get_or old k 0) = tabulate_from_places (λ k. get_or old k 0) old (length old) 0 refl (λ k within. refl) in
    let now : new ≡ tabulate (length old) at = tabulate_from_places at new (length old) 0 (length-filled a row_length value old) (λ k within. refl) in
    let long : length part ≡ m = ap (λ xs. length xs) is ∙ omega (arith, length-take m (drop offset source), length-drop offset source, inside) in
    ap (λ xs. put_mid to m xs part) was
    ∙ put_mid-tabulate (λ k. get_or old k 0) at (length old) to m part fits long
    (λ k within.
    let q = k / row_length in
    let c = k % row_length in
    let parts : q * row_length + c ≡ k = div-add-mod' k row_length in
    let row : q < a.height = div_below k row_length a.height some (omega (arith, within, size)) in
    let column : c < a.width = rw wide (mod_below k row_length some) in
    let place : to + k ≡ place_of a row_length q c = omega (arith, parts, start, left) in
    let from : offset + k ≡ offset + row_length * q + c = omega (arith, parts) in
    ap (λ xs. get_or xs k 0) is
    ∙ get_or-take m (drop offset source) k 0 within
    ∙ get_or-drop offset source k 0
    ∙ ap (λ n. get_or source n 0) from
    ∙ sym (filled-in a row_length value old q c (to + k) (omega (arith, left, wide)) row column place (omega (arith, within, fits))))
    (λ k before. sym (filled-out a row_length value old k (λ i c row column same. omega (arith, same, before, start))))
    (λ k after. sym (filled-out a row_length value old k (λ i c row column same.
    let next : i * row_length + row_length ≤ a.height * row_length = row_fits i row_length a.height row_length row (le_refl row_length) in
    omega (arith, same, after, start, size, left, wide, column, next))))
    ∙ sym now

pub held-by : (memory : Memory) (found : Option (List MemEntry)) → IfSome found (AreHeld memory) → AreHeld memory (unwrap_or found [])
held-by memory (Some entries) held = held
held-by memory None held = λ k d within. absurd (omega arith)

inside-ends : (rect : Rect) (width height : ℕ) → not (is_inside rect width height) ≡ false → (rect.x + rect.width ≤ width) × (rect.y + rect.height ≤ height)
inside-ends rect width height inside = (grind (arith, nat_tests), grind (arith, nat_tests))

reads-within : (rect : Rect) (end size : ℕ) → (not (is_empty rect) && nat_lt size end) ≡ false → 0 < rect.width → 0 < rect.height → end ≤ size
reads-within rect end size few some_width some_height = grind (arith, nat_tests)

copies-in : (memory : Memory) (entries : List MemEntry) (rect : Rect) (offset width height : ℕ) (pixels : List ℕ) → length pixels ≡ 4 * width * height → AreHeld memory entries
    → not (is_inside rect width height) ≡ false → (not (is_empty rect) && nat_lt (total entries) (transfer_end rect offset width)) ≡ false
    → CopiesRect rect offset width height (backing_bytes memory entries) pixels (transferred memory entries rect offset width pixels)
copies-in memory entries rect offset width height pixels whole held inside few =
    let bytes = backing_bytes memory entries in
    let area = bytes_of_rect rect in
    let value : ℕ → ℕ → ℕ = λ i c. slice_index bytes (offset + 4 * width * i + c) in
    let ends = inside-ends rect width height inside in
    let long = length-backing_bytes memory entries held in
    record {
      copied = λ i j across down.
          let end = reads-within rect (transfer_end rect offset width) (total entries) few (omega arith) (omega arith) in
          let row = row-ends offset (4 * width) rect.height (4 * rect.width) (total entries) j end down in
          let from = offset + 4 * width * j + 4 * i in
          pixel-in area width height value pixels (take 4 (drop from bytes)) rect.x i j (rect.x + i) (rect.y + j)
          whole (length-four bytes from (omega (arith, row, long, across))) refl (omega (arith, ends)) refl refl (omega (arith, ends, across)) (omega (arith, ends, down)) (omega (arith, across)) down
          (λ c below.
          let place : offset + 4 * width * j + (4 * i + c) ≡ from + c = omega arith in
          ap (λ n. get_or bytes n 0) place ∙ sym (of-four bytes from c below));
      kept = λ x y across down apart.
          pixel-out area width height value pixels x y whole across down
          (λ i c k row column four down_is across_is.
          apart (omega (arith, across_is, four), omega (arith, across_is, column), omega (arith, down_is), omega (arith, down_is, row)))
          (λ some. omega (arith, ends));
    }

-- none of several reasons holds
pub none-holds : (b : Bool) (code : ℕ) (more : List (Bool × ℕ)) → refusal_of ((b, code) ∷ more) ≡ None → (b ≡ false) × (refusal_of more ≡ None)
none-holds true code more none = cc
none-holds false code more none = (refl, none)

-- what was done was not refused
went : {S : Type 0} (refusal : Option ℕ) (old new : S) → ◌≡◌ {A = Result (Unit {0}) ℕ} (unless_refused refusal old new).1 (Ok tt) → (refusal ≡ None) × ((unless_refused refusal old new).0 ≡ new)
went (Some code) old new done = cc
went None old new done = (refl, refl)

abbrev third : Rect → ℕ → ℕ → List MemEntry → List (Bool × ℕ)
third rect offset width entries = (not (is_empty rect) && nat_lt (total entries) (transfer_end rect offset width), 0x1205) ∷ []

abbrev second : Rect → ℕ → ℕ → ℕ → List MemEntry → List (Bool × ℕ)
second rect offset width height entries = (not (is_inside rect width height), 0x1205) ∷ third rect offset width entries

-- a transfer that no reason refuses copies each pixel
pub copies-accepted : (memory : Memory) (id : ℕ) (rect : Rect) (offset width height : ℕ) (backings : List (ℕ × List MemEntry)) (pixels : List ℕ)
    → All (λ entry. AreHeld memory entry.1) backings → length pixels ≡ 4 * width * height → refusal_of (transfer_refusals true id rect offset width height backings) ≡ None
    → CopiesRect rect offset width height (backing_bytes memory (entries_at id backings)) pixels (transferred memory (entries_at id backings) rect offset width pixels)
copies-accepted memory id rect offset width height backings pixels all whole none =
    let entries = entries_at id backings in
    let held = held-by memory (backing_at id backings) (All-lookup (AreHeld memory) _ backings all) in
    let first = none-holds (is_none (backing_at id backings)) 0x1200 (second rect offset width height entries) none in
    let inside = none-holds (not (is_inside rect width height)) 0x1205 (third rect offset width entries) first.1 in
    let few = none-holds (not (is_empty rect) && nat_lt (total entries) (transfer_end rect offset width)) 0x1205 [] inside.1 in
    copies-in memory entries rect offset width height pixels whole held inside.0 few.0

pub copies-each : (memory : Memory) (id : ℕ) (rect : Rect) (offset width height : ℕ) (backings : List (ℕ × List MemEntry)) (pixels : List ℕ)
    → All (λ entry. AreHeld memory entry.1) backings → length pixels ≡ 4 * width * height
    → ◌≡◌ {A = Result (Unit {0}) ℕ} (transfer true memory id rect offset width height backings pixels).1 (Ok tt)
    → CopiesRect rect offset width height (backing_bytes memory (entries_at id backings)) pixels (transfer true memory id rect offset width height backings pixels).0
unfolding transfer
copies-each memory id rect offset width height backings pixels all whole done =
    let bytes = backing_bytes memory (entries_at id backings) in
    let new = transferred memory (entries_at id backings) rect offset width pixels in
    let (none, is) = went (refusal_of (transfer_refusals true id rect offset width height backings)) pixels new done in
    subst (λ xs. CopiesRect rect offset width height bytes pixels xs) (sym is) (copies-accepted memory id rect offset width height backings pixels all whole none)

-- where the last of such rows ends
pub whole-end : (rect : Rect) (offset : ℕ) → 0 < rect.height → transfer_end rect offset rect.width ≡ offset + rect.height * (4 * rect.width)
whole-end rect offset some =
    let rows : rect.height ≡ rect.height - 1 + 1 = omega arith in
    let all : rect.height * (4 * rect.width) ≡ (rect.height - 1 + 1) * (4 * rect.width) = ap (λ n. n * (4 * rect.width)) rows in
    omega (arith, all)
