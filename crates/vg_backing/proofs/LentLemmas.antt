-- Bytes that are lent, one piece of a page after another.
use Rattle.std.proofs.Common.{◌≡◌, ℕ, ◌+◌, ◌-◌, ◌/◌, ◌%◌, ◌==◌, ◌<◌, ◌≤◌, ◌||◌, Bool, true, false, List, [], ◌∷◌, ◌++◌, length, get_or, take, drop, refl, sym, ap, ◌∙◌, append_assoc, arith}
use Rattle.std.proofs.Math.Seq.{take-add}
use Rattle.std.proofs.lemmas.Bool.{eq-eqb}
use Rattle.std.proofs.lemmas.List.{append-nil, drop-drop, get_or-take, get_or-drop, length-take, length-drop}
use Rattle.std.proofs.lemmas.List.Folds.{list_any-append, list_any_at}
use Rattle.vg_formats.specs.declared.entry.MemEntry.{MemEntry}
use Rattle.vg_pages.specs.Lending.{AreSameIn, joined}
use Rattle.vg_pages.specs.Memory.{Memory, bytes_at, is_among, page_address}
use Rattle.vg_pages.proofs.Padded.{same-places}
use Rattle.std.proofs.lemmas.List.{get_or_past}
use Rattle.std.proofs.lemmas.Bool.{cases_lt}
use Rattle.std.proofs.Common.{inl, inr}
use Rattle.std.proofs.lemmas.Bool.Decides.{nat_tests}
use Rattle.std.proofs.lemmas.List.Elements.{All-push}
use Rattle.vg_backing.specs.declared.run.Run.{Run}
use Rattle.vg_backing.specs.Backing.{AreHeld, backing_bytes, is_touched, touches}
use Rattle.vg_backing.specs.Fits.{IsLent, entries_of, entry_of}
use Rattle.vg_backing.proofs.BackingLemmas.{entry-at, length-entries_of}

joined-push : (ps : List (List ℕ)) (p : List ℕ) → joined (ps ++ p ∷ []) ≡ joined ps ++ p
joined-push [] p = append-nil p
joined-push (q ∷ ps) p = ap (λ xs. q ++ xs) (joined-push ps p) ∙ sym (append_assoc q (joined ps) p)

among-before : (pages : List ℕ) (page one : ℕ) → is_among pages one ≡ true → is_among (pages ++ page ∷ []) one ≡ true
among-before pages page one is = list_any-append (λ k. k == one) pages (page ∷ []) ∙ ap (λ b. b || ((page == one) || false)) is

or-true : (b : Bool) → (b || (true || false)) ≡ true
or-true true = refl
or-true false = refl

among-last : (pages : List ℕ) (page one : ℕ) → page ≡ one → is_among (pages ++ page ∷ []) one ≡ true
among-last pages page one same =
    list_any-append (λ k. k == one) pages (page ∷ [])
    ∙ ap (λ b. is_among pages one || (b || false)) (eq-eqb page one same) ∙ or-true (is_among pages one)

-- a memory with the same bytes in the pages, and in one more, has them in the pages
same-before : (pages : List ℕ) (page : ℕ) (one other : Memory) → AreSameIn (pages ++ page ∷ []) one other → AreSameIn pages one other
same-before pages page one other are = record {
  size = are.size;
  each = λ place is. are.each place (among-before pages page (place / 4096) is);
}

held-other : (one other : Memory) (entries : List MemEntry) → length other.bytes ≡ length one.bytes → AreHeld one entries → AreHeld other entries
held-other one other entries size held = λ k d within.
    let was = held k d within in
    (was.0, (was.1.0, omega (arith, was.1.1, size)))

-- bytes of one page
same-piece : (pages : List ℕ) (one other : Memory) (addr n : ℕ) → 1048576 ≤ addr → n ≤ 4096 - addr % 4096 → AreSameIn (pages ++ ((addr - 1048576) / 4096) ∷ []) one other
    → bytes_at other.bytes addr n ≡ bytes_at one.bytes addr n
same-piece pages one other addr n low fits are =
    let s = addr - 1048576 in
    let long : length (take n (drop s other.bytes)) ≡ length (take n (drop s one.bytes)) =
    omega (arith, length-take n (drop s other.bytes), length-drop s other.bytes, length-take n (drop s one.bytes), length-drop s one.bytes, are.size) in
    same-places (take n (drop s other.bytes)) (take n (drop s one.bytes)) long (λ k.
    elim (cases_lt k n) [
      | inl within ↦
          let page : s / 4096 ≡ (s + k) / 4096 = omega (arith, low, fits, within) in
          get_or-take n (drop s other.bytes) k 0 within ∙ get_or-drop s other.bytes k 0
          ∙ are.each (s + k) (among-last pages (s / 4096) ((s + k) / 4096) page)
          ∙ sym (get_or-take n (drop s one.bytes) k 0 within ∙ get_or-drop s one.bytes k 0)
      | inr past ↦
          get_or_past (take n (drop s other.bytes)) k 0 (omega (arith, past, length-take n (drop s other.bytes)))
          ∙ sym (get_or_past (take n (drop s one.bytes)) k 0 (omega (arith, past, length-take n (drop s one.bytes))))
    ])

taken-on : (xs : List ℕ) (at done n : ℕ) → take (done + n) (drop at xs) ≡ take done (drop at xs) ++ take n (drop (at + done) xs)
taken-on xs at done n = take-add done n (drop at xs) ∙ ap (λ ys. take done (drop at xs) ++ take n ys) (drop-drop done at xs)

-- nothing yet
pub lent-none : (memory : Memory) (entries : List MemEntry) (at : ℕ) → IsLent memory entries at 0 (record { bytes = []; pages = [] })
lent-none memory entries at = record {
  bytes = refl;
  rest = λ other are. refl;
  touched = λ k d within. absurd (omega (arith, within));
  inside = λ k d within. absurd (omega (arith, within));
}

test-touched : (page addr : ℕ) (entry : MemEntry) → page ≡ (addr - 1048576) / 4096 → 1048576 ≤ entry.addr → entry.addr ≤ addr → addr < entry.addr + entry.length → is_touched page entry ≡ true
test-touched page addr entry is low from to =
    let some : 0 < entry.length = omega (arith, from, to) in
    let before : entry.addr < page_address page + 4096 = omega (arith, is, low, from) in
    let behind : page_address page < entry.addr + entry.length = omega (arith, is, low, from, to) in
    grind (arith, nat_tests, some, before, behind)

-- the page of a byte of a run is touched
pub touched-at : (runs : List Run) (k addr : ℕ) (d : Run) → k < length runs → 1048576 ≤ (get_or runs k d).addr → (get_or runs k d).addr ≤ addr
    → addr < (get_or runs k d).addr + (get_or runs k d).length → touches ((addr - 1048576) / 4096) (entries_of runs) ≡ true
touched-at runs k addr d within low from to =
    let page = (addr - 1048576) / 4096 in
    let entry = entry_of (get_or runs k d) in
    list_any_at (is_touched page) (entries_of runs) k entry (omega (arith, within, length-entries_of runs))
    (ap (is_touched page) (entry-at runs k d entry within) ∙ test-touched page addr entry refl low from to)

-- one piece more
pub lent-on : (memory : Memory) (entries : List MemEntry) (at done n addr : ℕ) (pieces : List (List ℕ)) (piece pages : List ℕ) → AreHeld memory entries
    → 1048576 ≤ addr → n ≤ 4096 - addr % 4096 → piece ≡ bytes_at memory.bytes addr n
    → ((other : Memory) → AreHeld other entries → take n (drop (at + done) (backing_bytes other entries)) ≡ bytes_at other.bytes addr n)
    → touches ((addr - 1048576) / 4096) entries ≡ true → (addr - 1048576) / 4096 < length memory.taken
    → IsLent memory entries at done (record { bytes = joined pieces; pages = pages })
    → IsLent memory entries at (done + n) (record { bytes = joined (pieces ++ piece ∷ []); pages = pages ++ ((addr - 1048576) / 4096) ∷ [] })
lent-on memory entries at done n addr pieces piece pages held low fits is here touched inside was = record {
  bytes =
      joined-push pieces piece ∙ ap (λ xs. joined pieces ++ xs) (is ∙ sym (here memory held)) ∙ ap (λ xs. xs ++ take n (drop (at + done) (backing_bytes memory entries))) was.bytes
      ∙ sym (taken-on (backing_bytes memory entries) at done n);
  rest = λ other are.
      taken-on (backing_bytes other entries) at done n
      ∙ ap (λ xs. xs ++ take n (drop (at + done) (backing_bytes other entries))) (was.rest other (same-before pages ((addr - 1048576) / 4096) memory other are))
      ∙ ap (λ xs. joined pieces ++ xs) (here other (held-other memory other entries are.size held) ∙ same-piece pages memory other addr n low fits are ∙ sym is)
      ∙ sym (joined-push pieces piece);
  touched = All-push (λ page. touches page entries ≡ true) pages ((addr - 1048576) / 4096) was.touched touched;
  inside = All-push (λ page. page < length memory.taken) pages ((addr - 1048576) / 4096) was.inside inside;
}
