-- The bytes of entries that stand one after another, and the runs that tell where each begins.
use Rattle.std.proofs.Common.{◌≡◌, ℕ, zero, suc, ◌+◌, ◌-◌, ◌^◌, ◌<◌, ◌≤◌, List, [], ◌∷◌, ◌++◌, length, get_or, take, drop, refl, sym, ap, ◌∙◌, inl, inr, arith}
use Rattle.std.proofs.Math.Seq.{drop-append-add}
use Rattle.std.proofs.lemmas.List.{length-map, length-take, length-drop, length-append, take-append-le, drop-append-le, drop-take, drop-drop, take-take, take_all, get_or-map}
use Rattle.std.proofs.lemmas.List.Sums.{sum_by-cons, sum_by_more}
use Rattle.std.proofs.lemmas.Bool.{cases_lt}
use Rattle.vg_formats.specs.declared.entry.MemEntry.{MemEntry}
use Rattle.vg_pages.specs.Memory.{Memory, HoldsRange, bytes_at}
use Rattle.vg_backing.specs.declared.run.Run.{Run}
use Rattle.vg_backing.specs.Backing.{AreHeld, backing_bytes, total}
use Rattle.vg_backing.specs.Fits.{ArePlaced, HasByte, entries_of, entry_of}

-- bytes from another place on in a range of memory
bytes-within : (bytes : List ℕ) (addr length skip n start : ℕ) → start ≤ addr → skip + n ≤ length
    → take n (drop skip (take length (drop (addr - start) bytes))) ≡ take n (drop (addr + skip - start) bytes)
bytes-within bytes addr length skip n start low fits =
    let rest = length - skip in
    let size : length ≡ skip + rest = omega arith in
    let at : addr - start + skip ≡ addr + skip - start = omega arith in
    ap (λ m. take n (drop skip (take m (drop (addr - start) bytes)))) size
    ∙ ap (take n) (drop-take skip rest (drop (addr - start) bytes))
    ∙ take-take n rest (drop skip (drop (addr - start) bytes)) (omega arith)
    ∙ ap (take n) (drop-drop skip (addr - start) bytes)
    ∙ ap (λ m. take n (drop m bytes)) at

pub length-bytes_at : (memory : Memory) (addr n : ℕ) → HoldsRange memory addr n → length (bytes_at memory.bytes addr n) ≡ n
length-bytes_at memory addr n held = omega (arith, length-take n (drop (addr - 1048576) memory.bytes), length-drop (addr - 1048576) memory.bytes, held)

held-rest : (memory : Memory) (entry : MemEntry) (more : List MemEntry) → AreHeld memory (entry ∷ more) → AreHeld memory more
held-rest memory entry more held = λ k d within. held (suc k) d (omega arith)

-- the bytes of one entry stand after those of the entries before it
piece : (memory : Memory) (entries : List MemEntry) (k skip n : ℕ) (d : MemEntry) → AreHeld memory entries → k < length entries → skip + n ≤ (get_or entries k d).length
    → take n (drop (total (take k entries) + skip) (backing_bytes memory entries)) ≡ bytes_at memory.bytes ((get_or entries k d).addr + skip) n
unfolding backing_bytes
piece memory [] k skip n d held within fits = absurd (omega arith)
piece memory (entry ∷ more) zero skip n d held within fits =
    let here = bytes_at memory.bytes entry.addr entry.length in
    let holds : HoldsRange memory entry.addr entry.length = (held zero d (omega arith)).1 in
    let long : length here ≡ entry.length = length-bytes_at memory entry.addr entry.length holds in
    let none : 0 + skip ≡ skip = omega arith in
    ap (λ m. take n (drop m (here ++ backing_bytes memory more))) none
    ∙ ap (take n) (drop-append-le skip here (backing_bytes memory more) (omega (arith, long)))
    ∙ take-append-le n (drop skip here) (backing_bytes memory more) (omega (arith, long, length-drop skip here))
    ∙ bytes-within memory.bytes entry.addr entry.length skip n 1048576 holds.0 fits
piece memory (entry ∷ more) (suc k) skip n d held within fits =
    let here = bytes_at memory.bytes entry.addr entry.length in
    let long : length here ≡ entry.length = length-bytes_at memory entry.addr entry.length (held zero d (omega arith)).1 in
    let place : total (take (suc k) (entry ∷ more)) + skip ≡ length here + (total (take k more) + skip) =
    omega (arith, long, sum_by-cons (λ (e : MemEntry). e.length) entry (take k more))
    in
    ap (λ m. take n (drop m (here ++ backing_bytes memory more))) place
    ∙ ap (take n) (drop-append-add here (backing_bytes memory more) (total (take k more) + skip))
    ∙ piece memory more k skip n d (held-rest memory entry more held) (omega arith) fits

pub length-backing_bytes : (memory : Memory) (entries : List MemEntry) → AreHeld memory entries → length (backing_bytes memory entries) ≡ total entries
unfolding backing_bytes
length-backing_bytes memory [] held = refl
length-backing_bytes memory (entry ∷ more) held =
    let here = bytes_at memory.bytes entry.addr entry.length in
    let long : length here ≡ entry.length = length-bytes_at memory entry.addr entry.length (held zero entry (omega arith)).1 in
    omega (arith, long, length-append here (backing_bytes memory more), length-backing_bytes memory more (held-rest memory entry more held), sum_by-cons (λ (e : MemEntry). e.length) entry more)

pub length-entries_of : (runs : List Run) → length (entries_of runs) ≡ length runs
length-entries_of runs = length-map runs entry_of

pub entry-at : (runs : List Run) (k : ℕ) (d : Run) (e : MemEntry) → k < length runs → get_or (entries_of runs) k e ≡ entry_of (get_or runs k d)
entry-at runs k d e within = get_or-map entry_of runs k d e within

-- what is known of a run
pub record At (memory : Memory) (runs : List Run) (k : ℕ) (run : Run) : Type 0 where
  pub start : run.start ≡ total (take k (entries_of runs))
  pub end : total (take (k + 1) (entries_of runs)) ≡ run.start + run.length
  pub some : 0 < run.length
  pub low : 1048576 ≤ run.addr
  pub fits : run.addr + run.length < 2 ^ 64
  pub high : run.addr + run.length ≤ 1048576 + length memory.bytes

pub run-at : (memory : Memory) (runs : List Run) (k : ℕ) (d : Run) → ArePlaced runs → AreHeld memory (entries_of runs) → k < length runs → At memory runs k (get_or runs k d)
run-at memory runs k d placed held within =
    let run = get_or runs k d in
    let inside : k < length (entries_of runs) = omega (arith, length-entries_of runs) in
    let same : get_or (entries_of runs) k (entry_of run) ≡ (entry_of run) = entry-at runs k d (entry_of run) within in
    let is = rw same at (held k (entry_of run) inside) in
    let begin : run.start ≡ total (take k (entries_of runs)) = (placed k d within).0 in
    record {
      start = begin;
      end = sum_by_more (λ (e : MemEntry). e.length) (entries_of runs) k (entry_of run) inside ∙ ap (λ (e : MemEntry). total (take k (entries_of runs)) + e.length) same ∙ ap (λ m. m + run.length) (sym begin);
      some = is.0;
      low = is.1.0;
      fits = (placed k d within).1;
      high = is.1.1;
    }

-- the run after one that was read to its end has the next byte
pub next-run : (memory : Memory) (runs : List Run) (k at : ℕ) (d : Run) → ArePlaced runs → AreHeld memory (entries_of runs) → k < length runs
    → at ≡ total (take (k + 1) (entries_of runs)) → at < total (entries_of runs) → HasByte runs (k + 1) at
next-run memory runs k at d placed held within here inside =
    elim (cases_lt (k + 1) (length runs)) [
      | inl more ↦
          let next = run-at memory runs (k + 1) d placed held more in
          (more, omega (arith, here), omega (arith, here, next))
      | inr last ↦
          let all : take (k + 1) (entries_of runs) ≡ entries_of runs = take_all (k + 1) (entries_of runs) (omega (arith, length-entries_of runs)) in
          absurd (omega (arith, here, inside, ap (λ es. total es) all))
    ]

-- bytes of a run, as they stand in the backing
pub bytes-here : (memory : Memory) (runs : List Run) (k at skip n : ℕ) (d : Run) → ArePlaced runs → AreHeld memory (entries_of runs) → k < length runs
    → at ≡ (get_or runs k d).start + skip → skip + n ≤ (get_or runs k d).length
    → take n (drop at (backing_bytes memory (entries_of runs))) ≡ bytes_at memory.bytes ((get_or runs k d).addr + skip) n
bytes-here memory runs k at skip n d placed held within here fits =
    let run = get_or runs k d in
    let same : get_or (entries_of runs) k (entry_of run) ≡ (entry_of run) = entry-at runs k d (entry_of run) within in
    let inside : k < length (entries_of runs) = omega (arith, length-entries_of runs) in
    let room : skip + n ≤ (get_or (entries_of runs) k (entry_of run)).length = rw same fits in
    ap (λ m. take n (drop m (backing_bytes memory (entries_of runs)))) (here ∙ ap (λ m. m + skip) (placed k d within).0)
    ∙ piece memory (entries_of runs) k skip n (entry_of run) held inside room
    ∙ ap (λ (e : MemEntry). bytes_at memory.bytes (e.addr + skip) n) same
