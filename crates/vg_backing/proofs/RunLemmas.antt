-- Entries that are joined where guest memory goes on have the same bytes as before, in the same order.
use Rattle.std.proofs.Common.{◌≡◌, ℕ, zero, suc, ◌+◌, ◌-◌, ◌^◌, ◌<◌, ◌≤◌, ◌==◌, ◌||◌, Bool, true, false, List, [], ◌∷◌, ◌++◌, cond, length, get_or, take, drop, refl, sym, ap, ◌∙◌, subst, append_assoc, arith}
use Rattle.std.specs.List.{All}
use Rattle.std.proofs.Math.Seq.{take-add}
use Rattle.std.proofs.lemmas.Bool.{eqb-true, eq-eqb}
use Rattle.std.proofs.lemmas.Bool.Decides.{nat_tests}
use Rattle.std.proofs.lemmas.List.{drop-drop}
use Rattle.std.proofs.lemmas.List.Sums.{sum_by-cons}
use Rattle.vg_formats.specs.declared.entry.MemEntry.{MemEntry}
use Rattle.vg_pages.specs.Memory.{Memory, HoldsRange, bytes_at}
use Rattle.vg_backing.specs.declared.run.Run.{Run}
use Rattle.vg_backing.specs.Backing.{AreHeld, backing_bytes, is_touched, total, touches}
use Rattle.vg_backing.specs.Fits.{EndsInRange, IsTable, entries_of, entry_of}
use Rattle.vg_backing.specs.Runs.{run_at, runs_from, runs_of, with_entry}

-- an entry that is joined to the run behind it
abbrev joined : ℕ → MemEntry → Run → Run
joined start entry run = record { start = start; addr = entry.addr; length = entry.length + run.length }

-- an entry and one at its end stand in front of runs as one of both's bytes does
pub joined-on : (start n : ℕ) (one two : MemEntry) (runs : List Run) → one.addr + one.length ≡ two.addr
    → with_entry start one (with_entry n two runs) ≡ with_entry start (record { addr = one.addr; length = one.length + two.length }) runs
joined-on start n one two [] meets = ap (λ b. cond b (joined start one (run_at n two) ∷ []) (run_at start one ∷ run_at n two ∷ [])) (eq-eqb (one.addr + one.length) two.addr meets)
joined-on start n one two (run ∷ more) meets = by_test (two.addr + two.length == run.addr) refl
  where
    both : MemEntry
    both = record { addr = one.addr; length = one.length + two.length }

    end : one.addr + (one.length + two.length) ≡ two.addr + two.length
    end = omega (arith, meets)

    by_test : (b : Bool) → (two.addr + two.length == run.addr) ≡ b
        → with_entry start one (cond b (joined n two run ∷ more) (run_at n two ∷ run ∷ more)) ≡ cond (one.addr + (one.length + two.length) == run.addr) (joined start both run ∷ more) (run_at start both ∷ run ∷ more)
    by_test true is =
        let long : one.length + (two.length + run.length) ≡ one.length + two.length + run.length = omega arith in
        let wide : ℕ → Run = λ l. record { start = start; addr = one.addr; length = l } in
        ap (λ b. cond b (joined start one (joined n two run) ∷ more) (run_at start one ∷ joined n two run ∷ more)) (eq-eqb (one.addr + one.length) two.addr meets)
        ∙ ap (λ l. wide l ∷ more) long
        ∙ sym (ap (λ b. cond b (joined start both run ∷ more) (run_at start both ∷ run ∷ more)) (ap (λ m. m == run.addr) end ∙ is))
    by_test false is =
        ap (λ b. cond b (joined start one (run_at n two) ∷ run ∷ more) (run_at start one ∷ run_at n two ∷ run ∷ more)) (eq-eqb (one.addr + one.length) two.addr meets)
        ∙ sym (ap (λ b. cond b (joined start both run ∷ more) (run_at start both ∷ run ∷ more)) (ap (λ m. m == run.addr) end ∙ is))

-- an entry that doesn't end where another begins stands in front of it by itself
pub apart-from : (start n : ℕ) (one two : MemEntry) (runs : List Run) → (one.addr + one.length == two.addr) ≡ false
    → with_entry start one (with_entry n two runs) ≡ run_at start one ∷ with_entry n two runs
apart-from start n one two [] apart = ap (λ b. cond b (joined start one (run_at n two) ∷ []) (run_at start one ∷ run_at n two ∷ [])) apart
apart-from start n one two (run ∷ more) apart = by_test (two.addr + two.length == run.addr)
  where
    by_test : (b : Bool) → with_entry start one (cond b (joined n two run ∷ more) (run_at n two ∷ run ∷ more)) ≡ run_at start one ∷ cond b (joined n two run ∷ more) (run_at n two ∷ run ∷ more)
    by_test true = ap (λ b. cond b (joined start one (joined n two run) ∷ more) (run_at start one ∷ joined n two run ∷ more)) apart
    by_test false = ap (λ b. cond b (joined start one (run_at n two) ∷ run ∷ more) (run_at start one ∷ run_at n two ∷ run ∷ more)) apart

total-with : (start : ℕ) (entry : MemEntry) (runs : List Run) → total (entries_of (with_entry start entry runs)) ≡ entry.length + total (entries_of runs)
total-with start entry [] = sum_by-cons (λ (e : MemEntry). e.length) entry []
total-with start entry (run ∷ more) = by_test (entry.addr + entry.length == run.addr)
  where
    by_test : (b : Bool) → total (entries_of (cond b (joined start entry run ∷ more) (run_at start entry ∷ run ∷ more))) ≡ entry.length + total (entries_of (run ∷ more))
    by_test true =
        omega (arith, sum_by-cons (λ (e : MemEntry). e.length) (entry_of (joined start entry run)) (entries_of more), sum_by-cons (λ (e : MemEntry). e.length) (entry_of run) (entries_of more))
    by_test false = sum_by-cons (λ (e : MemEntry). e.length) entry (entries_of (run ∷ more))

bytes-with : (memory : Memory) (start : ℕ) (entry : MemEntry) (runs : List Run) → 1048576 ≤ entry.addr
    → backing_bytes memory (entries_of (with_entry start entry runs)) ≡ bytes_at memory.bytes entry.addr entry.length ++ backing_bytes memory (entries_of runs)
unfolding backing_bytes
bytes-with memory start entry [] low = refl
bytes-with memory start entry (run ∷ more) low = by_test (entry.addr + entry.length == run.addr) refl
  where
    rest : List ℕ
    rest = backing_bytes memory (entries_of more)

    first : List ℕ
    first = drop (entry.addr - 1048576) memory.bytes

    by_test : (b : Bool) → (entry.addr + entry.length == run.addr) ≡ b
        → backing_bytes memory (entries_of (cond b (joined start entry run ∷ more) (run_at start entry ∷ run ∷ more)))
        ≡ bytes_at memory.bytes entry.addr entry.length ++ (bytes_at memory.bytes run.addr run.length ++ rest)
    by_test true is =
        let meets : entry.addr + entry.length ≡ run.addr = eqb-true (entry.addr + entry.length) run.addr is in
        let behind : drop entry.length first ≡ drop (run.addr - 1048576) memory.bytes =
        drop-drop entry.length (entry.addr - 1048576) memory.bytes ∙ ap (λ m. drop m memory.bytes) (omega (arith, meets, low))
        in
        ap (λ xs. xs ++ rest) (take-add entry.length run.length first)
        ∙ ap (λ xs. (take entry.length first ++ take run.length xs) ++ rest) behind
        ∙ append_assoc (take entry.length first) (take run.length (drop (run.addr - 1048576) memory.bytes)) rest
    by_test false is = refl

held-with : (memory : Memory) (start : ℕ) (entry : MemEntry) (runs : List Run) → 0 < entry.length → HoldsRange memory entry.addr entry.length
    → AreHeld memory (entries_of runs) → AreHeld memory (entries_of (with_entry start entry runs))
held-with memory start entry [] some here held = λ k d within. by_place k d within
  where
    by_place : (k : ℕ) (d : MemEntry) → k < 1 → (0 < (get_or (entry ∷ []) k d).length) × HoldsRange memory (get_or (entry ∷ []) k d).addr (get_or (entry ∷ []) k d).length
    by_place zero d within = (some, here)
    by_place (suc k) d within = absurd (omega (arith, within))
held-with memory start entry (run ∷ more) some here held = by_test (entry.addr + entry.length == run.addr) refl
  where
    by_test : (b : Bool) → (entry.addr + entry.length == run.addr) ≡ b → AreHeld memory (entries_of (cond b (joined start entry run ∷ more) (run_at start entry ∷ run ∷ more)))
    by_test true is = λ k d within. by_place k d within
      where
        by_place : (k : ℕ) (d : MemEntry) → k < length (entry_of (joined start entry run) ∷ entries_of more)
            → (0 < (get_or (entry_of (joined start entry run) ∷ entries_of more) k d).length) × HoldsRange memory (get_or (entry_of (joined start entry run) ∷ entries_of more) k d).addr (get_or (entry_of (joined start entry run) ∷ entries_of more) k d).length
        by_place zero d within =
            let second = held zero d (omega arith) in
            let meets : entry.addr + entry.length ≡ run.addr = eqb-true (entry.addr + entry.length) run.addr is in
            (omega (arith, some), (here.0, omega (arith, second.1.1, meets)))
        by_place (suc k) d within = held (suc k) d within
    by_test false is = λ k d within. by_place k d within
      where
        by_place : (k : ℕ) (d : MemEntry) → k < length (entry ∷ entry_of run ∷ entries_of more)
            → (0 < (get_or (entry ∷ entry_of run ∷ entries_of more) k d).length) × HoldsRange memory (get_or (entry ∷ entry_of run ∷ entries_of more) k d).addr (get_or (entry ∷ entry_of run ∷ entries_of more) k d).length
        by_place zero d within = (some, here)
        by_place (suc k) d within = held k d (omega (arith, within))

touched-joined : (page : ℕ) (entry : MemEntry) (run : Run) (start : ℕ) → entry.addr + entry.length ≡ run.addr
    → is_touched page (entry_of (joined start entry run)) ≡ (is_touched page entry || is_touched page (entry_of run))
touched-joined page entry run start meets = grind (arith, nat_tests, meets)

or-assoc : (a b c : Bool) → ((a || b) || c) ≡ (a || (b || c))
or-assoc true b c = refl
or-assoc false b c = refl

touches-with : (page start : ℕ) (entry : MemEntry) (runs : List Run) → touches page (entries_of (with_entry start entry runs)) ≡ (is_touched page entry || touches page (entries_of runs))
touches-with page start entry [] = refl
touches-with page start entry (run ∷ more) = by_test (entry.addr + entry.length == run.addr) refl
  where
    by_test : (b : Bool) → (entry.addr + entry.length == run.addr) ≡ b
        → touches page (entries_of (cond b (joined start entry run ∷ more) (run_at start entry ∷ run ∷ more))) ≡ (is_touched page entry || (is_touched page (entry_of run) || touches page (entries_of more)))
    by_test true is =
        ap (λ b. b || touches page (entries_of more)) (touched-joined page entry run start (eqb-true (entry.addr + entry.length) run.addr is))
        ∙ or-assoc (is_touched page entry) (is_touched page (entry_of run)) (touches page (entries_of more))
    by_test false is = refl

-- each run starts where those before it end, the first at this number
abbrev PlacedFrom : ℕ → List Run → Type 0
PlacedFrom start runs = (k : ℕ) (d : Run) → k < length runs → ((get_or runs k d).start ≡ start + total (take k (entries_of runs))) × EndsInRange (entry_of (get_or runs k d))

placed-with : (start : ℕ) (entry : MemEntry) (runs : List Run) → EndsInRange entry → PlacedFrom (start + entry.length) runs → PlacedFrom start (with_entry start entry runs)
placed-with start entry [] ends placed = λ k d within. by_place k d within
  where
    by_place : (k : ℕ) (d : Run) → k < 1 → ((get_or (run_at start entry ∷ []) k d).start ≡ start + total (take k (entry ∷ []))) × EndsInRange (entry_of (get_or (run_at start entry ∷ []) k d))
    by_place zero d within = (omega arith, ends)
    by_place (suc k) d within = absurd (omega (arith, within))
placed-with start entry (run ∷ more) ends placed = by_test (entry.addr + entry.length == run.addr) refl
  where
    by_test : (b : Bool) → (entry.addr + entry.length == run.addr) ≡ b → PlacedFrom start (cond b (joined start entry run ∷ more) (run_at start entry ∷ run ∷ more))
    by_test true is = λ k d within. by_place k d within
      where
        by_place : (k : ℕ) (d : Run) → k < length (joined start entry run ∷ more)
            → ((get_or (joined start entry run ∷ more) k d).start ≡ start + total (take k (entry_of (joined start entry run) ∷ entries_of more))) × EndsInRange (entry_of (get_or (joined start entry run ∷ more) k d))
        by_place zero d within =
            let meets : entry.addr + entry.length ≡ run.addr = eqb-true (entry.addr + entry.length) run.addr is in
            let first : run.addr + run.length < 2 ^ 64 = (placed zero d (omega arith)).1 in
            (omega arith, omega (arith, first, meets))
        by_place (suc k) d within =
            let was = placed (suc k) d within in
            (was.0 ∙ omega (arith, sum_by-cons (λ (e : MemEntry). e.length) (entry_of run) (take k (entries_of more)), sum_by-cons (λ (e : MemEntry). e.length) (entry_of (joined start entry run)) (take k (entries_of more))), was.1)
    by_test false is = λ k d within. by_place k d within
      where
        by_place : (k : ℕ) (d : Run) → k < length (run_at start entry ∷ run ∷ more)
            → ((get_or (run_at start entry ∷ run ∷ more) k d).start ≡ start + total (take k (entry ∷ entries_of (run ∷ more)))) × EndsInRange (entry_of (get_or (run_at start entry ∷ run ∷ more) k d))
        by_place zero d within = (omega arith, ends)
        by_place (suc k) d within =
            let was = placed k d (omega (arith, within)) in
            (was.0 ∙ omega (arith, sum_by-cons (λ (e : MemEntry). e.length) entry (take k (entries_of (run ∷ more)))), was.1)

total-from : (start : ℕ) (entries : List MemEntry) → total (entries_of (runs_from start entries)) ≡ total entries
unfolding runs_from
total-from start [] = refl
total-from start (entry ∷ more) =
    total-with start entry (runs_from (start + entry.length) more) ∙ ap (λ m. entry.length + m) (total-from (start + entry.length) more) ∙ sym (sum_by-cons (λ (e : MemEntry). e.length) entry more)

bytes-from : (memory other : Memory) (start : ℕ) (entries : List MemEntry) → AreHeld memory entries → backing_bytes other (entries_of (runs_from start entries)) ≡ backing_bytes other entries
unfolding runs_from backing_bytes
bytes-from memory other start [] held = refl
bytes-from memory other start (entry ∷ more) held =
    bytes-with other start entry (runs_from (start + entry.length) more) (held zero entry (omega arith)).1.0
    ∙ ap (λ xs. bytes_at other.bytes entry.addr entry.length ++ xs) (bytes-from memory other (start + entry.length) more (λ k d within. held (suc k) d (omega (arith, within))))

held-from : (memory : Memory) (start : ℕ) (entries : List MemEntry) → AreHeld memory entries → AreHeld memory (entries_of (runs_from start entries))
unfolding runs_from
held-from memory start [] held = λ k d within. absurd (omega (arith, within))
held-from memory start (entry ∷ more) held =
    let here = held zero entry (omega arith) in
    held-with memory start entry (runs_from (start + entry.length) more) here.0 here.1 (held-from memory (start + entry.length) more (λ k d within. held (suc k) d (omega (arith, within))))

touches-from : (page start : ℕ) (entries : List MemEntry) → touches page (entries_of (runs_from start entries)) ≡ touches page entries
unfolding runs_from
touches-from page start [] = refl
touches-from page start (entry ∷ more) =
    touches-with page start entry (runs_from (start + entry.length) more) ∙ ap (λ b. is_touched page entry || b) (touches-from page (start + entry.length) more)

placed-from : (start : ℕ) (entries : List MemEntry) → All EndsInRange entries → PlacedFrom start (runs_from start entries)
unfolding runs_from
placed-from start [] ends = λ k d within. absurd (omega (arith, within))
placed-from start (entry ∷ more) ends =
    placed-with start entry (runs_from (start + entry.length) more) (ends zero entry (omega arith)) (placed-from (start + entry.length) more (λ k d within. ends (suc k) d (omega (arith, within))))

pub is-table : (entries : List MemEntry) → All EndsInRange entries → IsTable entries (runs_of entries)
is-table entries ends = record {
  placed = λ k d within. let is = placed-from 0 entries ends k d within in (is.0 ∙ omega arith, is.1);
  total = total-from 0 entries;
  touches = λ page. touches-from page 0 entries;
  held = λ memory held. held-from memory 0 entries held;
  bytes = λ memory other held. bytes-from memory other 0 entries held;
}

-- the runs of the entries from the one at i on
rest-of : (start : ℕ) (entries : List MemEntry) (i : ℕ) (d : MemEntry) → i < length entries
    → runs_from start (drop i entries) ≡ with_entry start (get_or entries i d) (runs_from (start + (get_or entries i d).length) (drop (suc i) entries))
unfolding runs_from
rest-of start [] i d within = absurd (omega (arith, within))
rest-of start (entry ∷ more) zero d within = refl
rest-of start (entry ∷ more) (suc i) d within = rest-of start more i d (omega (arith, within))

pub none-left : (start : ℕ) → runs_from start [] ≡ []
unfolding runs_from
none-left start = refl

-- of these runs, the last of which may go on, the first are made of the entries below i
abbrev pub IsMade : List MemEntry → ℕ → List Run → Run → Type 0
IsMade entries i done run = done ++ with_entry run.start (entry_of run) (runs_from (run.start + run.length) (drop i entries)) ≡ runs_of entries

pub made-first : (entries : List MemEntry) (d : MemEntry) → 0 < length entries → IsMade entries 1 [] (run_at 0 (get_or entries 0 d))
unfolding runs_from
made-first [] d some = absurd (omega (arith, some))
made-first (entry ∷ more) d some = refl

behind : (start : ℕ) (entries : List MemEntry) (i : ℕ) (d : MemEntry) → i < length entries
    → runs_from start (drop i entries) ≡ with_entry start (get_or entries i d) (runs_from (start + (get_or entries i d).length) (drop (i + 1) entries))
behind start entries i d within =
    let up : suc i ≡ i + 1 = omega arith in
    rest-of start entries i d within ∙ ap (λ k. with_entry start (get_or entries i d) (runs_from (start + (get_or entries i d).length) (drop k entries))) up

pub made-joined : (entries : List MemEntry) (i : ℕ) (d : MemEntry) (done : List Run) (run next : Run) → i < length entries → next ≡ run_at (run.start + run.length) (get_or entries i d)
    → run.addr + run.length ≡ next.addr → IsMade entries i done run → IsMade entries (i + 1) done (record { start = run.start; addr = run.addr; length = run.length + next.length })
made-joined entries i d done run next within is meets made =
    let entry = get_or entries i d in
    let n = run.start + run.length in
    let wide : Run = record { start = run.start; addr = run.addr; length = run.length + entry.length } in
    let rest = runs_from (n + entry.length) (drop (i + 1) entries) in
    let end : n + entry.length ≡ run.start + (run.length + entry.length) = omega arith in
    let at : run.addr + run.length ≡ entry.addr = meets ∙ ap (λ (r : Run). r.addr) is in
    let so : IsMade entries (i + 1) done wide =
    ap (λ m. done ++ with_entry run.start (entry_of wide) (runs_from m (drop (i + 1) entries))) (sym end)
    ∙ ap (λ rs. done ++ rs) (sym (joined-on run.start n (entry_of run) entry rest at))
    ∙ ap (λ rs. done ++ with_entry run.start (entry_of run) rs) (sym (behind n entries i d within))
    ∙ made
    in
    subst (λ (l : ℕ). IsMade entries (i + 1) done (record { start = run.start; addr = run.addr; length = run.length + l })) (sym (ap (λ (r : Run). r.length) is)) so

pub made-apart : (entries : List MemEntry) (i : ℕ) (d : MemEntry) (done : List Run) (run next : Run) → i < length entries → next ≡ run_at (run.start + run.length) (get_or entries i d)
    → (run.addr + run.length == next.addr) ≡ false → IsMade entries i done run → IsMade entries (i + 1) (done ++ run ∷ []) next
made-apart entries i d done run next within is apart made =
    let entry = get_or entries i d in
    let n = run.start + run.length in
    let rest = runs_from (n + entry.length) (drop (i + 1) entries) in
    let at : (run.addr + run.length == entry.addr) ≡ false = ap (λ (r : Run). run.addr + run.length == r.addr) (sym is) ∙ apart in
    let so : IsMade entries (i + 1) (done ++ run ∷ []) (run_at n entry) =
    append_assoc done (run ∷ []) (with_entry n entry rest)
    ∙ ap (λ rs. done ++ rs) (sym (apart-from run.start n (entry_of run) entry rest at))
    ∙ ap (λ rs. done ++ with_entry run.start (entry_of run) rs) (sym (behind n entries i d within))
    ∙ made
    in
    subst (λ r. IsMade entries (i + 1) (done ++ run ∷ []) r) (sym is) so
