use Rattle.std.proofs.Common.{◌≡◌, ℕ, ◌+◌, ◌*◌, ◌<◌, List, [], ◌∷◌, ◌++◌, length, map, take, drop, get_or, refl, sym, ap, subst, ◌∙◌, arith, append_assoc, length-append}
use Rattle.std.specs.List.{All, flat_map, range_with_len}
use Rattle.std.proofs.lemmas.List.{take_more, take-append-drop, append-nil}
use Rattle.std.proofs.lemmas.List.Elements.{All-head, All-tail, All-more}
use Rattle.std.proofs.lemmas.List.Concat.{flat_map-append}
use Rattle.vg_list.specs.Front.{HasFront}
use Rattle.vg_list.proofs.FrontLemmas.{front_first, front_then}
use Rattle.vg_formats.specs.declared.entry.MemEntry.{MemEntry}
use Rattle.vg_numbers.specs.Numbers.{number_at, le}
use Rattle.vg_wire.specs.Entries.{IsEntry, entry_at, entries_at, entry_bytes, entries_bytes}
use Rattle.vg_numbers.proofs.NumberLemmas.{length-le, number_at-le}

-- a front of one text of a list more
pub front-more : {X : Type 0} (text : X → List ℕ) (xs : List X) (i : ℕ) (x d : X) (old mid new : List ℕ) → i < length xs → x ≡ get_or xs i d
    → mid ≡ old ++ flat_map text (take i xs) → HasFront mid new (text x) → HasFront old new (flat_map text xs)
front-more text xs i x d old mid new inside is so_far has =
    let one : flat_map text (x ∷ []) ≡ text x = append-nil (text x) in
    let more : flat_map text (take i xs) ++ text x ≡ flat_map text (take (i + 1) xs) =
    ap (λ l. flat_map text (take i xs) ++ l) (sym one) ∙ sym (flat_map-append text (take i xs) (x ∷ []))
    ∙ ap (λ y. flat_map text (take i xs ++ y ∷ [])) is ∙ ap (flat_map text) (sym (take_more xs i d inside)) in
    let whole : flat_map text (take (i + 1) xs) ++ flat_map text (drop (i + 1) xs) ≡ flat_map text xs =
    sym (flat_map-append text (take (i + 1) xs) (drop (i + 1) xs)) ∙ ap (flat_map text) (take-append-drop (i + 1) xs) in
    let front : HasFront old new (flat_map text (take (i + 1) xs)) =
    subst (HasFront old new) more (front_then old mid new (flat_map text (take i xs)) (text x) so_far has) in
    subst (HasFront old new) whole (front_first old new (flat_map text (take (i + 1) xs)) (flat_map text (drop (i + 1) xs)) front)

-- the bytes of one entry more
pub bytes-more : (now before start : List ℕ) (entries : List MemEntry) (i : ℕ) (d : MemEntry) → i < length entries
    → before ≡ start ++ entries_bytes (take i entries) → now ≡ before ++ entry_bytes (get_or entries i d) → now ≡ start ++ entries_bytes (take (i + 1) entries)
bytes-more now before start entries i d inside so_far added =
    let one : entries_bytes (get_or entries i d ∷ []) ≡ entry_bytes (get_or entries i d) = append-nil (entry_bytes (get_or entries i d)) in
    let more : entries_bytes (take (i + 1) entries) ≡ entries_bytes (take i entries) ++ entry_bytes (get_or entries i d) =
    ap entries_bytes (take_more entries i d inside) ∙ flat_map-append entry_bytes (take i entries) (get_or entries i d ∷ []) ∙ ap (λ (bytes : List ℕ). entries_bytes (take i entries) ++ bytes) one in
    added ∙ rw (so_far, more) (append_assoc start (entries_bytes (take i entries)) (entry_bytes (get_or entries i d)))

pub fit-more : (entries : List MemEntry) (i : ℕ) (d : MemEntry) → i < length entries → All IsEntry (take i entries) → IsEntry (get_or entries i d) → All IsEntry (take (i + 1) entries)
fit-more entries i d inside so_far here = All-more IsEntry entries i d inside so_far here

pub length-entry_bytes : (entry : MemEntry) → length (entry_bytes entry) ≡ 16
unfolding entry_bytes
length-entry_bytes entry = simp length-append (omega (arith, length-le 8 entry.addr, length-le 4 entry.length, length-le 4 0))

pub length-entries_bytes : (entries : List MemEntry) → length (entries_bytes entries) ≡ 16 * length entries
length-entries_bytes [] = refl
length-entries_bytes (entry ∷ more) = simp length-append (omega (arith, length-entry_bytes entry, length-entries_bytes more))

-- what is written of an entry is read as itself
entry_at-entry_bytes : (entry : MemEntry) (front rest : List ℕ) (at : ℕ) → length front ≡ at → IsEntry entry → entry_at at (front ++ (entry_bytes entry ++ rest)) ≡ entry
unfolding entry_bytes
entry_at-entry_bytes entry front rest at here fits =
    let long : length (front ++ le 8 entry.addr) ≡ at + 8 = simp length-append (omega (arith, length-le 8 entry.addr)) in
    let addr : number_at 8 at (front ++ ((le 8 entry.addr ++ le 4 entry.length ++ le 4 0) ++ rest)) ≡ entry.addr =
    simp append_assoc (number_at-le 8 front (le 4 entry.length ++ (le 4 0 ++ rest)) at entry.addr here fits.addr) in
    let size : number_at 4 (at + 8) (front ++ ((le 8 entry.addr ++ le 4 entry.length ++ le 4 0) ++ rest)) ≡ entry.length =
    simp append_assoc (simp append_assoc at (number_at-le 4 (front ++ le 8 entry.addr) (le 4 0 ++ rest) (at + 8) entry.length long fits.length)) in
    rw (addr, size) refl

-- the entries that were written one after another
pub entries-run : (entries : List MemEntry) (front : List ℕ) (at a : ℕ) → length front ≡ at + 16 * a → All IsEntry entries
    → map (λ i. entry_at (at + 16 * i) (front ++ entries_bytes entries)) (range_with_len a (length entries)) ≡ entries
entries-run [] front at a here fits = refl
entries-run (entry ∷ more) front at a here fits =
    let next : length (front ++ entry_bytes entry) ≡ at + 16 * (a + 1) = simp length-append (omega (arith, length-entry_bytes entry)) in
    let rest = entries-run more (front ++ entry_bytes entry) at (a + 1) next (All-tail IsEntry entry more fits) in
    let first = entry_at-entry_bytes entry front (entries_bytes more) (at + 16 * a) here (All-head IsEntry entry more fits) in
    let moved = simp append_assoc at rest in
    cc (first, moved)

-- what is written of entries is read as themselves
pub entries_at-entries_bytes : (entries : List MemEntry) (front : List ℕ) (at : ℕ) → length front ≡ at → All IsEntry entries → entries_at at (length entries) (front ++ entries_bytes entries) ≡ entries
entries_at-entries_bytes entries front at here fits = entries-run entries front at 0 (omega arith) fits
