use Rattle.std.proofs.Common.{◌≡◌, ℕ, zero, suc, ◌+◌, ◌-◌, ◌*◌, ◌/◌, ◌%◌, ◌^◌, ◌<◌, ◌≤◌, Bool, true, false, not, ◌||◌, cond, eqb, ltb, Some, None, List, [], ◌∷◌, ◌++◌, length, map, drop, refl, ap, subst, ◌∙◌, arith, slice_get, append_assoc, length-append}
use Rattle.std.specs.List.{range_with_len}
use Rattle.std.proofs.lemmas.Bool.{ne_eqb}
use Rattle.std.proofs.lemmas.Bool.Decides.{nat_tests}
use Rattle.vg_chain.specs.declared.descriptor.Descriptor.{Descriptor}
use Rattle.vg_chain.specs.declared.form.Form.{Form}
use Rattle.vg_chain.specs.declared.form.Form.TheVariants.{Split, Packed}
use Rattle.vg_numbers.specs.Numbers.{number_at, le}
use Rattle.vg_chain.specs.Descriptor.{flags_of, is_writable, is_indirect, has_next, descriptor_at, descriptors_in, packed_at, packed_in, table_in}
use Rattle.vg_chain.specs.Memory.{Memory, lies_in, table_of}
use Rattle.vg_chain.specs.Fault.{fault_of, is_listed}
use Rattle.vg_chain.specs.declared.part.Part.{Part}
use Rattle.vg_chain.specs.Made.{last_of, joined, linked, in_table, split_bytes, packed_bytes, bytes_of, table_bytes, referring, Stands, AreOther, AreApart}
use Rattle.vg_numbers.proofs.NumberLemmas.{length-le, number_at-le}
use Rattle.vg_chain.proofs.PartLemmas.{AreFine, bit_write}
use Rattle.vg_chain.proofs.PieceLemmas.{lies}

-- a descriptor whose numbers fit its bytes
pub record IsDescriptor (d : Descriptor) : Type 0 where
  pub addr : d.addr < 2 ^ 64
  pub len : d.len < 2 ^ 32
  pub flags : d.flags < 2 ^ 16
  pub next : d.next < 2 ^ 16

abbrev pub AreDescriptors : List Descriptor → Type 0
AreDescriptors [] = Unit {0}
AreDescriptors (d ∷ more) = IsDescriptor d × AreDescriptors more

length-split_bytes : (d : Descriptor) → length (split_bytes d) ≡ 16
unfolding split_bytes
length-split_bytes d = simp length-append (omega (arith, length-le 8 d.addr, length-le 4 d.len, length-le 2 d.flags, length-le 2 d.next))

length-packed_bytes : (d : Descriptor) → length (packed_bytes d) ≡ 16
unfolding packed_bytes
length-packed_bytes d = simp length-append (omega (arith, length-le 8 d.addr, length-le 4 d.len, length-le 2 0, length-le 2 (cond (is_writable d) 2 0)))

length-bytes_of : (form : Form) (d : Descriptor) → length (bytes_of form d) ≡ 16
length-bytes_of Split d = length-split_bytes d
length-bytes_of Packed d = length-packed_bytes d

pub length-table_bytes : (form : Form) (table : List Descriptor) → length (table_bytes form table) ≡ 16 * length table
length-table_bytes form [] = refl
length-table_bytes form (d ∷ more) = simp length-append (omega (arith, length-bytes_of form d, length-table_bytes form more))

-- what is written of a descriptor is read as itself
descriptor_at-split_bytes : (d : Descriptor) (front rest : List ℕ) (at : ℕ) → length front ≡ at → IsDescriptor d → descriptor_at at (front ++ (split_bytes d ++ rest)) ≡ d
unfolding split_bytes
descriptor_at-split_bytes d front rest at here fits =
    let a = le 8 d.addr in
    let l = le 4 d.len in
    let f = le 2 d.flags in
    let n = le 2 d.next in
    let bytes : List ℕ = front ++ ((((a ++ l) ++ f) ++ n) ++ rest) in
    let one : length (front ++ a) ≡ at + 8 = simp length-append (omega (arith, length-le 8 d.addr)) in
    let two : length ((front ++ a) ++ l) ≡ at + 12 = simp length-append (omega (arith, length-le 8 d.addr, length-le 4 d.len)) in
    let three : length (((front ++ a) ++ l) ++ f) ≡ at + 14 = simp length-append (omega (arith, length-le 8 d.addr, length-le 4 d.len, length-le 2 d.flags)) in
    let addr : number_at 8 at bytes ≡ d.addr = simp append_assoc (number_at-le 8 front (l ++ (f ++ (n ++ rest))) at d.addr here (omega (arith, fits.addr))) in
    let len : number_at 4 (at + 8) bytes ≡ d.len = simp append_assoc (simp append_assoc at (number_at-le 4 (front ++ a) (f ++ (n ++ rest)) (at + 8) d.len one (omega (arith, fits.len)))) in
    let flags : number_at 2 (at + 12) bytes ≡ d.flags = simp append_assoc (simp append_assoc at (number_at-le 2 ((front ++ a) ++ l) (n ++ rest) (at + 12) d.flags two (omega (arith, fits.flags)))) in
    let next : number_at 2 (at + 14) bytes ≡ d.next = simp append_assoc (simp append_assoc at (number_at-le 2 (((front ++ a) ++ l) ++ f) rest (at + 14) d.next three (omega (arith, fits.next)))) in
    rw (addr, len, flags, next) refl

-- the descriptors that were written one after another
descriptors-run : (table : List Descriptor) (front : List ℕ) (a : ℕ) → length front ≡ 16 * a → AreDescriptors table
    → map (λ i. descriptor_at (16 * i) (front ++ table_bytes Split table)) (range_with_len a (length table)) ≡ table
descriptors-run [] front a here fits = refl
descriptors-run (d ∷ more) front a here fits =
    let next : length (front ++ split_bytes d) ≡ 16 * (a + 1) = simp length-append (omega (arith, length-split_bytes d)) in
    let rest = descriptors-run more (front ++ split_bytes d) (a + 1) next fits.1 in
    let first = descriptor_at-split_bytes d front (table_bytes Split more) (16 * a) here fits.0 in
    let moved = simp append_assoc at rest in
    cc (first, moved)

pub descriptors_in-table_bytes : (table : List Descriptor) → AreDescriptors table → descriptors_in (length table) (table_bytes Split table) ≡ table
descriptors_in-table_bytes table fits = descriptors-run table [] 0 refl fits

-- the table to which a descriptor refers is the one that was written
pub table_is : (m : Memory) (table : List Descriptor) (flags next : ℕ) → m.tables ≡ table_bytes m.form table → table_in m.form (length table) (table_bytes m.form table) ≡ table
    → table_of m (referring m.base (16 * length table) flags next) ≡ table
table_is m table flags next e back =
    let count : 16 * length table / 16 ≡ length table = omega arith in
    let front : m.base + 57344 - (m.base + 57344) ≡ 0 = omega arith in
    rw (count, front, e) back

good_length : (size n : ℕ) → 1 ≤ n → n ≤ size → (eqb (16 * n) 0 || not (eqb (16 * n % 16) 0)) || ltb (16 * size) (16 * n) ≡ false
good_length size n some few =
    let a : (16 * n ≡ 0) → ⊥ = λ e. omega arith in
    let b : 16 * n % 16 ≡ 0 = omega arith in
    let c : ltb (16 * size) (16 * n) ≡ false = grind (arith, nat_tests) in
    rw (ne_eqb (16 * n) 0 a, b, c) refl

-- a descriptor with INDIRECT alone stands in no list, in the split form or first in its chain
pub unlisted_split : (behind : Bool) (d : Descriptor) → has_next d ≡ false → is_listed Split behind d ≡ false
unlisted_split behind d last = last

pub unlisted_first : (form : Form) (d : Descriptor) → has_next d ≡ false → is_listed form false d ≡ false
unlisted_first Split d last = last
unlisted_first Packed d last = rw last refl

-- a descriptor that refers to a table has no fault
pub refers_sound : (m : Memory) (size n : ℕ) (met read wrote : Bool) (next : ℕ) → met ≡ false → is_listed m.form (read || wrote) (referring m.base (16 * n) 4 next) ≡ false
    → 1 ≤ n → n ≤ size → length m.tables ≡ 16 * n
    → fault_of m size false met read wrote (Some (referring m.base (16 * n) 4 next)) ≡ None
refers_sound m size n met read wrote next unmet unlisted some few tables =
    let there : lies_in (m.base + 57344) (length m.tables) (m.base + 57344) (16 * n) ≡ true = lies (m.base + 57344) (length m.tables) (m.base + 57344) (16 * n) (omega arith) (omega arith) in
    rw (unmet, unlisted, good_length size n some few, there) refl

-- the places of a table
abbrev AreSmall : List ℕ → Type 0
AreSmall [] = Unit {0}
AreSmall (place ∷ places) = (place < 2 ^ 16) × AreSmall places

small_range : (a n : ℕ) → a + n ≤ 2 ^ 16 → AreSmall (range_with_len a n)
small_range a zero few = tt
small_range a (suc n) few = (omega arith, small_range (a + 1) n (omega arith))

other_range : (place a n : ℕ) → place < a → AreOther place (range_with_len a n)
other_range place a zero low = tt
other_range place a (suc n) low = ((λ e. omega arith), other_range place (a + 1) n (omega arith))

pub apart_range : (a n : ℕ) → AreApart (range_with_len a n)
apart_range a zero = tt
apart_range a (suc n) = (other_range a (a + 1) n (omega arith), apart_range (a + 1) n)

at_end : (front : List Descriptor) (d : Descriptor) (more : List Descriptor) → slice_get (front ++ d ∷ more) (length front) ≡ Some d
at_end [] d more = refl
at_end (x ∷ front) d more = at_end front d more

stands_self : (table front : List Descriptor) (n : ℕ) → length table ≤ n → Stands (front ++ table) (range_with_len (length front) n) table
stands_self [] front n few = tt
stands_self (d ∷ more) front zero few = absurd (omega arith)
stands_self (d ∷ more) front (suc n) few =
    let rest = stands_self more (front ++ d ∷ []) n (omega arith) in
    let next : length (front ++ d ∷ []) ≡ length front + 1 = simp length-append refl in
    let moved : Stands (front ++ d ∷ more) (range_with_len (length front + 1) n) more =
    subst (λ (k : ℕ). Stands (front ++ d ∷ more) (range_with_len k n) more) next (subst (λ (xs : List Descriptor). Stands xs (range_with_len (length (front ++ d ∷ [])) n) more) (append_assoc front (d ∷ []) more) rest) in
    (at_end front d more, moved)

pub stands_in : (parts : List Part) → length (in_table parts) ≡ length parts → Stands (in_table parts) (0 ∷ range_with_len 1 (length parts)) (in_table parts)
stands_in parts e = stands_self (in_table parts) [] (suc (length parts)) (omega (arith, e))

pub length-linked : (parts : List Part) (nexts : List ℕ) → length (linked parts nexts) ≡ length parts
length-linked [] nexts = refl
length-linked (p ∷ parts) nexts = omega (arith, length-linked parts (drop 1 nexts))

-- parts whose numbers fit
abbrev pub ArePlaced : List Part → Type 0
ArePlaced [] = Unit {0}
ArePlaced (p ∷ parts) = (p.addr < 2 ^ 64) × (p.len < 2 ^ 32) × ArePlaced parts

small_flags : (w more : Bool) → flags_of w more < 2 ^ 16
small_flags true true = omega arith
small_flags true false = omega arith
small_flags false true = omega arith
small_flags false false = omega arith

fits_linked : (parts : List Part) (nexts : List ℕ) → ArePlaced parts → AreSmall nexts → AreDescriptors (linked parts nexts)
fits_linked [] nexts placed small = tt
fits_linked (p ∷ []) nexts placed small = (record { addr = placed.0; len = placed.1; flags = small_flags p.writes false; next = omega arith }, tt)
fits_linked (p ∷ other ∷ parts) [] placed small = (record { addr = placed.0; len = placed.1; flags = small_flags p.writes true; next = omega arith }, fits_linked (other ∷ parts) [] placed.2 tt)
fits_linked (p ∷ other ∷ parts) (next ∷ nexts) placed small = (record { addr = placed.0; len = placed.1; flags = small_flags p.writes true; next = small.0 }, fits_linked (other ∷ parts) nexts placed.2 small.1)

lies_means : (start size addr len : ℕ) → lies_in start size addr len ≡ true → (start ≤ addr) × (addr + len ≤ start + size)
lies_means start size addr len h = grind (arith, nat_tests)

placed_part : (m : Memory) (w : Bool) (addr len : ℕ) → m.base + 65536 ≤ 2 ^ 64 → m.request ≤ 49152 → m.room ≤ 8192
    → cond w (lies_in (m.base + 49152) m.room addr len) (lies_in m.base m.request addr len) ≡ true → (addr < 2 ^ 64) × (len < 2 ^ 32)
placed_part m true addr len base request room h = let w = lies_means (m.base + 49152) m.room addr len h in (omega (arith, w.0, w.1), omega (arith, w.0, w.1))
placed_part m false addr len base request room h = let w = lies_means m.base m.request addr len h in (omega (arith, w.0, w.1), omega (arith, w.0, w.1))

pub placed : (m : Memory) (wrote : Bool) (parts : List Part) → m.base + 65536 ≤ 2 ^ 64 → m.request ≤ 49152 → m.room ≤ 8192 → AreFine m wrote parts → ArePlaced parts
placed m wrote [] base request room fine = tt
placed m wrote (p ∷ parts) base request room fine =
    let here = placed_part m p.writes p.addr p.len base request room fine.1 in
    (here.0, here.1, placed m (wrote || p.writes) parts base request room fine.2)

fits_in : (parts : List Part) → length parts ≤ 2 → ArePlaced parts → AreDescriptors (in_table parts)
fits_in parts few places = fits_linked parts (range_with_len 1 (length parts)) places (small_range 1 (length parts) (omega arith))

-- what is written of a descriptor of a packed table is read with the flags and the next one of its place
packed_at-packed_bytes : (d : Descriptor) (front rest : List ℕ) (n i : ℕ) → length front ≡ 16 * i → d.addr < 2 ^ 64 → d.len < 2 ^ 32
    → packed_at n i (front ++ (packed_bytes d ++ rest)) ≡ record { addr = d.addr; len = d.len; flags = flags_of (is_writable d) (ltb (i + 1) n); next = cond (ltb (i + 1) n) (i + 1) 0 }
unfolding packed_bytes
packed_at-packed_bytes d front rest n i here addr_fits len_fits =
    let a = le 8 d.addr in
    let l = le 4 d.len in
    let k : List ℕ = le 2 0 in
    let word : ℕ = cond (is_writable d) 2 0 in
    let f : List ℕ = le 2 word in
    let bytes : List ℕ = front ++ ((((a ++ l) ++ k) ++ f) ++ rest) in
    let one : length (front ++ a) ≡ 16 * i + 8 = simp length-append (omega (arith, length-le 8 d.addr)) in
    let three : length (((front ++ a) ++ l) ++ k) ≡ 16 * i + 14 = simp length-append (omega (arith, length-le 8 d.addr, length-le 4 d.len, length-le 2 0)) in
    let small : word < 2 ^ 16 = small_write (is_writable d) in
    let addr : number_at 8 (16 * i) bytes ≡ d.addr = simp append_assoc (number_at-le 8 front (l ++ (k ++ (f ++ rest))) (16 * i) d.addr here (omega (arith, addr_fits))) in
    let len : number_at 4 (16 * i + 8) bytes ≡ d.len = simp append_assoc (simp append_assoc at (number_at-le 4 (front ++ a) (k ++ (f ++ rest)) (16 * i + 8) d.len one (omega (arith, len_fits)))) in
    let flags : number_at 2 (16 * i + 14) bytes ≡ word = simp append_assoc (simp append_assoc at (number_at-le 2 (((front ++ a) ++ l) ++ k) rest (16 * i + 14) word three (omega (arith, small)))) in
    rw (addr, len, flags, write_back (is_writable d)) refl
  where
    small_write : (w : Bool) → cond w 2 0 < 2 ^ 16
    small_write true = omega arith
    small_write false = omega arith

    write_back : (w : Bool) → eqb (cond w 2 0 / 2 % 2) 1 ≡ w
    write_back true = refl
    write_back false = refl

-- the parts that were written one after another, with n descriptors in all
packed-run : (parts : List Part) (front : List ℕ) (a n : ℕ) → length front ≡ 16 * a → n ≡ a + length parts → ArePlaced parts
    → map (λ i. packed_at n i (front ++ table_bytes Packed (linked parts (range_with_len (a + 1) (length parts))))) (range_with_len a (length parts)) ≡ linked parts (range_with_len (a + 1) (length parts))
packed-run [] front a n here whole fits = refl
packed-run (p ∷ []) front a n here whole fits =
    let last : ltb (a + 1) n ≡ false = grind (arith, nat_tests) in
    let first = packed_at-packed_bytes (last_of p) front [] n a here fits.0 fits.1 in
    let first' : packed_at n a (front ++ (packed_bytes (last_of p) ++ [])) ≡ last_of p = first ∙ rw (last, bit_write p.writes false) refl in
    ap (λ (x : Descriptor). x ∷ []) first'
packed-run (p ∷ other ∷ parts) front a n here whole fits =
    let d : Descriptor = joined p (a + 1) in
    let left : List Descriptor = linked (other ∷ parts) (range_with_len (a + 1 + 1) (length (other ∷ parts))) in
    let bytes : List ℕ = table_bytes Packed left in
    let more : ltb (a + 1) n ≡ true = grind (arith, nat_tests) in
    let next : length (front ++ packed_bytes d) ≡ 16 * (a + 1) = simp length-append (omega (arith, length-packed_bytes d)) in
    let rest = packed-run (other ∷ parts) (front ++ packed_bytes d) (a + 1) n next (omega (arith, whole)) fits.2 in
    let first = packed_at-packed_bytes d front bytes n a here fits.0 fits.1 in
    let first' : packed_at n a (front ++ (packed_bytes d ++ bytes)) ≡ d = first ∙ rw (more, bit_write p.writes true) refl in
    let moved : map (λ i. packed_at n i (front ++ (packed_bytes d ++ bytes))) (range_with_len (a + 1) (length (other ∷ parts))) ≡ left =
    subst (λ (xs : List ℕ). map (λ i. packed_at n i xs) (range_with_len (a + 1) (length (other ∷ parts))) ≡ left) (append_assoc front (packed_bytes d) bytes) rest in
    ap (λ (x : Descriptor). x ∷ map (λ i. packed_at n i (front ++ (packed_bytes d ++ bytes))) (range_with_len (a + 1) (length (other ∷ parts)))) first' ∙ ap (λ (xs : List Descriptor). d ∷ xs) moved

packed_back : (parts : List Part) → ArePlaced parts → packed_in (length (in_table parts)) (table_bytes Packed (in_table parts)) ≡ in_table parts
packed_back parts fits = rw (length-linked parts (range_with_len 1 (length parts))) (packed-run parts [] 0 (length parts) refl (omega arith) fits)

-- the table of parts is read in either form as it was written
pub table_back : (form : Form) (parts : List Part) → length parts ≤ 2 → ArePlaced parts → table_in form (length (in_table parts)) (table_bytes form (in_table parts)) ≡ in_table parts
table_back Split parts few fits = descriptors_in-table_bytes (in_table parts) (fits_in parts few fits)
table_back Packed parts few fits = packed_back parts fits
