use Rattle.std.proofs.Common.{◌≡◌, ℕ, suc, ◌+◌, ◌-◌, ◌*◌, ◌/◌, ◌^◌, ◌≤◌, Bool, true, false, cond, eqb, ltb, min, Some, None, Err, List, [], ◌∷◌, ◌++◌, length, get_or, refl, sym, ap, inl, inr, ◌∙◌, arith, slice_get}
use Rattle.std.specs.List.{range_with_len}
use Rattle.std.proofs.lemmas.Bool.{cases_lt, ne_eqb, eq-eqb}
use Rattle.std.proofs.lemmas.Bool.Decides.{nat_tests}
use Rattle.std.proofs.lemmas.Option.{slice_get_past}
use Rattle.vg_chain.specs.declared.chain.Chain.{Chain}
use Rattle.vg_chain.specs.declared.chain.ChainFault.{ChainFault}
use Rattle.vg_chain.specs.declared.chain.ChainFault.TheVariants.{Index, Loop, Nested, NextWithIndirect, TableLength, Order, Range}
use Rattle.vg_chain.specs.declared.descriptor.Descriptor.{Descriptor}
use Rattle.vg_chain.specs.declared.form.Form.{Form}
use Rattle.vg_chain.specs.declared.form.Form.TheVariants.{Split, Packed}
use Rattle.vg_chain.specs.declared.shape.Shape.{Shape}
use Rattle.vg_chain.specs.declared.shape.Shape.TheVariants.{Plain, Pieces, Indirect, Mixed, Bad}
use Rattle.vg_chain.specs.Descriptor.{is_indirect}
use Rattle.vg_chain.specs.Memory.{Memory, memory, lies_in, table_of}
use Rattle.vg_chain.specs.Walk.{Visit, start, there, goes_on, visit_after, Visits, was_met, all_read, all_written, fault_at, AreClean, IsChain, Walks}
use Rattle.vg_chain.specs.declared.part.Part.{Part}
use Rattle.vg_chain.specs.Made.{Spells, joined, linked, pieces, room_of, or_empty, parts_of, rest_of, in_table, table_bytes, referring, made, mixed, flat, in_parts, by_table, Stands, AreApart, IsRequest, IsLaid, memory_of, Covers, reads, writes, chain_of, mixed_parts, GivesAll, GivesIts}
use Rattle.vg_chain.proofs.PartLemmas.{walks_linked, AreFine, Unmet, joined_is, sound_part}
use Rattle.vg_chain.proofs.PieceLemmas.{lies, fine_pieces, fine_or_empty, covers_read, covers_written, covers_or_empty, writes_or_empty, enough, length_parts, length_or_empty, reads_room}
use Rattle.vg_chain.proofs.TableLemmas.{table_is, table_back, descriptors_in-table_bytes, unlisted_first, refers_sound, apart_range, stands_in, length-linked, placed, length-table_bytes}

unmet_none : (inside : Bool) (places : List ℕ) → Unmet inside [] places
unmet_none inside [] = tt
unmet_none inside (place ∷ places) = (refl, unmet_none inside places)

unmet_all : (before : List Visit) (places : List ℕ) → ((k : ℕ) → was_met true k before ≡ false) → Unmet true before places
unmet_all before [] h = tt
unmet_all before (place ∷ places) h = (h place, unmet_all before places h)

-- a walk of parts that all stand in the ring
flat_walk : (m : Memory) (table : List Descriptor) (head : ℕ) (others : List ℕ) (parts : List Part) → AreFine m false parts → 1 ≤ length parts
    → AreApart (head ∷ others) → Stands table (head ∷ others) (linked parts others) → IsChain m table head (chain_of parts)
flat_walk m table head others [] fine some apart stands = absurd (omega arith)
flat_walk m table head others (p ∷ parts) fine some apart stands =
    walks_linked m table head parts others (start table head) [] p (chain_of (p ∷ parts)) refl tt (unmet_none false (head ∷ others)) apart stands fine refl refl

-- a walk of parts that stand in a table
table_walk : (m : Memory) (ring : List Descriptor) (head : ℕ) (x : Visit) (before : List Visit) (d : Descriptor) (parts : List Part) (chain : Chain)
    → Visits m ring head (x ∷ before) → AreClean m (length ring) (x ∷ before) → there x ≡ Some d → is_indirect d ≡ true → table_of m d ≡ in_table parts
    → ((k : ℕ) → was_met true k (x ∷ before) ≡ false) → AreFine m false parts → 1 ≤ length parts
    → all_written (x ∷ before) ≡ [] → chain.readable ≡ all_read (x ∷ before) ++ reads parts → chain.writable ≡ writes parts
    → IsChain m ring head chain
table_walk m ring head x before d [] chain visits clean here refers table apart fine some wrote read written = absurd (omega arith)
table_walk m ring head x before d (p ∷ parts) chain visits clean here refers table apart fine some wrote read written =
    let y : Visit = record { table = in_table (p ∷ parts); inside = true; at = 0 } in
    let step : y ≡ visit_after m x d = rw (refers, table) refl in
    let fine' : AreFine m (ltb 0 (length (all_written (x ∷ before)))) (p ∷ parts) = rw wrote fine in
    let written' : chain.writable ≡ all_written (x ∷ before) ++ writes (p ∷ parts) = written ∙ sym (ap (λ (xs : List _). xs ++ writes (p ∷ parts)) wrote) in
    walks_linked m ring head parts (range_with_len 1 (length (p ∷ parts))) y (x ∷ before) p chain ((d, here, rw refers refl, step), visits) clean
    (unmet_all (x ∷ before) (0 ∷ range_with_len 1 (length (p ∷ parts))) apart)
    (apart_range 0 (suc (length (p ∷ parts))))
    (stands_in (p ∷ parts) (length-linked (p ∷ parts) (range_with_len 1 (length (p ∷ parts))))) fine' read written'

-- the parts of a request
pub fine_parts : (m : Memory) (k n r : ℕ) → n ≡ m.request → r ≡ m.room → AreFine m false (parts_of k n r m.base)
fine_parts m k n r e f = fine_or_empty m (pieces k ((n + (k - 1)) / k) m.base n ++ room_of r m.base) (fine_pieces m k ((n + (k - 1)) / k) m.base n r (λ some. (omega arith, omega arith)) f)

some_parts : (k n r b : ℕ) → 1 ≤ length (parts_of k n r b)
some_parts k n r b = one (pieces k ((n + (k - 1)) / k) b n ++ room_of r b)
  where
    one : (xs : List Part) → 1 ≤ length (or_empty b xs)
    one [] = omega arith
    one (x ∷ xs) = omega arith

few_parts : (n r b : ℕ) → length (parts_of 1 n r b) ≤ 2
few_parts n r b = (length_or_empty b (pieces 1 ((n + (1 - 1)) / 1) b n ++ room_of r b) (length_parts ((n + (1 - 1)) / 1) b n r b)).0

parts_read : (k n r b : ℕ) → 1 ≤ k → Covers b n (reads (parts_of k n r b))
parts_read k n r b some = covers_or_empty b n (pieces k ((n + (k - 1)) / k) b n ++ room_of r b) (covers_read k ((n + (k - 1)) / k) b n r b (enough k n some))

parts_written : (k n r b : ℕ) → Covers (b + 49152) r (writes (parts_of k n r b))
parts_written k n r b = rw (writes_or_empty b (pieces k ((n + (k - 1)) / k) b n ++ room_of r b)) (covers_written k ((n + (k - 1)) / k) b n r b)

pub flat_gives : (form : Form) (k n r b : ℕ) (tables : List ℕ) (table : List Descriptor) (head : ℕ) (others : List ℕ) → 1 ≤ k
    → AreApart (head ∷ others) → Stands table (head ∷ others) (linked (parts_of k n r b) others) → GivesAll (chain_of (parts_of k n r b)) (memory form b n r tables) table head n r b
flat_gives form k n r b tables table head others some apart stands =
    (flat_walk (memory form b n r tables) table head others (parts_of k n r b) (fine_parts (memory form b n r tables) k n r refl refl) (some_parts k n r b) apart stands, parts_read k n r b some, parts_written k n r b)

pub indirect_gives : (form : Form) (n r b q : ℕ) (table : List Descriptor) (head : ℕ) (others : List ℕ) → n ≤ 49152 → r ≤ 8192 → b + 65536 ≤ 2 ^ 64 → 2 ≤ q → length table ≡ q
    → Stands table (head ∷ others) (by_table b (parts_of 1 n r b) 4 0).ring → GivesAll (chain_of (parts_of 1 n r b)) (memory form b n r ((by_table b (parts_of 1 n r b) 4 0).tables form)) table head n r b
indirect_gives form n r b q table head others request room base queue size stands =
    let parts = parts_of 1 n r b in
    let m = memory form b n r (table_bytes form (in_table parts)) in
    let d = referring b (16 * length (in_table parts)) 4 0 in
    let fine : AreFine m false parts = fine_parts m 1 n r refl refl in
    let long : length (in_table parts) ≡ length parts = length-linked parts (range_with_len 1 (length parts)) in
    let few : length parts ≤ 2 = few_parts n r b in
    let some : 1 ≤ length parts = some_parts 1 n r b in
    let x = start table head in
    let sound : fault_at m (length table) [] x ≡ None = rw stands.0 (refers_sound m (length table) (length (in_table parts)) false (ltb 0 0) (ltb 0 0) 0 refl (unlisted_first form d refl) (omega arith) (omega arith) (length-table_bytes form (in_table parts))) in
    let inner : table_of m d ≡ in_table parts = table_is m (in_table parts) 4 0 refl (table_back form parts few (placed m false parts base request room fine)) in (
      table_walk m table head x [] d parts (chain_of parts) refl (sound, tt) stands.0 refl inner (λ k. refl) fine some (rw stands.0 refl) (rw stands.0 refl) refl,
      parts_read 1 n r b (omega arith),
      parts_written 1 n r b,
    )

-- a request of which all but the first bytes stand in a table
pub parts_give : (n r b q : ℕ) (rest : List Part) (table : List Descriptor) (head : ℕ) (others : List ℕ) → n ≤ 49152 → r ≤ 8192 → b + 65536 ≤ 2 ^ 64 → 2 ≤ q → length table ≡ q
    → AreApart (head ∷ others) → 1 ≤ length rest → length rest ≤ 2
    → AreFine (memory Split b n r (table_bytes Split (in_table rest))) false rest → Covers (b + min 24 n) (n - min 24 n) (reads rest) → Covers (b + 49152) r (writes rest)
    → Stands table (head ∷ others) (in_parts (record { addr = b; len = min 24 n; writes = false }) rest b (get_or others 0 0)).ring
    → GivesAll (chain_of (record { addr = b; len = min 24 n; writes = false } ∷ rest)) (memory Split b n r (table_bytes Split (in_table rest))) table head n r b
parts_give n r b q rest table head [] request room base queue size apart some few fine read written stands = absurd stands.1
parts_give n r b q rest table head (other ∷ others) request room base queue size apart some few fine read written stands =
    let m = memory Split b n r (table_bytes Split (in_table rest)) in
    let first : Part = record { addr = b; len = min 24 n; writes = false } in
    let d = joined first other in
    let e = referring b (16 * length (in_table rest)) 4 0 in
    let x = start table head in
    let y = start table other in
    let long : length (in_table rest) ≡ length rest = length-linked rest (range_with_len 1 (length rest)) in
    let sound : fault_at m (length table) [] x ≡ None = rw stands.0 (sound_part m (length table) false false (ltb 0 0) (ltb 0 0) d first (joined_is first other) refl (λ off. refl) (lies b n b (min 24 n) (omega arith) (omega arith))) in
    let unmet : was_met false other (x ∷ []) ≡ false = rw (ne_eqb head other apart.0.0) refl in
    let sound' : fault_at m (length table) (x ∷ []) y ≡ None = rw stands.1.0 (refers_sound m (length table) (length (in_table rest)) (was_met false other (x ∷ [])) (ltb 0 (length (all_read (x ∷ [])))) (ltb 0 (length (all_written (x ∷ [])))) 0 unmet refl (omega arith) (omega arith) (length-table_bytes Split (in_table rest))) in
    let inner : table_of m e ≡ in_table rest = table_is m (in_table rest) 4 0 refl (table_back Split rest few (placed m false rest base request room fine)) in
    let chain : Chain = record { readable = record { addr = b; len = min 24 n } ∷ reads rest; writable = writes rest } in (
      table_walk m table head y (x ∷ []) e rest chain ((d, stands.0, refl, refl), refl) (sound', (sound, tt)) stands.1.0 refl inner (λ k. refl) fine some (rw (stands.0, stands.1.0) refl) (rw (stands.0, stands.1.0) refl) refl,
      (refl, omega arith, read),
      written,
    )

rest_read : (n r b : ℕ) → Covers (b + min 24 n) (n - min 24 n) (reads (rest_of n r b))
rest_read n r b = elim (cases_lt 24 n) [
  | inl more ↦ (let first : min 24 n ≡ 24 = omega arith in rw first (covers_read 1 (n - 24) (b + 24) (n - 24) r b (omega arith)))
  | inr few ↦ (
      let first : min 24 n ≡ n = omega arith in
      let none : n - 24 ≡ 0 = omega arith in
      let left : n - n ≡ 0 = omega arith in
      rw (first, none, reads_room r b) left
      )
]

mixed_choice : (n r b q : ℕ) (p : Part) (rest : List Part) (none : Bool) (table : List Descriptor) (head : ℕ) (others : List ℕ) → n ≤ 49152 → r ≤ 8192 → b + 65536 ≤ 2 ^ 64 → 2 ≤ q → length table ≡ q
    → AreApart (head ∷ others) → length (p ∷ rest) ≤ 2
    → ((tables : List ℕ) → AreFine (memory Split b n r tables) false (p ∷ rest)) → Covers (b + min 24 n) (n - min 24 n) (reads (p ∷ rest)) → Covers (b + 49152) r (writes (p ∷ rest))
    → Stands table (head ∷ others) (cond none (flat (parts_of 1 n r b) (head ∷ others)) (in_parts (record { addr = b; len = min 24 n; writes = false }) (p ∷ rest) b (get_or others 0 0))).ring
    → GivesAll (chain_of (cond none (parts_of 1 n r b) (record { addr = b; len = min 24 n; writes = false } ∷ p ∷ rest))) (memory Split b n r ((cond none (flat (parts_of 1 n r b) (head ∷ others)) (in_parts (record { addr = b; len = min 24 n; writes = false }) (p ∷ rest) b (get_or others 0 0))).tables Split)) table head n r b
mixed_choice n r b q p rest true table head others request room base queue size apart few fine read written stands = flat_gives Split 1 n r b [] table head others (omega arith) apart stands
mixed_choice n r b q p rest false table head others request room base queue size apart few fine read written stands =
    parts_give n r b q (p ∷ rest) table head others request room base queue size apart (omega arith) few (fine (table_bytes Split (in_table (p ∷ rest)))) read written stands

mixed_gives : (n r b q : ℕ) (rest : List Part) (table : List Descriptor) (head : ℕ) (others : List ℕ) → n ≤ 49152 → r ≤ 8192 → b + 65536 ≤ 2 ^ 64 → 2 ≤ q → length table ≡ q
    → AreApart (head ∷ others) → length rest ≤ 2
    → ((tables : List ℕ) → AreFine (memory Split b n r tables) false rest) → Covers (b + min 24 n) (n - min 24 n) (reads rest) → Covers (b + 49152) r (writes rest)
    → Stands table (head ∷ others) (mixed n r b rest (head ∷ others)).ring → GivesAll (chain_of (mixed_parts n r b rest)) (memory Split b n r ((mixed n r b rest (head ∷ others)).tables Split)) table head n r b
mixed_gives n r b q [] table head others request room base queue size apart few fine read written stands = flat_gives Split 1 n r b [] table head others (omega arith) apart stands
mixed_gives n r b q (p ∷ rest) table head others request room base queue size apart few fine read written stands =
    mixed_choice n r b q p rest (eqb n 0) table head others request room base queue size apart few fine read written stands

-- a request of which a visit has a fault
fails_at_once : (m : Memory) (table : List Descriptor) (head : ℕ) (fault : ChainFault) → fault_at m (length table) [] (start table head) ≡ Some fault → Walks m table head (Err fault)
fails_at_once m table head fault e = record { before = []; last = start table head; visits = refl; clean = tt; faulty = e }

fails_then : (m : Memory) (table : List Descriptor) (head : ℕ) (d : Descriptor) (y : Visit) (fault : ChainFault)
    → slice_get table head ≡ Some d → goes_on d ≡ true → y ≡ visit_after m (start table head) d
    → fault_at m (length table) [] (start table head) ≡ None → fault_at m (length table) (start table head ∷ []) y ≡ Some fault → Walks m table head (Err fault)
fails_then m table head d y fault here on step sound e = record { before = start table head ∷ []; last = y; visits = ((d, here, on, step), refl); clean = (sound, tt); faulty = e }

bad_gives : (form : Form) (fault : ChainFault) (n r b q : ℕ) (table : List Descriptor) (head : ℕ) (others : List ℕ) → n ≤ 49152 → r ≤ 8192 → b + 65536 ≤ 2 ^ 64 → 2 ≤ q → length table ≡ q
    → Spells form (Bad fault) → AreApart (head ∷ others) → Stands table (head ∷ others) (made (Bad fault) n r b q (head ∷ others)).ring
    → Walks (memory form b n r ((made (Bad fault) n r b q (head ∷ others)).tables form)) table head (Err fault)
bad_gives form Index n r b q table head others request room base queue size spells apart stands =
    let m = memory form b n r [] in
    let p : Part = record { addr = b; len = n; writes = false } in
    let sound : fault_at m (length table) [] (start table head) ≡ None = rw stands.0 (sound_part m (length table) false false (ltb 0 0) (ltb 0 0) (joined p q) p (joined_is p q) refl (λ off. refl) (lies b n b n (omega arith) (omega arith))) in
    let past : slice_get table q ≡ None = slice_get_past table q (omega arith) in
    fails_then m table head (joined p q) (start table q) Index stands.0 refl refl sound (rw past refl)
bad_gives form Loop n r b q table head others request room base queue size spells apart stands =
    let m = memory form b n r [] in
    let p : Part = record { addr = b; len = n; writes = false } in
    let sound : fault_at m (length table) [] (start table head) ≡ None = rw stands.0 (sound_part m (length table) false false (ltb 0 0) (ltb 0 0) (joined p head) p (joined_is p head) refl (λ off. refl) (lies b n b n (omega arith) (omega arith))) in
    fails_then m table head (joined p head) (start table head) Loop stands.0 refl refl sound (rw (stands.0, eq-eqb head head refl) refl)
bad_gives Packed Nested n r b q table head others request room base queue size spells apart stands = absurd spells
bad_gives Split Nested n r b q table head others request room base queue size spells apart stands =
    let d = referring b 16 4 0 in
    let m = memory Split b n r (table_bytes Split (d ∷ [])) in
    let sound : fault_at m (length table) [] (start table head) ≡ None = rw stands.0 (refers_sound m (length table) 1 false (ltb 0 0) (ltb 0 0) 0 refl refl (omega arith) (omega arith) (length-table_bytes Split (d ∷ []))) in
    let inner : table_of m d ≡ d ∷ [] = table_is m (d ∷ []) 4 0 refl (descriptors_in-table_bytes (d ∷ []) (record { addr = omega arith; len = omega arith; flags = omega arith; next = omega arith }, tt)) in
    let y : Visit = record { table = d ∷ []; inside = true; at = 0 } in
    fails_then m table head d y Nested stands.0 refl (rw inner refl) sound refl
bad_gives Split NextWithIndirect n r b q table head others request room base queue size spells apart stands =
    fails_at_once (memory Split b n r ((made (Bad NextWithIndirect) n r b q (head ∷ others)).tables Split)) table head NextWithIndirect (rw stands.0 refl)
bad_gives Packed NextWithIndirect n r b q table head others request room base queue size spells apart stands =
    fails_at_once (memory Packed b n r ((made (Bad NextWithIndirect) n r b q (head ∷ others)).tables Packed)) table head NextWithIndirect (rw stands.0 refl)
bad_gives Split TableLength n r b q table head others request room base queue size spells apart stands =
    fails_at_once (memory Split b n r ((made (Bad TableLength) n r b q (head ∷ others)).tables Split)) table head TableLength (rw stands.0 refl)
bad_gives Packed TableLength n r b q table head others request room base queue size spells apart stands =
    fails_at_once (memory Packed b n r ((made (Bad TableLength) n r b q (head ∷ others)).tables Packed)) table head TableLength (rw stands.0 refl)
bad_gives form Order n r b q table head [] request room base queue size spells apart stands = absurd stands.1
bad_gives form Order n r b q table head (other ∷ others) request room base queue size spells apart stands =
    let m = memory form b n r [] in
    let p : Part = record { addr = b + 49152; len = r; writes = true } in
    let sound : fault_at m (length table) [] (start table head) ≡ None = rw stands.0 (sound_part m (length table) false false (ltb 0 0) (ltb 0 0) (joined p other) p (joined_is p other) refl (λ off. refl) (lies (b + 49152) r (b + 49152) r (omega arith) (omega arith))) in
    let unmet : was_met false other (start table head ∷ []) ≡ false = rw (ne_eqb head other apart.0.0) refl in
    fails_then m table head (joined p other) (start table other) Order stands.0 refl refl sound (rw (stands.1.0, unmet, stands.0) refl)
bad_gives form Range n r b q table head others request room base queue size spells apart stands =
    let over : lies_in b n b (n + 1) ≡ false = grind (arith, nat_tests) in
    fails_at_once (memory form b n r []) table head Range (rw (stands.0, over) refl)

pub gives : (form : Form) (shape : Shape) (n r b q : ℕ) (table : List Descriptor) (head : ℕ) (others : List ℕ) → IsRequest form shape n r b q → IsLaid shape n r b q table head others
    → GivesIts shape (memory_of form shape n r b q (head ∷ others)) table head n r b
gives form Plain n r b q table head others request laid = flat_gives form 1 n r b [] table head others (omega arith) laid.apart laid.stands
gives form (Pieces k) n r b q table head others request laid = (let some : 1 ≤ k = (let c = request.count in omega (arith, c.0)) in flat_gives form k n r b [] table head others some laid.apart laid.stands)
gives form Indirect n r b q table head others request laid = indirect_gives form n r b q table head others request.request request.room request.base request.queue laid.size laid.stands
gives Packed Mixed n r b q table head others request laid = absurd request.spells
gives Split Mixed n r b q table head others request laid =
    mixed_gives n r b q (rest_of n r b) table head others request.request request.room request.base request.queue laid.size laid.apart (length_parts (n - 24) (b + 24) (n - 24) r b)
    (λ tables. fine_pieces (memory Split b n r tables) 1 (n - 24) (b + 24) (n - 24) r (λ more. (omega arith, omega arith)) refl)
    (rest_read n r b) (covers_written 1 (n - 24) (b + 24) (n - 24) r b) laid.stands
gives form (Bad fault) n r b q table head others request laid = bad_gives form fault n r b q table head others request.request request.room request.base request.queue laid.size request.spells laid.apart laid.stands
