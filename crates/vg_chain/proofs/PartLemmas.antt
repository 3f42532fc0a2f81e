use Rattle.std.proofs.Common.{◌≡◌, ℕ, ◌+◌, ◌/◌, ◌%◌, Bool, true, false, not, ◌&&◌, ◌||◌, cond, eqb, ltb, Some, None, List, [], ◌∷◌, ◌++◌, length, refl, sym, ap, subst, ◌∙◌, arith, append_assoc, length-append}
use Rattle.std.proofs.lemmas.List.{append-nil}
use Rattle.std.proofs.lemmas.Bool.{ne_eqb}
use Rattle.std.proofs.lemmas.Bool.Decides.{nat_tests}
use Rattle.vg_chain.specs.declared.chain.Chain.{Chain}
use Rattle.vg_chain.specs.declared.chain.ChainFault.TheVariants.{Loop, Nested, NextWithIndirect, TableLength, Order, Range}
use Rattle.vg_chain.specs.declared.descriptor.Descriptor.{Descriptor}
use Rattle.vg_chain.specs.declared.descriptor.Segment.{Segment}
use Rattle.vg_chain.specs.Descriptor.{NEXT, WRITE, INDIRECT, flags_of, is_writable, is_indirect}
use Rattle.vg_chain.specs.Memory.{Memory, lies_in, is_in_range}
use Rattle.vg_chain.specs.Fault.{fault_of, is_bad_length, is_listed}
use Rattle.vg_chain.specs.Walk.{Visit, there, goes_on, visit_after, Visits, was_met, read_of, written_of, all_read, all_written, fault_at, AreClean, IsChain}
use Rattle.vg_chain.specs.declared.part.Part.{Part}
use Rattle.vg_chain.specs.Made.{last_of, joined, linked, Stands, AreOther, AreApart, segment_in, reads, writes}

bit_indirect : (writes more : Bool) → eqb (flags_of writes more / INDIRECT % 2) 1 ≡ false
bit_indirect true true = refl
bit_indirect true false = refl
bit_indirect false true = refl
bit_indirect false false = refl

pub bit_write : (writes more : Bool) → eqb (flags_of writes more / WRITE % 2) 1 ≡ writes
bit_write true true = refl
bit_write true false = refl
bit_write false true = refl
bit_write false false = refl

bit_next : (writes more : Bool) → eqb (flags_of writes more / NEXT % 2) 1 ≡ more
bit_next true true = refl
bit_next true false = refl
bit_next false true = refl
bit_next false false = refl

-- a descriptor that is a part's
pub record IsPartOf (d : Descriptor) (p : Part) : Type 0 where
  pub plain : is_indirect d ≡ false
  pub writes : is_writable d ≡ p.writes
  pub addr : d.addr ≡ p.addr
  pub len : d.len ≡ p.len

pub last_is : (p : Part) → IsPartOf (last_of p) p
last_is p = record { plain = bit_indirect p.writes false; writes = bit_write p.writes false; addr = refl; len = refl }

pub joined_is : (p : Part) (next : ℕ) → IsPartOf (joined p next) p
joined_is p next = record { plain = bit_indirect p.writes true; writes = bit_write p.writes true; addr = refl; len = refl }

abbrev pub part_range : Memory → Part → Bool
part_range m p = cond p.writes (lies_in (m.base + 49152) m.room p.addr p.len) (lies_in m.base m.request p.addr p.len)

none_found : (met indirect inside next bad writable wrote range : Bool) → met ≡ false → indirect ≡ false → (writable ≡ false → wrote ≡ false) → range ≡ true
    → cond met (Some Loop) (cond (indirect && inside) (Some Nested) (cond (indirect && next) (Some NextWithIndirect) (cond (indirect && bad) (Some TableLength) (cond ((not indirect && not writable) && wrote) (Some Order) (cond (not range) (Some Range) None))))) ≡ None
none_found true indirect inside next bad writable wrote range a b c d = cc
none_found false true inside next bad writable wrote range a b c d = cc
none_found false false inside next bad writable wrote false a b c d = cc
none_found false false inside next bad true wrote true a b c d = refl
none_found false false inside next bad false wrote true a b c d = rw (c refl) refl

pub sound_part : (m : Memory) (size : ℕ) (inside met read wrote : Bool) (d : Descriptor) (p : Part) → IsPartOf d p → met ≡ false → (p.writes ≡ false → wrote ≡ false) → part_range m p ≡ true
    → fault_of m size inside met read wrote (Some d) ≡ None
sound_part m size inside met read wrote d p is unmet order range =
    let there : is_in_range m d ≡ true = rw (is.plain, is.writes, is.addr, is.len) range in
    none_found met (is_indirect d) inside (is_listed m.form (read || wrote) d) (is_bad_length size d) (is_writable d) wrote (is_in_range m d) unmet is.plain (λ e. order (sym is.writes ∙ e)) there

read_choice : (w : Bool) (s : Segment) → cond (not false && not w) (s ∷ []) [] ≡ cond w [] (s ∷ [])
read_choice true s = refl
read_choice false s = refl

pub read_part : (d : Descriptor) (p : Part) → IsPartOf d p → read_of (Some d) ≡ cond p.writes [] (segment_in p ∷ [])
read_part d p is = rw (is.plain, is.writes, is.addr, is.len) (read_choice p.writes (segment_in p))

pub written_part : (d : Descriptor) (p : Part) → IsPartOf d p → written_of (Some d) ≡ cond p.writes (segment_in p ∷ []) []
written_part d p is = rw (is.plain, is.writes, is.addr, is.len) refl

-- parts that a walk passes without a fault
abbrev pub AreFine : Memory → Bool → List Part → Type 0
AreFine m wrote [] = Unit {0}
AreFine m wrote (p ∷ more) = (p.writes ≡ false → wrote ≡ false) × (part_range m p ≡ true) × AreFine m (wrote || p.writes) more

-- places that were not met
abbrev pub Unmet : Bool → List Visit → List ℕ → Type 0
Unmet inside before [] = Unit {0}
Unmet inside before (place ∷ places) = (was_met inside place before ≡ false) × Unmet inside before places

unmet_here : (inside b : Bool) → b ≡ false → (inside && inside || not inside && not inside) && b ≡ false
unmet_here true b e = e
unmet_here false b e = e

pub unmet_more : (x : Visit) (before : List Visit) (places : List ℕ) → Unmet x.inside before places → AreOther x.at places → Unmet x.inside (x ∷ before) places
unmet_more x before [] unmet other = tt
unmet_more x before (place ∷ places) unmet other =
    let here : (x.inside && x.inside || not x.inside && not x.inside) && eqb x.at place ≡ false = unmet_here x.inside (eqb x.at place) (ne_eqb x.at place other.0) in
    (rw (here, unmet.0) refl, unmet_more x before places unmet.1 other.1)

any_more : (xs : List Segment) (s : Segment) → ltb 0 (length (xs ++ s ∷ [])) ≡ true
any_more xs s = let long : length (xs ++ s ∷ []) ≡ length xs + 1 = length-append xs (s ∷ []) in grind (arith, nat_tests)

or_true : (b : Bool) → b || true ≡ true
or_true true = refl
or_true false = refl

or_false : (b : Bool) → b || false ≡ b
or_false true = refl
or_false false = refl

wrote_choice : (w : Bool) (xs : List Segment) (s : Segment) → ltb 0 (length (xs ++ cond w (s ∷ []) [])) ≡ ltb 0 (length xs) || w
wrote_choice true xs s = any_more xs s ∙ sym (or_true (ltb 0 (length xs)))
wrote_choice false xs s = ap (λ (z : List Segment). ltb 0 (length z)) (append-nil xs) ∙ sym (or_false (ltb 0 (length xs)))

pub wrote_part : (x : Visit) (before : List Visit) (d : Descriptor) (p : Part) → there x ≡ Some d → IsPartOf d p
    → ltb 0 (length (all_written (x ∷ before))) ≡ ltb 0 (length (all_written before)) || p.writes
wrote_part x before d p here is = rw (here, written_part d p is) (wrote_choice p.writes (all_written before) (segment_in p))

-- a visit of a part with others behind it
pub visit_joined : (m : Memory) (x : Visit) (p : Part) (next : ℕ) → visit_after m x (joined p next) ≡ record { table = x.table; inside = x.inside; at = next }
visit_joined m x p next = rw (bit_indirect p.writes true) refl

pub joined_on : (p : Part) (next : ℕ) → goes_on (joined p next) ≡ true
joined_on p next = rw (bit_indirect p.writes true, bit_next p.writes true) refl

-- the rest of a walk over parts that are linked
pub walks_linked : (m : Memory) (ring : List Descriptor) (head : ℕ) (parts : List Part) (nexts : List ℕ) (x : Visit) (before : List Visit) (p : Part) (chain : Chain)
    → Visits m ring head (x ∷ before) → AreClean m (length ring) before → Unmet x.inside before (x.at ∷ nexts) → AreApart (x.at ∷ nexts)
    → Stands x.table (x.at ∷ nexts) (linked (p ∷ parts) nexts) → AreFine m (ltb 0 (length (all_written before))) (p ∷ parts)
    → chain.readable ≡ all_read before ++ reads (p ∷ parts) → chain.writable ≡ all_written before ++ writes (p ∷ parts)
    → IsChain m ring head chain
walks_linked m ring head [] nexts x before p chain visits clean unmet apart stands fine readable writable =
    let sound : fault_at m (length ring) before x ≡ None = rw stands.0 (sound_part m (length ring) x.inside (was_met x.inside x.at before) (ltb 0 (length (all_read before))) (ltb 0 (length (all_written before))) (last_of p) p (last_is p) unmet.0 fine.0 fine.1) in
    record {
      before = before;
      last = x;
      descriptor = last_of p;
      visits = visits;
      clean = (sound, clean);
      found = stands.0;
      ends = rw (bit_indirect p.writes false, bit_next p.writes false) refl;
      readable = readable ∙ rw (stands.0, read_part (last_of p) p (last_is p), append-nil) refl;
      writable = writable ∙ rw (stands.0, written_part (last_of p) p (last_is p), append-nil) refl;
    }
walks_linked m ring head (other ∷ parts) [] x before p chain visits clean unmet apart stands fine readable writable = absurd stands.1
walks_linked m ring head (other ∷ parts) (next ∷ nexts) x before p chain visits clean unmet apart stands fine readable writable =
    let d = joined p next in
    let sound : fault_at m (length ring) before x ≡ None = rw stands.0 (sound_part m (length ring) x.inside (was_met x.inside x.at before) (ltb 0 (length (all_read before))) (ltb 0 (length (all_written before))) d p (joined_is p next) unmet.0 fine.0 fine.1) in
    let y : Visit = record { table = x.table; inside = x.inside; at = next } in
    let again : AreFine m (ltb 0 (length (all_written (x ∷ before)))) (other ∷ parts) = subst (λ (w : Bool). AreFine m w (other ∷ parts)) (sym (wrote_part x before d p stands.0 (joined_is p next))) fine.2 in
    let read : chain.readable ≡ all_read (x ∷ before) ++ reads (other ∷ parts) = readable ∙ rw (stands.0, read_part d p (joined_is p next)) (sym (append_assoc (all_read before) (cond p.writes [] (segment_in p ∷ [])) (reads (other ∷ parts)))) in
    let written : chain.writable ≡ all_written (x ∷ before) ++ writes (other ∷ parts) = writable ∙ rw (stands.0, written_part d p (joined_is p next)) (sym (append_assoc (all_written before) (cond p.writes (segment_in p ∷ []) []) (writes (other ∷ parts)))) in
    walks_linked m ring head parts nexts y (x ∷ before) other chain ((d, stands.0, joined_on p next, sym (visit_joined m x p next)), visits) (sound, clean) (unmet_more x before (next ∷ nexts) unmet.1 apart.0) apart.1 stands.1 again read written
