use Rattle.std.proofs.Common.{◌≡◌, ◌≢◌, ℕ, zero, suc, ◌+◌, ◌*◌, ◌/◌, ◌%◌, ◌<◌, ◌≤◌, Bool, true, false, not, ◌&&◌, ◌||◌, cond, eqb, ltb, Option, Some, None, List, [], ◌∷◌, ◌++◌, length, get_or, set, replicate, refl, sym, inl, inr, ◌∙◌, arith}
use Rattle.std.proofs.lemmas.List.{append-nil, get_or-set_other, get_or-set_same, length-set, length-replicate}
use Rattle.std.proofs.lemmas.List.Sums.{sum_by-set, count_by-le-length}
use Rattle.std.proofs.lemmas.Bool.Decides.{nat_tests, eqb_tells}
use Rattle.std.proofs.lemmas.Option.{slice_get_within}
use Rattle.std.specs.List.{count_by}
use Rattle.vg_laws.proofs.Bools.{not-false}
use Rattle.vg_chain.specs.declared.chain.Chain.{Chain}
use Rattle.vg_chain.specs.declared.chain.ChainFault.{ChainFault}
use Rattle.vg_chain.specs.declared.chain.ChainFault.TheVariants.{Loop, Nested, NextWithIndirect, TableLength, Order, Range}
use Rattle.vg_chain.specs.declared.descriptor.Descriptor.{Descriptor}
use Rattle.vg_chain.specs.declared.descriptor.Segment.{Segment}
use Rattle.vg_chain.specs.Descriptor.{has_next, is_indirect, is_read}
use Rattle.vg_chain.specs.Memory.{Memory, table_of, is_in_range}
use Rattle.vg_chain.specs.Fault.{fault_of, is_bad_length, is_listed}
use Rattle.vg_chain.specs.Walk.{Visit, there, Visits, was_met, read_of, written_of, all_read, all_written, fault_at, AreClean, IsChain, IsFault}
use Rattle.vg_chain.specs.TourWithin.{table_now, places_left}

abbrev pub visit_now : List Descriptor → List Descriptor → Bool → ℕ → Visit
visit_now ring inner inside at = record { table = table_now ring inner inside; inside = inside; at = at }

-- what a walk has on its way
pub record IsTour (m : Memory) (ring : List Descriptor) (head : ℕ) (inner : List Descriptor) (inside : Bool) (at : ℕ) (marks : List Bool) (readable writable : List Segment) : Type 0 where
  pub before : List Visit
  pub visits : Visits m ring head (visit_now ring inner inside at ∷ before)
  pub clean : AreClean m (length ring) before
  pub marked : (k : ℕ) → get_or marks k false ≡ was_met inside k before
  pub outside : inside ≡ false → (k : ℕ) → was_met true k before ≡ false
  pub long : length marks ≡ length (table_now ring inner inside)
  pub read : readable ≡ all_read before
  pub written : writable ≡ all_written before

-- a list of one element has it at each place
get_or-all : (n k : ℕ) → get_or (replicate n false) k false ≡ false
get_or-all zero zero = refl
get_or-all zero (suc k) = refl
get_or-all (suc n) zero = refl
get_or-all (suc n) (suc k) = get_or-all n k

pub tour_starts : (m : Memory) (ring inner : List Descriptor) (head : ℕ) → IsTour m ring head inner false head (replicate (length ring) false) [] []
tour_starts m ring inner head = record {
  before = [];
  visits = refl;
  clean = tt;
  marked = λ k. get_or-all (length ring) k;
  outside = λ _ k. refl;
  long = length-replicate (length ring) false;
  read = refl;
  written = refl;
}

-- what a descriptor without a fault is not
no_fault : (met nested next bad order outside : Bool)
    → cond met (Some Loop) (cond nested (Some Nested) (cond next (Some NextWithIndirect) (cond bad (Some TableLength) (cond order (Some Order) (cond outside (Some Range) None))))) ≡ None
    → (met ≡ false) × (nested ≡ false) × (next ≡ false) × (bad ≡ false) × (order ≡ false) × (outside ≡ false)
no_fault true nested next bad order outside h = cc
no_fault false true next bad order outside h = cc
no_fault false false true bad order outside h = cc
no_fault false false false true order outside h = cc
no_fault false false false false true outside h = cc
no_fault false false false false false true h = cc
no_fault false false false false false false h = (refl, refl, refl, refl, refl, refl)

and_right : (a b : Bool) → a ≡ true → a && b ≡ false → b ≡ false
and_right true b on off = off
and_right false b on off = cc

-- what a descriptor without a fault is
pub record IsFree (m : Memory) (size : ℕ) (inside met : Bool) (d : Descriptor) : Type 0 where
  pub unmet : met ≡ false
  pub outer : is_indirect d ≡ true → inside ≡ false
  pub good : is_indirect d ≡ true → is_bad_length size d ≡ false
  pub there : is_in_range m d ≡ true

pub free : (m : Memory) (size : ℕ) (inside met read wrote : Bool) (d : Descriptor) → fault_of m size inside met read wrote (Some d) ≡ None → IsFree m size inside met d
free m size inside met read wrote d h =
    let parts = no_fault met (is_indirect d && inside) (is_indirect d && is_listed m.form (read || wrote) d) (is_indirect d && is_bad_length size d) (is_read d && wrote) (not (is_in_range m d)) h in
    record {
      unmet = parts.0;
      outer = λ on. and_right (is_indirect d) inside on parts.1;
      good = λ on. and_right (is_indirect d) (is_bad_length size d) on parts.3;
      there = not-false (is_in_range m d) parts.5;
    }

same : (inside b : Bool) → (inside && inside || not inside && not inside) && b ≡ b
same true b = refl
same false b = refl

-- the marks with one more
marked_more : (inside : Bool) (at k : ℕ) (marks : List Bool) (b : Bool) → at < length marks → get_or marks k false ≡ b
    → get_or (set marks at true) k false ≡ (((inside && inside || not inside && not inside) && eqb at k) || b)
marked_more inside at k marks b small e =
    rw (same inside (eqb at k)) (elim (eqb_tells at k) [
      | inl w ↦ (let k_is : k ≡ at = omega arith in rw (w.0, k_is, get_or-set_same) refl)
      | inr w ↦ (let other : k ≢ at = λ e'. w.1 (sym e') in rw (w.0, get_or-set_other) e)
    ])

-- the ring's table isn't the indirect one
apart : (inside b c : Bool) → inside ≡ false → c ≡ false → ((inside && true || not inside && not true) && b) || c ≡ false
apart true b c off e = cc
apart false b c off e = e

-- a tour's next visit in the same table
pub tour_passes : (m : Memory) (ring : List Descriptor) (head : ℕ) (inner : List Descriptor) (inside : Bool) (at : ℕ) (marks : List Bool) (readable writable : List Segment) (d : Descriptor)
    → (tour : IsTour m ring head inner inside at marks readable writable)
    → there (visit_now ring inner inside at) ≡ Some d
    → fault_at m (length ring) tour.before (visit_now ring inner inside at) ≡ None
    → is_indirect d ≡ false → has_next d ≡ true
    → IsTour m ring head inner inside d.next (set marks at true) (readable ++ read_of (Some d)) (writable ++ written_of (Some d))
tour_passes m ring head inner inside at marks readable writable d tour here sound plain more =
    let small : at < length marks = let w = slice_get_within (table_now ring inner inside) at d here in omega (arith, tour.long) in
    record {
      before = visit_now ring inner inside at ∷ tour.before;
      visits = ((d, here, rw (plain, more) refl, rw plain refl), tour.visits);
      clean = (sound, tour.clean);
      marked = λ k. marked_more inside at k marks (was_met inside k tour.before) small (tour.marked k);
      outside = λ off k. apart inside (eqb at k) (was_met true k tour.before) off (tour.outside off k);
      long = length-set marks at true ∙ tour.long;
      read = rw (here, tour.read) refl;
      written = rw (here, tour.written) refl;
    }

-- inside of a table nothing was met yet
pub tour_enters : (m : Memory) (ring : List Descriptor) (head : ℕ) (inner : List Descriptor) (inside : Bool) (at : ℕ) (marks : List Bool) (readable writable : List Segment) (d : Descriptor)
    → (tour : IsTour m ring head inner inside at marks readable writable)
    → there (visit_now ring inner inside at) ≡ Some d
    → fault_at m (length ring) tour.before (visit_now ring inner inside at) ≡ None
    → is_indirect d ≡ true → inside ≡ false → length (table_of m d) ≡ d.len / 16
    → IsTour m ring head (table_of m d) true 0 (replicate (d.len / 16) false) readable writable
tour_enters m ring head inner inside at marks readable writable d tour here sound refers off long =
    record {
      before = visit_now ring inner inside at ∷ tour.before;
      visits = ((d, here, rw refers refl, rw refers refl), tour.visits);
      clean = (sound, tour.clean);
      marked = λ k. get_or-all (d.len / 16) k ∙ sym (apart inside (eqb at k) (was_met true k tour.before) off (tour.outside off k));
      outside = λ on. absurd (cc);
      long = length-replicate (d.len / 16) false ∙ sym long;
      read = tour.read ∙ rw (here, refers) (sym (append-nil (all_read tour.before)));
      written = tour.written ∙ rw (here, refers) (sym (append-nil (all_written tour.before)));
    }

-- the fault that is looked for is the visit's
pub fault_is : (m : Memory) (ring : List Descriptor) (head : ℕ) (inner : List Descriptor) (inside : Bool) (at : ℕ) (marks : List Bool) (readable writable : List Segment) (d : Descriptor)
    → (tour : IsTour m ring head inner inside at marks readable writable)
    → there (visit_now ring inner inside at) ≡ Some d
    → fault_at m (length ring) tour.before (visit_now ring inner inside at) ≡ fault_of m (length ring) inside (get_or marks at false) (ltb 0 (length readable)) (ltb 0 (length writable)) (Some d)
fault_is m ring head inner inside at marks readable writable d tour here =
    rw (here, tour.marked at, tour.read, tour.written) refl

pub none_of : (r : Option ChainFault) → ((x : ChainFault) → r ≡ Some x → ⊥) → r ≡ None
none_of None h = refl
none_of (Some x) h = absurd (h x refl)

-- the visit has no fault where none was found
pub sound_of : (m : Memory) (ring : List Descriptor) (head : ℕ) (inner : List Descriptor) (inside : Bool) (at : ℕ) (marks : List Bool) (readable writable : List Segment) (d : Descriptor) (met read wrote : Bool) (found : Option ChainFault)
    → (tour : IsTour m ring head inner inside at marks readable writable)
    → there (visit_now ring inner inside at) ≡ Some d
    → met ≡ get_or marks at false → read ≡ ltb 0 (length readable) → wrote ≡ ltb 0 (length writable)
    → found ≡ fault_of m (length ring) inside met read wrote (Some d) → ((x : ChainFault) → found ≡ Some x → ⊥)
    → fault_at m (length ring) tour.before (visit_now ring inner inside at) ≡ None
sound_of m ring head inner inside at marks readable writable d met read wrote found tour here met_is read_is wrote_is found_is none =
    fault_is m ring head inner inside at marks readable writable d tour here ∙ rw (← met_is, ← read_is, ← wrote_is) (sym found_is ∙ none_of found none)

pub fault_found : (m : Memory) (ring : List Descriptor) (head : ℕ) (inner : List Descriptor) (inside : Bool) (at : ℕ) (marks : List Bool) (readable writable : List Segment) (d : Descriptor) (met read wrote : Bool) (fault : ChainFault)
    → (tour : IsTour m ring head inner inside at marks readable writable)
    → there (visit_now ring inner inside at) ≡ Some d
    → met ≡ get_or marks at false → read ≡ ltb 0 (length readable) → wrote ≡ ltb 0 (length writable)
    → Some fault ≡ fault_of m (length ring) inside met read wrote (Some d)
    → fault_at m (length ring) tour.before (visit_now ring inner inside at) ≡ Some fault
fault_found m ring head inner inside at marks readable writable d met read wrote fault tour here met_is read_is wrote_is found_is =
    fault_is m ring head inner inside at marks readable writable d tour here ∙ rw (← met_is, ← read_is, ← wrote_is) (sym found_is)

-- a walk that ends
pub tour_ends : (m : Memory) (ring : List Descriptor) (head : ℕ) (inner : List Descriptor) (inside : Bool) (at : ℕ) (marks : List Bool) (readable writable : List Segment) (d : Descriptor) (chain : Chain)
    → (tour : IsTour m ring head inner inside at marks readable writable)
    → there (visit_now ring inner inside at) ≡ Some d
    → fault_at m (length ring) tour.before (visit_now ring inner inside at) ≡ None
    → is_indirect d ≡ false → has_next d ≡ false
    → chain.readable ≡ readable ++ read_of (Some d) → chain.writable ≡ writable ++ written_of (Some d)
    → IsChain m ring head chain
tour_ends m ring head inner inside at marks readable writable d chain tour here sound plain last read written =
    record {
      before = tour.before;
      last = visit_now ring inner inside at;
      descriptor = d;
      visits = tour.visits;
      clean = (sound, tour.clean);
      found = here;
      ends = rw (plain, last) refl;
      readable = read ∙ rw (here, tour.read) refl;
      writable = written ∙ rw (here, tour.written) refl;
    }

-- a walk that comes to a fault
pub tour_fails : (m : Memory) (ring : List Descriptor) (head : ℕ) (inner : List Descriptor) (inside : Bool) (at : ℕ) (marks : List Bool) (readable writable : List Segment) (fault : ChainFault)
    → (tour : IsTour m ring head inner inside at marks readable writable)
    → fault_at m (length ring) tour.before (visit_now ring inner inside at) ≡ Some fault
    → IsFault m ring head fault
tour_fails m ring head inner inside at marks readable writable fault tour faulty = record {
  before = tour.before;
  last = visit_now ring inner inside at;
  visits = tour.visits;
  clean = tour.clean;
  faulty = faulty;
}

-- fewer places are left
pub left_passes : (ring : List Descriptor) (inside : Bool) (marks : List Bool) (at : ℕ) → at < length marks → get_or marks at false ≡ false
    → places_left ring inside (set marks at true) < places_left ring inside marks
left_passes ring inside marks at small e =
    let one : count_by not (set marks at true) + cond (not (get_or marks at false)) 1 0 ≡ count_by not marks + 0 = sum_by-set (λ b. cond (not b) 1 0) marks at true false small in
    let two : count_by not (set marks at true) + 1 ≡ count_by not marks + 0 = rw e at one in
    omega (arith, two)

pub left_enters : (ring : List Descriptor) (marks : List Bool) (n : ℕ) → n ≤ length ring → places_left ring true (replicate n false) < places_left ring false marks
left_enters ring marks n small =
    let most = count_by-le-length not (replicate n false) in
    let long = length-replicate n false in
    omega (arith, most, long)

-- a table of a good length has no more descriptors than the queue
pub fits_queue : (size : ℕ) (d : Descriptor) → is_bad_length size d ≡ false → d.len / 16 ≤ size
fits_queue size d good = by_tests (eqb d.len 0) (eqb (d.len % 16) 0) (ltb (16 * size) d.len) refl good
  where
    by_tests : (none whole more : Bool) → ltb (16 * size) d.len ≡ more → (none || not whole) || more ≡ false → d.len / 16 ≤ size
    by_tests true whole more is h = absurd (cc)
    by_tests false false more is h = absurd (cc)
    by_tests false true true is h = absurd (cc)
    by_tests false true false is h = (let most : d.len ≤ 16 * size = grind (arith, nat_tests) in omega (arith, most))
