use Rattle.std.proofs.Common.{◌≡◌, ℕ, ◌<◌, true, false, Some, None, Result, Ok, Err, List, [], ◌∷◌, length, sym, ap, inl, inr, ◌∙◌, arith}
use Rattle.std.proofs.lemmas.Bool.{cases_eq, cases_order}
use Rattle.vg_chain.specs.declared.chain.Chain.{Chain}
use Rattle.vg_chain.specs.declared.chain.ChainFault.{ChainFault}
use Rattle.vg_chain.specs.declared.descriptor.Descriptor.{Descriptor}
use Rattle.vg_chain.specs.declared.descriptor.Segment.{Segment}
use Rattle.vg_chain.specs.Memory.{Memory}
use Rattle.vg_chain.specs.Walk.{Visit, there, goes_on, visit_after, Visits, all_read, all_written, fault_at, AreClean, IsChain, IsFault, Walks}

-- visits of one walk, as many, are the same
same_visits : (m : Memory) (table : List Descriptor) (head : ℕ) (t u : List Visit) → Visits m table head t → Visits m table head u → length t ≡ length u → t ≡ u
same_visits m table head [] u v w e = absurd v
same_visits m table head (x ∷ []) [] v w e = absurd w
same_visits m table head (x ∷ []) (y ∷ []) v w e = cc
same_visits m table head (x ∷ []) (y ∷ y' ∷ after) v w e = absurd (omega arith)
same_visits m table head (x ∷ x' ∷ before) [] v w e = absurd w
same_visits m table head (x ∷ x' ∷ before) (y ∷ []) v w e = absurd (omega arith)
same_visits m table head (x ∷ x' ∷ before) (y ∷ y' ∷ after) v w e =
    let rest : x' ∷ before ≡ y' ∷ after = same_visits m table head (x' ∷ before) (y' ∷ after) v.1 w.1 (omega arith) in
    let place : x' ≡ y' = cc in
    let found : Some v.0.0 ≡ Some w.0.0 = sym v.0.1 ∙ ap there place ∙ w.0.1 in
    let descriptor : v.0.0 ≡ w.0.0 = cc in
    let first : x ≡ y = v.0.3 ∙ ap (λ (z : Visit). visit_after m z v.0.0) place ∙ ap (λ (d : Descriptor). visit_after m y' d) descriptor ∙ sym w.0.3 in
    cc

-- a visit that another one follows
record Goes (m : Memory) (size : ℕ) (before : List Visit) (x : Visit) : Type 0 where
  descriptor : Descriptor
  sound : fault_at m size before x ≡ None
  found : there x ≡ Some descriptor
  on : goes_on descriptor ≡ true

goes_at : (m : Memory) (size : ℕ) (before after : List Visit) (x y : Visit) → x ∷ before ≡ y ∷ after → Goes m size after y → Goes m size before x
goes_at m size before after x y e goes =
    let place : x ≡ y = cc in
    let rest : before ≡ after = cc in
    record {
      descriptor = goes.descriptor;
      sound = ap (λ (z : List Visit). fault_at m size z x) rest ∙ ap (λ (z : Visit). fault_at m size after z) place ∙ goes.sound;
      found = ap there place ∙ goes.found;
      on = goes.on;
    }

-- of two walks the shorter one goes on
goes : (m : Memory) (table : List Descriptor) (head : ℕ) (before after : List Visit) (x y : Visit) → Visits m table head (x ∷ before) → Visits m table head (y ∷ after)
    → AreClean m (length table) after → length before < length after → Goes m (length table) before x
goes m table head before [] x y v w clean fewer = absurd (omega arith)
goes m table head before (y' ∷ after) x y v w clean fewer =
    elim (cases_eq (length before) (length after)) [
      | inl e ↦ (let same = same_visits m table head (x ∷ before) (y' ∷ after) v w.1 (omega arith) in goes_at m (length table) before after x y' same (record {
        descriptor = w.0.0;
        sound = clean.0;
        found = w.0.1;
        on = w.0.2;
      }))
      | inr ne ↦ goes m table head before after x y' v w.1 clean.1 (omega (arith, ne))
    ]

-- walks that both end are the same
same_walk : (m : Memory) (table : List Descriptor) (head : ℕ) (before after : List Visit) (x y : Visit) → Visits m table head (x ∷ before) → Visits m table head (y ∷ after)
    → AreClean m (length table) before → AreClean m (length table) after
    → (Goes m (length table) before x → ⊥) → (Goes m (length table) after y → ⊥) → x ∷ before ≡ y ∷ after
same_walk m table head before after x y v w clean clean' ends ends' =
    elim (cases_order (length before) (length after)) [
      | inl e ↦ same_visits m table head (x ∷ before) (y ∷ after) v w (omega arith)
      | inr other ↦ elim other [
        | inl less ↦ absurd (ends (goes m table head before after x y v w clean' less))
        | inr more ↦ absurd (ends' (goes m table head after before y x w v clean more))
      ]
    ]

chain_ends : (m : Memory) (table : List Descriptor) (head : ℕ) (chain : Chain) (c : IsChain m table head chain) → Goes m (length table) c.before c.last → ⊥
chain_ends m table head chain c g =
    let found : Some c.descriptor ≡ Some g.descriptor = sym c.found ∙ g.found in
    let same : c.descriptor ≡ g.descriptor = cc in
    let on : true ≡ false = sym g.on ∙ ap goes_on (sym same) ∙ c.ends in
    cc

fault_ends : (m : Memory) (table : List Descriptor) (head : ℕ) (fault : ChainFault) (f : IsFault m table head fault) → Goes m (length table) f.before f.last → ⊥
fault_ends m table head fault f g = let both : Some fault ≡ None = sym f.faulty ∙ g.sound in cc

same_chain : (c c' : Chain) → c.readable ≡ c'.readable → c.writable ≡ c'.writable → c ≡ c'
same_chain c c' e e' =
    let one : c ≡ record c { readable = c'.readable } = ap (λ (z : List Segment). record c { readable = z }) e in
    one ∙ ap (λ (z : List Segment). record c' { writable = z }) e'

never_both : (m : Memory) (table : List Descriptor) (head : ℕ) (c : Chain) (f : ChainFault) → IsChain m table head c → IsFault m table head f → ⊥
never_both m table head c f p q =
    let same = same_walk m table head p.before q.before p.last q.last p.visits q.visits p.clean.1 q.clean (chain_ends m table head c p) (fault_ends m table head f q) in
    let place : p.last ≡ q.last = cc in
    let rest : p.before ≡ q.before = cc in
    let both : None ≡ Some f = sym p.clean.0 ∙ ap (λ (z : List Visit). fault_at m (length table) z p.last) rest ∙ ap (λ (z : Visit). fault_at m (length table) q.before z) place ∙ q.faulty in
    cc

pub one_result : (m : Memory) (table : List Descriptor) (head : ℕ) (a b : Result Chain ChainFault) → Walks m table head a → Walks m table head b → a ≡ b
one_result m table head (Ok c) (Ok c') p q =
    let same = same_walk m table head p.before q.before p.last q.last p.visits q.visits p.clean.1 q.clean.1 (chain_ends m table head c p) (chain_ends m table head c' q) in
    let readable : c.readable ≡ c'.readable = p.readable ∙ ap all_read same ∙ sym q.readable in
    let writable : c.writable ≡ c'.writable = p.writable ∙ ap all_written same ∙ sym q.writable in
    ap (λ (z : Chain). Ok z) (same_chain c c' readable writable)
one_result m table head (Ok c) (Err f) p q = absurd (never_both m table head c f p q)
one_result m table head (Err f) (Ok c) p q = absurd (never_both m table head c f q p)
one_result m table head (Err f) (Err f') p q =
    let same = same_walk m table head p.before q.before p.last q.last p.visits q.visits p.clean q.clean (fault_ends m table head f p) (fault_ends m table head f' q) in
    let place : p.last ≡ q.last = cc in
    let rest : p.before ≡ q.before = cc in
    let both : Some f ≡ Some f' = sym p.faulty ∙ ap (λ (z : List Visit). fault_at m (length table) z p.last) rest ∙ ap (λ (z : Visit). fault_at m (length table) q.before z) place ∙ q.faulty in
    let fault : f ≡ f' = cc in
    ap (λ (z : ChainFault). Err z) fault
