use Rattle.std.proofs.Common.{◌≡◌, ℕ, zero, suc, ◌+◌, ◌*◌, ◌<◌, ◌≤◌, Some, List, [], ◌∷◌, ◌++◌, length, drop, get_or, slice_get, refl, sym, ap, subst, inl, inr, ◌∙◌, arith, cond, eqb}
use Rattle.std.specs.Prelude.{Result, Ok, Err}
use Rattle.std.proofs.lemmas.Bool.{cases_lt, eq-eqb}
use Rattle.vg_chain.specs.declared.descriptor.Descriptor.{Descriptor}
use Rattle.vg_chain.specs.declared.chain.Chain.{Chain}
use Rattle.vg_chain.specs.declared.chain.ChainFault.{ChainFault}
use Rattle.vg_chain.specs.declared.form.Form.{Form}
use Rattle.vg_chain.specs.declared.form.Form.TheVariants.{Split}
use Rattle.vg_chain.specs.declared.shape.Shape.{Shape}
use Rattle.vg_chain.specs.declared.shape.Shape.TheVariants.{Plain, Pieces, Indirect, Mixed, Bad}
use Rattle.vg_chain.specs.Memory.{Memory, memory}
use Rattle.vg_chain.specs.Walk.{Walks}
use Rattle.vg_chain.specs.Made.{made, Stands, AreOther, AreApart, IsRequest, IsLaid, GivesIts, AreTables, IsMeasured, chain_in, memory_of}
use Rattle.vg_cargo.specs.declared.entries.Entry.{Entry}
use Rattle.vg_split.specs.declared.views.Stored.{Stored}
use Rattle.vg_cargo.specs.Cargo.{CargoData, base_of}
use Rattle.vg_cargo.specs.Descriptors.{rest_word, descriptor_from}
use Rattle.vg_cargo.specs.Entries.{head_of, times, ring_of, Has, AreBack, IsWhole}
use Rattle.vg_split.specs.Rule.{stored_at, stored_of}
use Rattle.vg_split.specs.Tells.{IsIn, TellsWord, TellsDescriptor, TellsTable}
use Rattle.vg_cargo.specs.Walked.{IsAnswer, IsWalkOf}
use Rattle.vg_cargo.specs.DeviceEnds.{IsCargoOf}

pub descriptor_tells : (k size addr rest place : ℕ) (found : Descriptor) (held held' : List Entry) → TellsWord k (2 + 2 * place) addr held → TellsWord k (3 + 2 * place) rest held' → held' ≡ held → k ≡ size → found ≡ descriptor_from addr rest
    → TellsDescriptor size place found held
descriptor_tells k size addr rest place found held held' tells tells' same size_is is = λ e d has is_in at.
    (let there : IsIn d (stored_of k e) = subst (λ (m : ℕ). IsIn d (stored_of m e)) (sym size_is) is_in in
    let one = (tells e d has there).0 (ap (λ (p : ℕ). 2 + 2 * p) (sym at)) in
    let two = (tells' e d (subst (Has e) (sym same) has) there).1 (ap (λ (p : ℕ). 3 + 2 * p) (sym at)) in
    is ∙ (ap (λ (x : ℕ). descriptor_from x rest) one ∙ ap (λ (x : ℕ). descriptor_from d.addr x) two))

get_front : (table : List Descriptor) (x : Descriptor) (i : ℕ) → i < length table → slice_get (table ++ x ∷ []) i ≡ slice_get table i
get_front [] x i less = absurd (omega arith)
get_front (d ∷ table) x zero less = refl
get_front (d ∷ table) x (suc i) less = get_front table x i (omega arith)

get_last : (table : List Descriptor) (x : Descriptor) → slice_get (table ++ x ∷ []) (length table) ≡ Some x
get_last [] x = refl
get_last (d ∷ table) x = get_last table x

pub table_more : (n place : ℕ) (table : List Descriptor) (x : Descriptor) (held : List Entry) → length table ≡ place → TellsTable n place table held → TellsDescriptor n place x held → TellsTable n (place + 1) (table ++ x ∷ []) held
table_more n place table x held long tells told = λ e d has is_in less. elim (cases_lt d.place place) [
  | inl below ↦ get_front table x d.place (omega (arith, long, below)) ∙ tells e d has is_in below
  | inr past ↦ (
      let at : d.place ≡ place = omega (arith, less, past) in
      ap (slice_get (table ++ x ∷ [])) (at ∙ sym long) ∙ (get_last table x ∙ ap Some (told e d has is_in at))
      )
]

-- what stands in the table
stands_at : (table : List Descriptor) (places : List ℕ) (ring : List Descriptor) → length ring ≤ length places → AreBack ring
    → ((d : Stored) → IsIn d (stored_at places ring) → slice_get table d.place ≡ Some (descriptor_from d.addr d.rest)) → Stands table places ring
stands_at table [] [] few back tells = tt
stands_at table [] (d ∷ ring) few back tells = absurd (omega (arith, few))
stands_at table (p ∷ places) [] few back tells = tt
stands_at table (p ∷ places) (d ∷ ring) few back tells =
    (tells (record { place = p; addr = d.addr; rest = rest_word d }) (inl refl) ∙ ap Some back.0, stands_at table places ring (omega (arith, few)) back.1 (λ s is_in. tells s (inr is_in)))

in_times : (places : List ℕ) (ring : List Descriptor) (d : Stored) → IsIn d (stored_at places ring) → 0 < times d.place places
in_times [] [] d is_in = absurd is_in
in_times [] (x ∷ ring) d is_in = absurd is_in
in_times (p ∷ places) [] d is_in = absurd is_in
in_times (p ∷ places) (x ∷ ring) d (inl same) = (let one : cond {A = ℕ} (eqb p d.place) 1 0 ≡ 1 = rw (eq-eqb p d.place (ap (λ (s : Stored). s.place) same)) refl in omega (arith, one))
in_times (p ∷ places) (x ∷ ring) d (inr is_in) = (let rest = in_times places ring d is_in in omega (arith, rest))

other_at : (place : ℕ) (places : List ℕ) → times place places ≡ 0 → AreOther place places
other_at place [] away = tt
other_at place (p ∷ places) away = (λ same. (let one : cond {A = ℕ} (eqb p place) 1 0 ≡ 1 = rw (eq-eqb p place (sym same)) refl in omega (arith, away, one)), other_at place places (omega (arith, away)))

apart_at : (places : List ℕ) → ((p : ℕ) → times p places ≤ 1) → AreApart places
apart_at [] once = tt
apart_at (p ∷ places) once =
    let self : cond {A = ℕ} (eqb p p) 1 0 ≡ 1 = rw (eq-eqb p p refl) refl in
    let here = once p in
    (other_at p places (omega (arith, self, here)), apart_at places (λ q. (let one = once q in omega (arith, one))))

pub answer_is : (shape : Shape) (m : Memory) (table : List Descriptor) (head n r b : ℕ) (walked : Result Chain ChainFault)
    → ((m : Memory) (table : List Descriptor) (head : ℕ) (one other : Result Chain ChainFault) → Walks m table head one → Walks m table head other → one ≡ other)
    → GivesIts shape m table head n r b → Walks m table head walked → IsAnswer shape n r b walked
answer_is Plain m table head n r b walked law gives walks = (law m table head walked (Ok (chain_in Plain n r b)) walks gives.0, gives.1, gives.2)
answer_is (Pieces k) m table head n r b walked law gives walks = (law m table head walked (Ok (chain_in (Pieces k) n r b)) walks gives.0, gives.1, gives.2)
answer_is Indirect m table head n r b walked law gives walks = (law m table head walked (Ok (chain_in Indirect n r b)) walks gives.0, gives.1, gives.2)
answer_is Mixed m table head n r b walked law gives walks = (law m table head walked (Ok (chain_in Mixed n r b)) walks gives.0, gives.1, gives.2)
answer_is (Bad fault) m table head n r b walked law gives walks = law m table head walked (Err fault) walks gives

some_places : (table : List Descriptor) (shape : Shape) (n r b q : ℕ) (places : List ℕ) → 0 < length places → length table ≡ q → AreApart places → Stands table places (made shape n r b q places).ring
    → IsLaid shape n r b q table (get_or places 0 0) (drop 1 places) × (get_or places 0 0 ∷ drop 1 places ≡ places)
some_places table shape n r b q [] some long apart stands = absurd (omega (arith, some))
some_places table shape n r b q (p ∷ places) some long apart stands = (record { size = long; apart = apart; stands = stands }, refl)

-- The walk of the table that was read gives what the entry's shape asks.
pub chain_is : {P : Type 0} (size : ℕ) (table : List Descriptor) (held : List Entry) (e : Entry) (cargo : CargoData P) (base m r : ℕ) (tables : List ℕ) (head : ℕ) (walked : Result Chain ChainFault)
    → ((m : Memory) (table : List Descriptor) (head : ℕ) (one other : Result Chain ChainFault) → Walks m table head one → Walks m table head other → one ≡ other)
    → ((form : Form) (shape : Shape) (n r b q : ℕ) (table : List Descriptor) (head : ℕ) (others : List ℕ) → IsRequest form shape n r b q → IsLaid shape n r b q table head others → GivesIts shape (memory_of form shape n r b q (head ∷ others)) table head n r b)
    → 2 ≤ size → length table ≡ size → TellsTable size size table held → Has e held → IsWhole size e → ((p : ℕ) → times p e.places ≤ 1) → 0 < length e.places → ((p : ℕ) → 0 < times p e.places → p < size)
    → IsCargoOf e cargo → base ≡ base_of cargo.parcel.queue cargo.parcel.head → m ≡ length cargo.parcel.request → r ≡ cargo.parcel.room → IsMeasured m r base
    → AreTables Split cargo.parcel.shape (length cargo.parcel.request) cargo.parcel.room (base_of cargo.parcel.queue cargo.parcel.head) tables
    → head ≡ head_of e → Walks (memory Split base m r tables) table head walked → IsAnswer e.shape (length e.request) e.room (base_of e.queue (head_of e)) walked
chain_is size table held e cargo base m r tables head walked one_law laid_law least long tells has whole apart some below is base_is m_is r_is measured tables_are head_is walks =
    let b = base_of e.queue (head_of e) in
    let ring = ring_of size e in
    let base' : base ≡ b = base_is ∙ (ap (λ (x : Entry). base_of x.queue cargo.parcel.head) is.0 ∙ ap (base_of e.queue) is.1) in
    let m' : m ≡ length e.request = m_is ∙ ap (λ (x : Entry). length x.request) is.0 in
    let r' : r ≡ e.room = r_is ∙ ap (λ (x : Entry). x.room) is.0 in
    let t1 = subst (λ (x : Entry). AreTables Split x.shape (length x.request) x.room (base_of x.queue cargo.parcel.head) tables) is.0 tables_are in
    let t2 = subst (λ (h : ℕ). AreTables Split e.shape (length e.request) e.room (base_of e.queue h) tables) is.1 t1 in
    let tables' : tables ≡ (made e.shape (length e.request) e.room b size e.places).tables Split = sym (t2 size e.places) in
    let many : length ring ≡ length e.places = whole.needed b size e.places in
    let stands = stands_at table e.places ring (omega (arith, many)) whole.back (λ d is_in. tells e d has is_in (below d.place (in_times e.places ring d is_in))) in
    let laid = some_places table e.shape (length e.request) e.room b size e.places some long (apart_at e.places apart) stands in
    let request = measured.request in
    let room = measured.room in
    let placed = measured.base in
    let asked : IsRequest Split e.shape (length e.request) e.room b size = record { spells = tt; request = omega (arith, request, m'); room = omega (arith, room, r'); base = omega (arith, placed, base'); queue = least; count = whole.count } in
    let gives = subst (λ (ps : List ℕ). GivesIts e.shape (memory_of Split e.shape (length e.request) e.room b size ps) table (get_or e.places 0 0) (length e.request) e.room b) laid.1
    (laid_law Split e.shape (length e.request) e.room b size table (get_or e.places 0 0) (drop 1 e.places) asked laid.0) in
    let w1 = subst (λ (x : ℕ). Walks (memory Split x m r tables) table head walked) base' walks in
    let w2 = subst (λ (x : ℕ). Walks (memory Split b x r tables) table head walked) m' w1 in
    let w3 = subst (λ (x : ℕ). Walks (memory Split b (length e.request) x tables) table head walked) r' w2 in
    let w4 = subst (λ (x : List ℕ). Walks (memory Split b (length e.request) e.room x) table head walked) tables' w3 in
    let w5 = subst (λ (x : ℕ). Walks (memory_of Split e.shape (length e.request) e.room b size e.places) table x walked) head_is w4 in
    answer_is e.shape (memory_of Split e.shape (length e.request) e.room b size e.places) table (head_of e) (length e.request) e.room b walked one_law gives w5

-- A walk that answers for an entry answers for the entry's cargo.
pub walk_of_cargo : {P : Type 0} (e : Entry) (cargo : CargoData P) (walked : Result Chain ChainFault) → IsCargoOf e cargo → IsAnswer e.shape (length e.request) e.room (base_of e.queue (head_of e)) walked → IsWalkOf cargo.parcel walked
walk_of_cargo e cargo walked is answer =
    subst (λ (x : Entry). IsAnswer x.shape (length x.request) x.room (base_of x.queue cargo.parcel.head) walked) (sym is.0)
    (subst (λ (h : ℕ). IsAnswer e.shape (length e.request) e.room (base_of e.queue h) walked) (sym is.1) answer)
