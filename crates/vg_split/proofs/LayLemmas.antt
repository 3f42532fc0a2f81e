use Rattle.std.proofs.Common.{◌≡◌, ℕ, zero, suc, ◌+◌, ◌<◌, ◌≤◌, Option, Some, List, [], ◌∷◌, ◌++◌, length, take, get_or, slice_get, is_some, true, refl, sym, ap, subst, ◌∙◌, arith}
use Rattle.atomic_table.specs.Table.{Me}
use Rattle.vg_chain.specs.declared.descriptor.Descriptor.{Descriptor}
use Rattle.vg_split.specs.declared.views.Stored.{Stored}
use Rattle.vg_split.specs.declared.views.DriverView.{DriverView}
use Rattle.vg_split.specs.declared.views.View.{View}
use Rattle.vg_split.specs.declared.views.View.TheVariants.{Driver}
use Rattle.vg_cargo.specs.Cargo.{CargoData}
use Rattle.vg_cargo.specs.Descriptors.{rest_word, descriptor_from}
use Rattle.vg_cargo.specs.Entries.{times, uses, AreBack}
use Rattle.vg_split.specs.Rule.{stored_at, staged, places_of}
use Rattle.vg_split.specs.Plays.{driver_of, laid, laying, writing, written_by}
use Rattle.vg_split.proofs.PlaceLemmas.{times_get}

pub stored_more : (places : List ℕ) (ring : List Descriptor) (i : ℕ) (d : Descriptor) → i < length places → slice_get ring i ≡ Some d
    → take (suc i) (stored_at places ring) ≡ take i (stored_at places ring) ++ record { place = get_or places i 0; addr = d.addr; rest = rest_word d } ∷ []
stored_more [] ring i d less there = absurd (omega arith)
stored_more (p ∷ places) [] i d less there = absurd (cc)
stored_more (p ∷ places) (e ∷ ring) zero d less there =
    let same : e ≡ d = cc in
    ap (λ (x : Descriptor). record { place = p; addr = x.addr; rest = rest_word x } ∷ []) same
stored_more (p ∷ places) (e ∷ ring) (suc i) d less there = ap (λ (xs : List Stored). record { place = p; addr = e.addr; rest = rest_word e } ∷ xs) (stored_more places ring i d (omega arith) there)

-- a place that the list has once isn't among those before it
pub apart_before : (places : List ℕ) (ring : List Descriptor) (i p : ℕ) → i < length places → p ≡ get_or places i 0 → times p places ≤ 1 → times p (places_of (take i (stored_at places ring))) ≡ 0
apart_before [] ring i p less is once = absurd (omega arith)
apart_before (q ∷ places) ring zero p less is once = refl
apart_before (q ∷ places) [] (suc i) p less is once = refl
apart_before (q ∷ places) (e ∷ ring) (suc i) p less is once =
    let some : 1 ≤ times p places = subst (λ (k : ℕ). 1 ≤ times k places) (sym is) (times_get places i (omega arith)) in
    let rest = apart_before places ring i p (omega arith) is (omega arith) in
    omega (arith, some, rest, once)

pub some_there : (ring : List Descriptor) (i : ℕ) → i < length ring → (d : Descriptor) × (slice_get ring i ≡ Some d)
some_there [] i less = absurd (omega arith)
some_there (d ∷ ring) zero less = (d, refl)
some_there (d ∷ ring) (suc i) less = some_there ring i (omega arith)

pub stored_all : (places : List ℕ) (ring : List Descriptor) (n : ℕ) → length places ≤ n → take n (stored_at places ring) ≡ stored_at places ring
stored_all [] [] zero less = refl
stored_all [] [] (suc n) less = refl
stored_all [] (e ∷ ring) zero less = refl
stored_all [] (e ∷ ring) (suc n) less = refl
stored_all (p ∷ places) ring zero less = absurd (omega arith)
stored_all (p ∷ places) [] (suc n) less = refl
stored_all (p ∷ places) (e ∷ ring) (suc n) less = ap (λ (xs : List Stored). record { place = p; addr = e.addr; rest = rest_word e } ∷ xs) (stored_all places ring n (omega arith))

laying_at : (d : DriverView) (stored : List Stored) → laying (Driver (staged d (laid stored))) ≡ Driver (staged d (laid stored))
laying_at d [] = refl
laying_at d (s ∷ more) = refl

pub written_at : (d : DriverView) (stored : List Stored) → written_by (Driver (staged d (laid stored))) ≡ stored
written_at d [] = refl
written_at d (s ∷ more) = refl

pub laying_is : {P : Type 0} (me : Me (Option (CargoData P)) View) (d : DriverView) (stored : List Stored) → me ≡ (Driver (staged d (laid stored)), []) → me ≡ (laying me.0, [])
laying_is me d stored e = e ∙ sym (ap {B = Me (Option (CargoData _)) View} (λ (m : Me (Option (CargoData _)) View). (laying m.0, [])) e ∙ ap {B = Me (Option (CargoData _)) View} (λ (v : View). (v, [])) (laying_at d stored))

pub outs_are : {P : Type 0} (me : Me (Option (CargoData P)) View) (d : DriverView) (stored : List Stored) (p : ℕ) → me ≡ (Driver (staged d (laid stored)), []) → uses p d.outs ≡ 0 → uses p (driver_of me.0).outs ≡ 0
outs_are me d stored p e none_there = ap {B = ℕ} (λ (m : Me (Option (CargoData _)) View). uses p (driver_of m.0).outs) e ∙ none_there

pub written_is : {P : Type 0} (me : Me (Option (CargoData P)) View) (d : DriverView) (stored : List Stored) → me ≡ (Driver (staged d (laid stored)), []) → written_by me.0 ≡ stored
written_is me d stored e = ap {B = List Stored} (λ (m : Me (Option (CargoData _)) View). written_by m.0) e ∙ written_at d stored

laid_more : (d : DriverView) (stored : List Stored) (s : Stored) → writing (Driver (staged d (laid stored))) (written_by (Driver (staged d (laid stored))) ++ s ∷ []) ≡ Driver (staged d (laid (stored ++ s ∷ [])))
laid_more d [] s = refl
laid_more d (t ∷ more) s = refl

pub writing_is : {P : Type 0} (me after : Me (Option (CargoData P)) View) (d : DriverView) (stored : List Stored) (s : Stored) → me ≡ (Driver (staged d (laid stored)), []) → after ≡ (writing me.0 (written_by me.0 ++ s ∷ []), []) → after ≡ (Driver (staged d (laid (stored ++ s ∷ []))), [])
writing_is me after d stored s e is = is ∙ (ap {B = Me (Option (CargoData _)) View} (λ (m : Me (Option (CargoData _)) View). (writing m.0 (written_by m.0 ++ s ∷ []), [])) e ∙ ap {B = Me (Option (CargoData _)) View} (λ (v : View). (v, [])) (laid_more d stored s))

pub laid_next : {P : Type 0} (me after : Me (Option (CargoData P)) View) (d : DriverView) (places : List ℕ) (ring : List Descriptor) (at p : ℕ) (x : Descriptor)
    → me ≡ (Driver (staged d (laid (take at (stored_at places ring)))), []) → after ≡ (writing me.0 (written_by me.0 ++ record { place = p; addr = x.addr; rest = rest_word x } ∷ []), [])
    → at < length places → p ≡ get_or places at 0 → slice_get ring at ≡ Some x → after ≡ (Driver (staged d (laid (take (at + 1) (stored_at places ring)))), [])
laid_next me after d places ring at p x e is less place there =
    let one : suc at ≡ at + 1 = omega arith in
    let more : take (suc at) (stored_at places ring) ≡ take at (stored_at places ring) ++ record { place = p; addr = x.addr; rest = rest_word x } ∷ [] =
    subst (λ (k : ℕ). take (suc at) (stored_at places ring) ≡ take at (stored_at places ring) ++ record { place = k; addr = x.addr; rest = rest_word x } ∷ []) (sym place) (stored_more places ring at x less there) in
    let all : take at (stored_at places ring) ++ record { place = p; addr = x.addr; rest = rest_word x } ∷ [] ≡ take (at + 1) (stored_at places ring) = sym more ∙ ap (λ (k : ℕ). take k (stored_at places ring)) one in
    writing_is me after d (take at (stored_at places ring)) (record { place = p; addr = x.addr; rest = rest_word x }) e is ∙ ap {B = Me (Option (CargoData _)) View} (λ (xs : List Stored). (Driver (staged d (laid xs)), [])) all

pub is_there : (ring : List Descriptor) (i : ℕ) (x : Option Descriptor) → i < length ring → slice_get ring i ≡ x → is_some x ≡ true
is_there [] i x less is = absurd (omega arith)
is_there (d ∷ ring) zero x less is = ap is_some (sym is)
is_there (d ∷ ring) (suc i) x less is = is_there ring i x (omega arith) is

pub back_next : (ring : List Descriptor) (i : ℕ) (x : Descriptor) → slice_get ring i ≡ Some x → descriptor_from x.addr (rest_word x) ≡ x → AreBack (take i ring) → AreBack (take (i + 1) ring)
back_next ring i x there is back = subst (λ (k : ℕ). AreBack (take k ring)) (let one : suc i ≡ i + 1 = omega arith in one) (go ring i there back)
  where
    go : (ring : List Descriptor) (i : ℕ) → slice_get ring i ≡ Some x → AreBack (take i ring) → AreBack (take (suc i) ring)
    go [] i there back = tt
    go (d ∷ ring) zero there back = (let same : d ≡ x = cc in subst (λ (y : Descriptor). descriptor_from y.addr (rest_word y) ≡ y) (sym same) is, tt)
    go (d ∷ ring) (suc i) there back = (back.0, go ring i there back.1)

pub back_all : (ring : List Descriptor) (i : ℕ) → length ring ≤ i → AreBack (take i ring) → AreBack ring
back_all [] i less back = tt
back_all (d ∷ ring) zero less back = absurd (omega arith)
back_all (d ∷ ring) (suc i) less back = (back.0, back_all ring i (omega arith) back.1)
