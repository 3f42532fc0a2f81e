-- Entries of which no two have the same number, and what is found in lists after a change.
use Rattle.std.proofs.Common.{◌≡◌, ◌≢◌, ◌⊎◌, inl, inr, ℕ, zero, suc, Bool, true, false, cond, List, [], ◌∷◌, map, slice_get, slice_set, Some, None, sym, ap, ◌∙◌, refl, arith}
use Rattle.std.proofs.lemmas.Bool.Decides.{nat_tests}
use Rattle.std.specs.Ordering.{nat_cmp, match_ordering}
use Rattle.std.specs.declared.cmp.Ordering.{Ordering}
use Rattle.std.specs.declared.cmp.Ordering.TheVariants.{Less, Equal, Greater}
use Rattle.std.specs.Map.{lookup, remove_entry, set_value}
use Rattle.std.specs.BTreeMap.{insert_entry, is_at}
use Rattle.vg_device.proofs.MapLemmas.{at_itself, at_same, insert_other, remove_other, set_other}

-- No two entries have the same number.
abbrev pub Once : {X : Type 0} → List (ℕ × X) → Type 0
Once [] = Unit {0}
Once (e ∷ es) = (lookup (is_at (nat_cmp e.0)) es ≡ None) × Once es

-- ---- one is put in

apart-greater : (n m : ℕ) → nat_cmp n m ≡ Greater → is_at (nat_cmp n) m ≡ false
apart-greater n m is = grind (arith, nat_tests)

same-equal : (n m : ℕ) → nat_cmp n m ≡ Equal → is_at (nat_cmp n) m ≡ true
same-equal n m is = grind (arith, nat_tests)

-- what isn't the first isn't at its number
not-first : {X : Type 0} (id : ℕ) (e : ℕ × X) (es : List (ℕ × X)) (b : Bool) → is_at (nat_cmp id) e.0 ≡ b → cond b (Some e.1) (lookup (is_at (nat_cmp id)) es) ≡ None → (is_at (nat_cmp id) e.0 ≡ false) × (lookup (is_at (nat_cmp id)) es ≡ None)
not-first id e es true is none = cc
not-first id e es false is none = (is, none)

apart-first : (id n : ℕ) → is_at (nat_cmp id) n ≡ false → n ≢ id
apart-first id n is = λ same. clash (sym is ∙ ap (is_at (nat_cmp id)) same ∙ at_itself id)
  where
    clash : false ≡ true → ⊥
    clash eq = cc

once-insert-by : {X : Type 0} (id : ℕ) (r : X) (e : ℕ × X) (es more : List (ℕ × X)) (o : Ordering) → lookup (is_at (nat_cmp id)) (e ∷ es) ≡ None → Once (e ∷ es)
    → lookup (is_at (nat_cmp e.0)) more ≡ None → Once more → Once (match_ordering o ((id, r) ∷ e ∷ es) ((e.0, r) ∷ es) (e ∷ more))
once-insert-by id r e es more Less none once here rest = (none, once)
once-insert-by id r e es more Equal none once here rest = (once.0, once.1)
once-insert-by id r e es more Greater none once here rest = (here, rest)

pub once-insert : {X : Type 0} (id : ℕ) (r : X) (es : List (ℕ × X)) → lookup (is_at (nat_cmp id)) es ≡ None → Once es → Once (insert_entry nat_cmp es id r)
once-insert id r [] none once = (refl, tt)
once-insert id r (e ∷ es) none once =
    let parts = not-first id e es (is_at (nat_cmp id) e.0) refl none in
    once-insert-by id r e es (insert_entry nat_cmp es id r) (nat_cmp id e.0) none once
    (insert_other e.0 id r (apart-first id e.0 parts.0) es ∙ once.0) (once-insert id r es parts.1 once.1)

-- ---- one is taken away

once-remove-by : {X : Type 0} (id : ℕ) (e : ℕ × X) (es more : List (ℕ × X)) (b : Bool) → Once (e ∷ es) → (b ≡ false → lookup (is_at (nat_cmp e.0)) more ≡ None) → Once more → Once (cond b es (e ∷ more))
once-remove-by id e es more true once here rest = once.1
once-remove-by id e es more false once here rest = (here refl, rest)

pub once-remove : {X : Type 0} (id : ℕ) (es : List (ℕ × X)) → Once es → Once (remove_entry (is_at (nat_cmp id)) es)
once-remove id [] once = tt
once-remove id (e ∷ es) once =
    once-remove-by id e es (remove_entry (is_at (nat_cmp id)) es) (is_at (nat_cmp id) e.0) once
    (λ apart. remove_other e.0 id (apart-first id e.0 apart) es ∙ once.0) (once-remove id es once.1)

removed-by : {X : Type 0} (id : ℕ) (e : ℕ × X) (es more : List (ℕ × X)) (b : Bool) → is_at (nat_cmp id) e.0 ≡ b → lookup (is_at (nat_cmp e.0)) es ≡ None → lookup (is_at (nat_cmp id)) more ≡ None
    → lookup (is_at (nat_cmp id)) (cond b es (e ∷ more)) ≡ None
removed-by id e es more true is none rest = ap (λ n. lookup (is_at (nat_cmp n)) es) (at_same id e.0 is) ∙ none
removed-by id e es more false is none rest = ap (λ b. cond b (Some e.1) (lookup (is_at (nat_cmp id)) more)) is ∙ rest

pub removed : {X : Type 0} (id : ℕ) (es : List (ℕ × X)) → Once es → lookup (is_at (nat_cmp id)) (remove_entry (is_at (nat_cmp id)) es) ≡ None
removed id [] once = refl
removed id (e ∷ es) once = removed-by id e es (remove_entry (is_at (nat_cmp id)) es) (is_at (nat_cmp id) e.0) refl once.0 (removed id es once.1)

-- ---- one is written over

once-set-by : {X : Type 0} (id : ℕ) (w : X) (e : ℕ × X) (es more : List (ℕ × X)) (b : Bool) → Once (e ∷ es) → (b ≡ false → lookup (is_at (nat_cmp e.0)) more ≡ None) → Once more → Once (cond b ((e.0, w) ∷ es) (e ∷ more))
once-set-by id w e es more true once here rest = (once.0, once.1)
once-set-by id w e es more false once here rest = (here refl, rest)

pub once-set : {X : Type 0} (id : ℕ) (w : X) (es : List (ℕ × X)) → Once es → Once (set_value (is_at (nat_cmp id)) es w)
once-set id w [] once = tt
once-set id w (e ∷ es) once =
    once-set-by id w e es (set_value (is_at (nat_cmp id)) es w) (is_at (nat_cmp id) e.0) once
    (λ apart. set_other e.0 id w (apart-first id e.0 apart) es ∙ once.0) (once-set id w es once.1)

-- ---- places of lists

pub set-found : {X : Type 0} (xs : List X) (n : ℕ) (v : X) (k : ℕ) (x : X) → slice_get (slice_set xs n v) k ≡ Some x → ((k ≡ n) × (x ≡ v)) ⊎ ((k ≢ n) × (slice_get xs k ≡ Some x))
set-found [] n v k x is = cc
set-found (y ∷ xs) zero v zero x is = inl (refl, cc)
set-found (y ∷ xs) zero v (suc k) x is = inr (λ same. absurd (omega (arith, same)), is)
set-found (y ∷ xs) (suc n) v zero x is = inr (λ same. absurd (omega (arith, same)), is)
set-found (y ∷ xs) (suc n) v (suc k) x is =
    elim (set-found xs n v k x is) [
      | inl both ↦ inl (ap suc both.0, both.1)
      | inr other ↦ inr (λ same. other.0 (omega (arith, same)), other.1)
    ]

pub map-found : {X Y : Type 0} (f : X → Y) (xs : List X) (k : ℕ) (y : Y) → slice_get (map f xs) k ≡ Some y → (x : X) × (slice_get xs k ≡ Some x) × (f x ≡ y)
map-found f [] k y is = cc
map-found f (x ∷ xs) zero y is = (x, refl, cc)
map-found f (x ∷ xs) (suc k) y is = map-found f xs k y is
