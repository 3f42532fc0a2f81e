-- Entries whose values are each told so: what is looked up in them, and how they change.
use Rattle.std.proofs.Common.{◌≡◌, ℕ, Bool, true, false, cond, List, [], ◌∷◌, Option, Some, refl, ap}
use Rattle.std.specs.Option.{option_map}
use Rattle.std.specs.Ordering.{nat_cmp, match_ordering}
use Rattle.std.specs.declared.cmp.Ordering.{Ordering}
use Rattle.std.specs.declared.cmp.Ordering.TheVariants.{Less, Equal, Greater}
use Rattle.std.specs.Map.{keys_of, lookup, remove_entry, set_value}
use Rattle.std.specs.BTreeMap.{insert_entry}
use Rattle.vg_resource.specs.Resource.{on_values}

pub keys-mapped : {X Y : Type 0} (f : X → Y) (es : List (ℕ × X)) → keys_of (on_values f es) ≡ keys_of es
keys-mapped f [] = refl
keys-mapped f (e ∷ es) = ap (λ l. e.0 ∷ l) (keys-mapped f es)

mapped-by : {X Y : Type 0} (f : X → Y) (b : Bool) (x : X) (one : Option Y) (other : Option X) → one ≡ option_map f other → cond b (Some (f x)) one ≡ option_map f (cond b (Some x) other)
mapped-by f true x one other is = refl
mapped-by f false x one other is = is

pub lookup-mapped : {X Y : Type 0} (f : X → Y) (test : ℕ → Bool) (es : List (ℕ × X)) → lookup test (on_values f es) ≡ option_map f (lookup test es)
lookup-mapped f test [] = refl
lookup-mapped f test (e ∷ es) = mapped-by f (test e.0) e.1 (lookup test (on_values f es)) (lookup test es) (lookup-mapped f test es)

inserted-by : {X Y : Type 0} (f : X → Y) (o : Ordering) (k : ℕ) (v : X) (e : ℕ × X) (es more : List (ℕ × X)) (more' : List (ℕ × Y)) → on_values f more ≡ more'
    → on_values f (match_ordering o ((k, v) ∷ e ∷ es) ((e.0, v) ∷ es) (e ∷ more)) ≡ match_ordering o ((k, f v) ∷ (e.0, f e.1) ∷ on_values f es) ((e.0, f v) ∷ on_values f es) ((e.0, f e.1) ∷ more')
inserted-by f Less k v e es more more' is = refl
inserted-by f Equal k v e es more more' is = refl
inserted-by f Greater k v e es more more' is = ap (λ l. (e.0, f e.1) ∷ l) is

pub insert-mapped : {X Y : Type 0} (f : X → Y) (es : List (ℕ × X)) (k : ℕ) (v : X) → on_values f (insert_entry nat_cmp es k v) ≡ insert_entry nat_cmp (on_values f es) k (f v)
insert-mapped f [] k v = refl
insert-mapped f (e ∷ es) k v = inserted-by f (nat_cmp k e.0) k v e es (insert_entry nat_cmp es k v) (insert_entry nat_cmp (on_values f es) k (f v)) (insert-mapped f es k v)

removed-by : {X Y : Type 0} (f : X → Y) (b : Bool) (e : ℕ × X) (es more : List (ℕ × X)) (more' : List (ℕ × Y)) → on_values f more ≡ more' → on_values f (cond b es (e ∷ more)) ≡ cond b (on_values f es) ((e.0, f e.1) ∷ more')
removed-by f true e es more more' is = refl
removed-by f false e es more more' is = ap (λ l. (e.0, f e.1) ∷ l) is

pub remove-mapped : {X Y : Type 0} (f : X → Y) (test : ℕ → Bool) (es : List (ℕ × X)) → on_values f (remove_entry test es) ≡ remove_entry test (on_values f es)
remove-mapped f test [] = refl
remove-mapped f test (e ∷ es) = removed-by f (test e.0) e es (remove_entry test es) (remove_entry test (on_values f es)) (remove-mapped f test es)

set-by : {X Y : Type 0} (f : X → Y) (b : Bool) (w : X) (e : ℕ × X) (es more : List (ℕ × X)) (more' : List (ℕ × Y)) → on_values f more ≡ more'
    → on_values f (cond b ((e.0, w) ∷ es) (e ∷ more)) ≡ cond b ((e.0, f w) ∷ on_values f es) ((e.0, f e.1) ∷ more')
set-by f true w e es more more' is = refl
set-by f false w e es more more' is = ap (λ l. (e.0, f e.1) ∷ l) is

pub set-mapped : {X Y : Type 0} (f : X → Y) (test : ℕ → Bool) (es : List (ℕ × X)) (w : X) → on_values f (set_value test es w) ≡ set_value test (on_values f es) (f w)
set-mapped f test [] w = refl
set-mapped f test (e ∷ es) w = set-by f (test e.0) w e es (set_value test es w) (set_value test (on_values f es) (f w)) (set-mapped f test es w)
