-- What is found in entries by their numbers after one was put in, written over or taken away.
use Rattle.std.proofs.Common.{◌≡◌, ◌≢◌, ℕ, Bool, true, false, cond, List, [], ◌∷◌, Some, None, sym, ap, ◌∙◌, refl, arith}
use Rattle.std.proofs.lemmas.Bool.Decides.{nat_tests}
use Rattle.std.specs.Ordering.{nat_cmp, match_ordering}
use Rattle.std.specs.declared.cmp.Ordering.{Ordering}
use Rattle.std.specs.declared.cmp.Ordering.TheVariants.{Less, Equal, Greater}
use Rattle.std.specs.Map.{lookup, remove_entry, set_value}
use Rattle.std.specs.BTreeMap.{insert_entry, is_at}

pub at_itself : (n : ℕ) → is_at (nat_cmp n) n ≡ true
at_itself n = grind (arith, nat_tests)

pub at_other : (n m : ℕ) → n ≢ m → is_at (nat_cmp n) m ≡ false
at_other n m other = grind (arith, nat_tests)

pub at_same : (n m : ℕ) → is_at (nat_cmp n) m ≡ true → n ≡ m
at_same n m same = grind (arith, nat_tests)

equal_same : (n m : ℕ) → nat_cmp n m ≡ Equal → n ≡ m
equal_same n m same = grind (arith, nat_tests)

found-by : {X : Type 0} (id : ℕ) (v : X) (e : ℕ × X) (es more : List (ℕ × X)) (o : Ordering) → nat_cmp id e.0 ≡ o → lookup (is_at (nat_cmp id)) more ≡ Some v
    → lookup (is_at (nat_cmp id)) (match_ordering o ((id, v) ∷ e ∷ es) ((e.0, v) ∷ es) (e ∷ more)) ≡ Some v
found-by id v e es more Less is rest = ap (λ b. cond b (Some v) (lookup (is_at (nat_cmp id)) (e ∷ es))) (at_itself id)
found-by id v e es more Equal is rest = let at : is_at (nat_cmp id) e.0 ≡ true = grind (arith, nat_tests) in ap (λ b. cond b (Some v) (lookup (is_at (nat_cmp id)) es)) at
found-by id v e es more Greater is rest =
    let apart : is_at (nat_cmp id) e.0 ≡ false = grind (arith, nat_tests) in
    ap (λ b. cond b (Some e.1) (lookup (is_at (nat_cmp id)) more)) apart ∙ rest

-- what was put in is found
pub insert-found : {X : Type 0} (id : ℕ) (v : X) (es : List (ℕ × X)) → lookup (is_at (nat_cmp id)) (insert_entry nat_cmp es id v) ≡ Some v
insert-found id v [] = ap (λ b. cond b (Some v) None) (at_itself id)
insert-found id v (e ∷ es) = found-by id v e es (insert_entry nat_cmp es id v) (nat_cmp id e.0) refl (insert-found id v es)

-- another number's entry stays
insert_other-by : {X : Type 0} (q id : ℕ) (r : X) (e : ℕ × X) (es more : List (ℕ × X)) (o : Ordering)
    → q ≢ id → nat_cmp id e.0 ≡ o → lookup (is_at (nat_cmp q)) more ≡ lookup (is_at (nat_cmp q)) es
    → lookup (is_at (nat_cmp q)) (match_ordering o ((id, r) ∷ e ∷ es) ((e.0, r) ∷ es) (e ∷ more)) ≡ lookup (is_at (nat_cmp q)) (e ∷ es)
insert_other-by q id r e es more Less other is rest =
    ap (λ b. cond b (Some r) (lookup (is_at (nat_cmp q)) (e ∷ es))) (at_other q id other)
insert_other-by q id r e es more Equal other is rest =
    let apart : is_at (nat_cmp q) e.0 ≡ false = at_other q e.0 (λ same. other (same ∙ sym (equal_same id e.0 is))) in
    ap (λ b. cond b (Some r) (lookup (is_at (nat_cmp q)) es)) apart
    ∙ sym (ap (λ b. cond b (Some e.1) (lookup (is_at (nat_cmp q)) es)) apart)
insert_other-by q id r e es more Greater other is rest =
    ap (λ found. cond (is_at (nat_cmp q) e.0) (Some e.1) found) rest

pub insert_other : {X : Type 0} (q id : ℕ) (r : X) → q ≢ id → (es : List (ℕ × X)) → lookup (is_at (nat_cmp q)) (insert_entry nat_cmp es id r) ≡ lookup (is_at (nat_cmp q)) es
insert_other q id r other [] = ap (λ b. cond b (Some r) None) (at_other q id other)
insert_other q id r other (e ∷ es) =
    insert_other-by q id r e es (insert_entry nat_cmp es id r) (nat_cmp id e.0) other refl (insert_other q id r other es)

remove_other-by : {X : Type 0} (q id : ℕ) (e : ℕ × X) (es more : List (ℕ × X)) (b : Bool)
    → q ≢ id → is_at (nat_cmp id) e.0 ≡ b → lookup (is_at (nat_cmp q)) more ≡ lookup (is_at (nat_cmp q)) es
    → lookup (is_at (nat_cmp q)) (cond b es (e ∷ more)) ≡ lookup (is_at (nat_cmp q)) (e ∷ es)
remove_other-by q id e es more true other is rest =
    let apart : is_at (nat_cmp q) e.0 ≡ false = at_other q e.0 (λ same. other (same ∙ sym (at_same id e.0 is))) in
    sym (ap (λ b. cond b (Some e.1) (lookup (is_at (nat_cmp q)) es)) apart)
remove_other-by q id e es more false other is rest =
    ap (λ found. cond (is_at (nat_cmp q) e.0) (Some e.1) found) rest

pub remove_other : {X : Type 0} (q id : ℕ) → q ≢ id → (es : List (ℕ × X)) → lookup (is_at (nat_cmp q)) (remove_entry (is_at (nat_cmp id)) es) ≡ lookup (is_at (nat_cmp q)) es
remove_other q id other [] = refl
remove_other q id other (e ∷ es) =
    remove_other-by q id e es (remove_entry (is_at (nat_cmp id)) es) (is_at (nat_cmp id) e.0) other refl (remove_other q id other es)

set_other-by : {X : Type 0} (q id : ℕ) (w : X) (e : ℕ × X) (es more : List (ℕ × X)) (b : Bool)
    → q ≢ id → is_at (nat_cmp id) e.0 ≡ b → lookup (is_at (nat_cmp q)) more ≡ lookup (is_at (nat_cmp q)) es
    → lookup (is_at (nat_cmp q)) (cond b ((e.0, w) ∷ es) (e ∷ more)) ≡ lookup (is_at (nat_cmp q)) (e ∷ es)
set_other-by q id w e es more true other is rest =
    let apart : is_at (nat_cmp q) e.0 ≡ false = at_other q e.0 (λ same. other (same ∙ sym (at_same id e.0 is))) in
    ap (λ b. cond b (Some w) (lookup (is_at (nat_cmp q)) es)) apart
    ∙ sym (ap (λ b. cond b (Some e.1) (lookup (is_at (nat_cmp q)) es)) apart)
set_other-by q id w e es more false other is rest =
    ap (λ found. cond (is_at (nat_cmp q) e.0) (Some e.1) found) rest

pub set_other : {X : Type 0} (q id : ℕ) (w : X) → q ≢ id → (es : List (ℕ × X)) → lookup (is_at (nat_cmp q)) (set_value (is_at (nat_cmp id)) es w) ≡ lookup (is_at (nat_cmp q)) es
set_other q id w other [] = refl
set_other q id w other (e ∷ es) =
    set_other-by q id w e es (set_value (is_at (nat_cmp id)) es w) (is_at (nat_cmp id) e.0) other refl (set_other q id w other es)

-- what was written over is found
set_itself-by : {X : Type 0} (id : ℕ) (v w : X) (e : ℕ × X) (es more : List (ℕ × X)) (b : Bool)
    → is_at (nat_cmp id) e.0 ≡ b → cond b (Some e.1) (lookup (is_at (nat_cmp id)) es) ≡ Some v
    → (lookup (is_at (nat_cmp id)) es ≡ Some v → lookup (is_at (nat_cmp id)) more ≡ Some w)
    → lookup (is_at (nat_cmp id)) (cond b ((e.0, w) ∷ es) (e ∷ more)) ≡ Some w
set_itself-by id v w e es more true is found rest = ap (λ b. cond b (Some w) (lookup (is_at (nat_cmp id)) es)) is
set_itself-by id v w e es more false is found rest =
    ap (λ b. cond b (Some e.1) (lookup (is_at (nat_cmp id)) more)) is ∙ rest found

pub set_itself : {X : Type 0} (id : ℕ) (v w : X) (es : List (ℕ × X)) → lookup (is_at (nat_cmp id)) es ≡ Some v → lookup (is_at (nat_cmp id)) (set_value (is_at (nat_cmp id)) es w) ≡ Some w
set_itself id v w [] found = cc
set_itself id v w (e ∷ es) found =
    set_itself-by id v w e es (set_value (is_at (nat_cmp id)) es w) (is_at (nat_cmp id) e.0) refl found (set_itself id v w es)

-- what isn't there can't be taken away
remove_none-by : {X : Type 0} (id : ℕ) (e : ℕ × X) (es : List (ℕ × X)) (b : Bool)
    → cond b (Some e.1) (lookup (is_at (nat_cmp id)) es) ≡ None
    → (lookup (is_at (nat_cmp id)) es ≡ None → remove_entry (is_at (nat_cmp id)) es ≡ es)
    → cond b es (e ∷ remove_entry (is_at (nat_cmp id)) es) ≡ e ∷ es
remove_none-by id e es true none rest = cc
remove_none-by id e es false none rest = ap (λ more. e ∷ more) (rest none)

pub remove_none : {X : Type 0} (id : ℕ) (es : List (ℕ × X)) → lookup (is_at (nat_cmp id)) es ≡ None → remove_entry (is_at (nat_cmp id)) es ≡ es
remove_none id [] none = refl
remove_none id (e ∷ es) none = remove_none-by id e es (is_at (nat_cmp id) e.0) none (remove_none id es)
