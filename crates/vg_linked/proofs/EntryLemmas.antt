-- What is found in entries by their numbers, and that these rise.
use Rattle.std.proofs.Common.{◌≡◌, ◌≢◌, ◌≤◌, ◌<◌, ℕ, Bool, true, false, cond, List, [], ◌∷◌, Some, None, refl, ap, sym, ◌∙◌, arith}
use Rattle.std.specs.Ordering.{nat_cmp, match_ordering}
use Rattle.std.specs.List.{AllByRecursion}
use Rattle.std.specs.declared.cmp.Ordering.{Ordering}
use Rattle.std.specs.declared.cmp.Ordering.TheVariants.{Less, Equal, Greater}
use Rattle.std.specs.Map.{lookup, remove_entry, set_value}
use Rattle.std.specs.BTreeMap.{insert_entry, is_at}
use Rattle.std.proofs.lemmas.Bool.Decides.{nat_tests}
use Rattle.vg_device.proofs.MapLemmas.{at_other, at_same}
use Rattle.vg_linked.specs.Rising.{AreRising, IsBelow}

-- ---- what is found

-- a number that is none of theirs isn't found
pub none-found : {X : Type 0} (id : ℕ) (es : List (ℕ × X)) → AllByRecursion (λ (e : ℕ × X). e.0 ≢ id) es → lookup (is_at (nat_cmp id)) es ≡ None
none-found id [] apart = refl
none-found id (e ∷ es) apart = ap (λ b. cond b (Some e.1) (lookup (is_at (nat_cmp id)) es)) (at_other id e.0 (λ same. apart.0 (sym same))) ∙ none-found id es apart.1

-- ---- for each of a list

pub each-weaker : {X : Type 0} (P Q : X → Type 0) → ((x : X) → P x → Q x) → (xs : List X) → AllByRecursion P xs → AllByRecursion Q xs
each-weaker P Q weaker [] all = tt
each-weaker P Q weaker (x ∷ xs) all = (weaker x all.0, each-weaker P Q weaker xs all.1)

each-insert-by : {X : Type 0} (P : ℕ → Type 0) (id : ℕ) (v : X) (e : ℕ × X) (es more : List (ℕ × X)) (o : Ordering) → P id → P e.0
    → AllByRecursion (λ (f : ℕ × X). P f.0) es → AllByRecursion (λ (f : ℕ × X). P f.0) more
    → AllByRecursion (λ (f : ℕ × X). P f.0) (match_ordering o ((id, v) ∷ e ∷ es) ((e.0, v) ∷ es) (e ∷ more))
each-insert-by P id v e es more Less new head tail rest = (new, (head, tail))
each-insert-by P id v e es more Equal new head tail rest = (head, tail)
each-insert-by P id v e es more Greater new head tail rest = (head, rest)

pub each-insert : {X : Type 0} (P : ℕ → Type 0) (id : ℕ) (v : X) (es : List (ℕ × X)) → P id → AllByRecursion (λ (f : ℕ × X). P f.0) es
    → AllByRecursion (λ (f : ℕ × X). P f.0) (insert_entry nat_cmp es id v)
each-insert P id v [] new all = (new, tt)
each-insert P id v (e ∷ es) new all =
    each-insert-by P id v e es (insert_entry nat_cmp es id v) (nat_cmp id e.0) new all.0 all.1 (each-insert P id v es new all.1)

each-remove-by : {X : Type 0} (P : ℕ × X → Type 0) (e : ℕ × X) (es more : List (ℕ × X)) (b : Bool) → P e → AllByRecursion P es → AllByRecursion P more
    → AllByRecursion P (cond b es (e ∷ more))
each-remove-by P e es more true head tail rest = tail
each-remove-by P e es more false head tail rest = (head, rest)

pub each-remove : {X : Type 0} (P : ℕ × X → Type 0) (test : ℕ → Bool) (es : List (ℕ × X)) → AllByRecursion P es → AllByRecursion P (remove_entry test es)
each-remove P test [] all = all
each-remove P test (e ∷ es) all = each-remove-by P e es (remove_entry test es) (test e.0) all.0 all.1 (each-remove P test es all.1)

each-set-by : {X : Type 0} (P : ℕ → Type 0) (w : X) (e : ℕ × X) (es more : List (ℕ × X)) (b : Bool) → P e.0
    → AllByRecursion (λ (f : ℕ × X). P f.0) es → AllByRecursion (λ (f : ℕ × X). P f.0) more
    → AllByRecursion (λ (f : ℕ × X). P f.0) (cond b ((e.0, w) ∷ es) (e ∷ more))
each-set-by P w e es more true head tail rest = (head, tail)
each-set-by P w e es more false head tail rest = (head, rest)

pub each-set : {X : Type 0} (P : ℕ → Type 0) (test : ℕ → Bool) (w : X) (es : List (ℕ × X)) → AllByRecursion (λ (f : ℕ × X). P f.0) es
    → AllByRecursion (λ (f : ℕ × X). P f.0) (set_value test es w)
each-set P test w [] all = all
each-set P test w (e ∷ es) all = each-set-by P w e es (set_value test es w) (test e.0) all.0 all.1 (each-set P test w es all.1)

-- ---- numbers rise

above : {X : Type 0} (low n : ℕ) (es : List (ℕ × X)) → low ≤ n → IsBelow n es → IsBelow low es
above {X} low n es under all = each-weaker (λ (f : ℕ × X). n < f.0) (λ (f : ℕ × X). low < f.0) (λ f below. omega (arith, under, below)) es all

rising-insert-by : {X : Type 0} (id : ℕ) (v : X) (e : ℕ × X) (es more : List (ℕ × X)) (o : Ordering) → nat_cmp id e.0 ≡ o
    → IsBelow e.0 es → AreRising es → (e.0 < id → IsBelow e.0 more) → AreRising more
    → AreRising (match_ordering o ((id, v) ∷ e ∷ es) ((e.0, v) ∷ es) (e ∷ more))
rising-insert-by id v e es more Less is head tail below rest =
    let lower : id < e.0 = grind (arith, nat_tests) in
    ((lower, above id e.0 es (omega (arith, lower)) head), (head, tail))
rising-insert-by id v e es more Equal is head tail below rest = (head, tail)
rising-insert-by id v e es more Greater is head tail below rest =
    let higher : e.0 < id = grind (arith, nat_tests) in
    (below higher, rest)

pub rising-insert : {X : Type 0} (id : ℕ) (v : X) (es : List (ℕ × X)) → AreRising es → AreRising (insert_entry nat_cmp es id v)
rising-insert id v [] rising = (tt, tt)
rising-insert id v (e ∷ es) rising =
    rising-insert-by id v e es (insert_entry nat_cmp es id v) (nat_cmp id e.0) refl rising.0 rising.1
    (λ higher. each-insert (λ n. e.0 < n) id v es higher rising.0) (rising-insert id v es rising.1)

rising-remove-by : {X : Type 0} (e : ℕ × X) (es more : List (ℕ × X)) (b : Bool) → AreRising es → IsBelow e.0 more → AreRising more → AreRising (cond b es (e ∷ more))
rising-remove-by e es more true tail below rest = tail
rising-remove-by e es more false tail below rest = (below, rest)

pub rising-remove : {X : Type 0} (test : ℕ → Bool) (es : List (ℕ × X)) → AreRising es → AreRising (remove_entry test es)
rising-remove test [] rising = rising
rising-remove {X} test (e ∷ es) rising =
    rising-remove-by e es (remove_entry test es) (test e.0) rising.1 (each-remove (λ (f : ℕ × X). e.0 < f.0) test es rising.0) (rising-remove test es rising.1)

rising-set-by : {X : Type 0} (w : X) (e : ℕ × X) (es more : List (ℕ × X)) (b : Bool) → IsBelow e.0 es → AreRising es → IsBelow e.0 more → AreRising more
    → AreRising (cond b ((e.0, w) ∷ es) (e ∷ more))
rising-set-by w e es more true head tail below rest = (head, tail)
rising-set-by w e es more false head tail below rest = (below, rest)

pub rising-set : {X : Type 0} (test : ℕ → Bool) (w : X) (es : List (ℕ × X)) → AreRising es → AreRising (set_value test es w)
rising-set test w [] rising = rising
rising-set test w (e ∷ es) rising =
    rising-set-by w e es (set_value test es w) (test e.0) rising.0 rising.1 (each-set (λ n. e.0 < n) test w es rising.0) (rising-set test w es rising.1)

-- what is taken away isn't there any more
gone-by : {X : Type 0} (id : ℕ) (e : ℕ × X) (es more : List (ℕ × X)) (b : Bool) → is_at (nat_cmp id) e.0 ≡ b → IsBelow e.0 es → lookup (is_at (nat_cmp id)) more ≡ None
    → lookup (is_at (nat_cmp id)) (cond b es (e ∷ more)) ≡ None
gone-by {X} id e es more true is below rest =
    let same = at_same id e.0 is in
    none-found id es (each-weaker (λ (f : ℕ × X). e.0 < f.0) (λ (f : ℕ × X). f.0 ≢ id) (λ f higher equal. omega (arith, higher, equal, same)) es below)
gone-by id e es more false is below rest = ap (λ b. cond b (Some e.1) (lookup (is_at (nat_cmp id)) more)) is ∙ rest

pub remove-gone : {X : Type 0} (id : ℕ) (es : List (ℕ × X)) → AreRising es → lookup (is_at (nat_cmp id)) (remove_entry (is_at (nat_cmp id)) es) ≡ None
remove-gone id [] rising = refl
remove-gone id (e ∷ es) rising = gone-by id e es (remove_entry (is_at (nat_cmp id)) es) (is_at (nat_cmp id) e.0) refl rising.0 (remove-gone id es rising.1)
