-- A history and one entry more.
use Rattle.std.proofs.Common.{◌≡◌, ◌≢◌, ◌≤◌, ◌<◌, ◌+◌, ◌==◌, ℕ, Bool, true, false, cond, nat_le, List, [], ◌∷◌, ◌++◌, map, filter, max, refl, ap, subst, ◌∙◌, arith, eq-eqb, ne_eqb, append_assoc, append-nil}
use Rattle.std.specs.List.{AllByRecursion, count_by, list_any}
use Rattle.std.proofs.lemmas.Bool.{or_from, or_parts}
use Rattle.std.proofs.lemmas.List.{map-append}
use Rattle.std.proofs.lemmas.List.Elements.{filter-append}
use Rattle.std.proofs.lemmas.List.Sums.{sum_by-append}
use Rattle.vg_call_numbers.specs.Taken as taken
use Rattle.vg_call_numbers.specs.Taken.{by_number}
use Rattle.vg_client_holds.specs.declared.setup.Setup.{Setup}
use Rattle.vg_client_holds.specs.Holds.{first_holds}
use Rattle.vg_history.proofs.HistoryLemmas.{holds_append, updated_other}
use Rattle.vg_history.specs.History as history
use Rattle.vg_machine.specs.Entries.{Entry}
use Rattle.vg_machine.specs.Order.{AreInOrder, IsInOrder, by_call, call_of, client_of, holds_of, is_leave, of_client, placed}
use Rattle.vg_machine.specs.Replay.{display}
use Rattle.vg_check.specs.Checked.{greatest}

-- ---- counts and filters

pub counted-more : (p : Entry → Bool) (H : List Entry) (entry : Entry) → count_by p (H ++ entry ∷ []) ≡ count_by p H + cond (p entry) 1 0
counted-more p H entry = let e = sum_by-append (λ (x : Entry). cond (p x) 1 0) H (entry ∷ []) in omega (arith, e)

pub counted-yes : (p : Entry → Bool) (H : List Entry) (entry : Entry) → p entry ≡ true → count_by p (H ++ entry ∷ []) ≡ count_by p H + 1
counted-yes p H entry is = counted-more p H entry ∙ ap (λ (b : Bool). count_by p H + cond b 1 0) is

pub counted-no : (p : Entry → Bool) (H : List Entry) (entry : Entry) → p entry ≡ false → count_by p (H ++ entry ∷ []) ≡ count_by p H
counted-no p H entry is = counted-more p H entry ∙ ap (λ (b : Bool). count_by p H + cond b 1 0) is ∙ omega arith

pub filter-yes : (p : Entry → Bool) (H : List Entry) (entry : Entry) → p entry ≡ true → filter p (H ++ entry ∷ []) ≡ filter p H ++ entry ∷ []
filter-yes p H entry is = filter-append p H (entry ∷ []) ∙ ap (λ (b : Bool). filter p H ++ cond b (entry ∷ []) []) is

pub filter-no : (p : Entry → Bool) (H : List Entry) (entry : Entry) → p entry ≡ false → filter p (H ++ entry ∷ []) ≡ filter p H
filter-no p H entry is = filter-append p H (entry ∷ []) ∙ ap (λ (b : Bool). filter p H ++ cond b (entry ∷ []) []) is ∙ append-nil (filter p H)

-- ---- a client's entries

pub own-more : (client : ℕ) (H : List Entry) (entry : Entry) → client_of entry ≡ client → of_client client (H ++ entry ∷ []) ≡ of_client client H ++ entry ∷ []
own-more client H entry is = filter-yes (λ e. client_of e == client) H entry (eq-eqb (client_of entry) client is)

pub own-other : (client : ℕ) (H : List Entry) (entry : Entry) → client_of entry ≢ client → of_client client (H ++ entry ∷ []) ≡ of_client client H
own-other client H entry is = filter-no (λ e. client_of e == client) H entry (ne_eqb (client_of entry) client is)

pub map-more : (H : List Entry) (entry : Entry) → map call_of (H ++ entry ∷ []) ≡ map call_of H ++ call_of entry ∷ []
map-more H entry = map-append call_of H (entry ∷ [])

-- ---- by numbers

placed-map : (entry : Entry) (H : List Entry) → map call_of (placed entry H) ≡ taken.placed (call_of entry) (map call_of H)
placed-map entry [] = refl
placed-map entry (next ∷ more) = by_test (nat_le (call_of entry) (call_of next)) (placed-map entry more)
  where
    by_test : (b : Bool) → map call_of (placed entry more) ≡ taken.placed (call_of entry) (map call_of more)
        → map call_of (cond b (entry ∷ next ∷ more) (next ∷ placed entry more)) ≡ cond b (call_of entry ∷ call_of next ∷ map call_of more) (call_of next ∷ taken.placed (call_of entry) (map call_of more))
    by_test true e = refl
    by_test false e = ap (λ (rest : List ℕ). call_of next ∷ rest) e

pub map-by_call : (H : List Entry) → map call_of (by_call H) ≡ by_number (map call_of H)
map-by_call [] = refl
map-by_call (entry ∷ more) = placed-map entry (by_call more) ∙ ap (taken.placed (call_of entry)) (map-by_call more)

-- ---- of all

pub all-map : (P : ℕ → Type 0) (H : List Entry) → AllByRecursion P (map call_of H) → AllByRecursion (λ e. P (call_of e)) H
all-map P [] all = tt
all-map P (entry ∷ more) all = (all.0, all-map P more all.1)

pub map-all : (P : ℕ → Type 0) (H : List Entry) → AllByRecursion (λ e. P (call_of e)) H → AllByRecursion P (map call_of H)
map-all P [] all = tt
map-all P (entry ∷ more) all = (all.0, map-all P more all.1)

pub none-leaves : (H : List Entry) → list_any is_leave H ≡ false → AllByRecursion (λ e. is_leave e ≡ false) H
none-leaves [] none = tt
none-leaves (entry ∷ more) none = let parts = or_parts (is_leave entry) (list_any is_leave more) none in (parts.0, none-leaves more parts.1)

pub leaves-none : (H : List Entry) → AllByRecursion (λ e. is_leave e ≡ false) H → list_any is_leave H ≡ false
leaves-none [] all = refl
leaves-none (entry ∷ more) all = or_from (is_leave entry) (list_any is_leave more) all.0 (leaves-none more all.1)

-- ---- the greatest of numbers

pub all-below : (n : ℕ) (ns : List ℕ) → greatest ns < n → AllByRecursion (λ m. m < n) ns
all-below n [] low = tt
all-below n (m ∷ more) low = (omega (arith, low), all-below n more (omega (arith, low)))

pub below-all : (n : ℕ) (ns : List ℕ) → 1 ≤ n → AllByRecursion (λ m. m < n) ns → greatest ns < n
below-all n [] some all = some
below-all n (m ∷ more) some all = let here = all.0 in let rest = below-all n more some all.1 in omega (arith, here, rest)

pub greatest-more : (ns : List ℕ) (n : ℕ) → greatest (ns ++ n ∷ []) ≡ max n (greatest ns)
greatest-more [] n = refl
greatest-more (m ∷ more) n = let rest = greatest-more more n in omega (arith, rest)

-- ---- the display, and what a client holds

pub holds-more : (setup : Setup) (client : ℕ) (H : List Entry) (entry : Entry) → holds_of setup client (H ++ entry ∷ []) ≡ history.updated display client (holds_of setup client H) entry
holds-more setup client H entry = holds_append display client (first_holds setup client) H (entry ∷ [])

pub holds-other : (setup : Setup) (client : ℕ) (H : List Entry) (entry : Entry) → client_of entry ≢ client → holds_of setup client (H ++ entry ∷ []) ≡ holds_of setup client H
holds-other setup client H entry other = holds-more setup client H entry ∙ updated_other display client (holds_of setup client H) entry other

-- ---- order

pub order-more : (before H : List Entry) (entry : Entry) → AreInOrder before H → IsInOrder (before ++ H) entry → AreInOrder before (H ++ entry ∷ [])
order-more before [] entry order here = (subst (λ (es : List Entry). IsInOrder es entry) (append-nil before) here, tt)
order-more before (first ∷ more) entry order here =
    let moved : before ++ (first ∷ more) ≡ (before ++ first ∷ []) ++ more = simp append_assoc in
    (order.0, order-more (before ++ first ∷ []) more entry order.1 (subst (λ (es : List Entry). IsInOrder es entry) moved here))
