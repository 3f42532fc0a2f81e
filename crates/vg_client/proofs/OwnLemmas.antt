-- A client's own entries in a history, by their numbers, and one more of them.
use Rattle.std.proofs.Common.{◌≡◌, ◌≢◌, ◌⊎◌, inl, inr, ⊎_elim, ◌+◌, ◌<◌, ◌≤◌, ◌==◌, ◌∙◌, sym, ap, refl, subst, arith, eq-eqb, ℕ, zero, suc, Bool, true, false, cond, List, [], ◌∷◌, ◌++◌, length, map, filter, nat_le, append_assoc, append-nil}
use Rattle.std.specs.List.{AllByRecursion, range_with_len}
use Rattle.std.proofs.lemmas.Bool.Decides.{nat_tests}
use Rattle.std.proofs.lemmas.List.{length-map}
use Rattle.std.proofs.lemmas.List.FromFn.{length-range_with_len}
use Rattle.vg_history.specs.Entries.{EachOnce}
use Rattle.vg_history.specs.Lists.{Has, upto}
use Rattle.vg_history.proofs.ListLemmas.{has_map, has_right, map_has}
use Rattle.vg_book.specs.Places.{HasCall}
use mathlib.Core.Logic.{dite}
use native.Mathlib.Decide.{ℕ_discrete}
use Rattle.vg_laws.proofs.Lists.{range-suc}
use Rattle.vg_client_holds.specs.declared.setup.Setup.{Setup}
use Rattle.vg_machine.specs.Entries.{Entry}
use Rattle.vg_machine.specs.Order.{by_call, call_of, client_of, of_client, placed}
use Rattle.vg_client.specs.Own.{OwnStand}

map-more : (H : List Entry) (entry : Entry) → map call_of (H ++ entry ∷ []) ≡ map call_of H ++ call_of entry ∷ []
map-more [] entry = let e : map call_of (entry ∷ []) ≡ call_of entry ∷ [] = λ i. call_of entry ∷ [] in e
map-more (first ∷ more) entry = ap (λ (rest : List ℕ). call_of first ∷ rest) (map-more more entry)

-- one entry more has the next number
pub numbers-more : (mine : List Entry) (first count : ℕ) (entry : Entry) → map call_of mine ≡ range_with_len first count → call_of entry ≡ first + count → map call_of (mine ++ entry ∷ []) ≡ range_with_len first (count + 1)
numbers-more mine first count entry numbers number =
    let next : suc count ≡ count + 1 = omega arith in
    map-more mine entry ∙ ap (λ (xs : List ℕ). xs ++ call_of entry ∷ []) numbers ∙ ap (λ (n : ℕ). range_with_len first count ++ n ∷ []) number
    ∙ range-suc first count ∙ ap (range_with_len first) next

-- entries with these numbers are as many
pub numbered-length : (mine : List Entry) (first count : ℕ) → map call_of mine ≡ range_with_len first count → length mine ≡ count
numbered-length mine first count numbers = let e : length (map call_of mine) ≡ length mine = simp length-map in sym e ∙ ap (λ (ns : List ℕ). length ns) numbers ∙ length-range_with_len first count

-- of all, and of each
pub all-more : (P : Entry → Type 0) (H : List Entry) (entry : Entry) → AllByRecursion P H → P entry → AllByRecursion P (H ++ entry ∷ [])
all-more P [] entry all here = (here, tt)
all-more P (first ∷ more) entry all here = (all.0, all-more P more entry all.1 here)

pub all-of : (P : Entry → Type 0) (xs : List Entry) → ((e : Entry) → Has xs e → P e) → AllByRecursion P xs
all-of P [] each = tt
all-of P (x ∷ xs) each = (each x (inl refl), all-of P xs (λ e h. each e (inr h)))

pub all-has : (P : Entry → Type 0) (xs : List Entry) (e : Entry) → AllByRecursion P xs → Has xs e → P e
all-has P [] e all has = absurd has
all-has P (x ∷ xs) e all (inl same) = subst P same all.0
all-has P (x ∷ xs) e all (inr has) = all-has P xs e all.1 has

pub all-map : (P Q : Entry → Type 0) (xs : List Entry) → ((e : Entry) → P e → Q e) → AllByRecursion P xs → AllByRecursion Q xs
all-map P Q [] f all = tt
all-map P Q (x ∷ xs) f all = (f x all.0, all-map P Q xs f all.1)

pub filter-in : (test : Entry → Bool) (H : List Entry) (e : Entry) → Has (filter test H) e → Has H e × (test e ≡ true)
filter-in test [] e has = absurd has
filter-in test (x ∷ xs) e has = by_test (test x) refl has (filter-in test xs e)
  where
    by_test : (b : Bool) → test x ≡ b → Has (cond b (x ∷ filter test xs) (filter test xs)) e → (Has (filter test xs) e → Has xs e × (test e ≡ true)) → Has (x ∷ xs) e × (test e ≡ true)
    by_test true is (inl same) rest = (inl same, ap test (sym same) ∙ is)
    by_test true is (inr h) rest = let r = rest h in (inr r.0, r.1)
    by_test false is h rest = let r = rest h in (inr r.0, r.1)

-- a client's entries
pub own-in : (client : ℕ) (xs : List Entry) (e : Entry) → Has (of_client client xs) e → Has xs e × (client_of e ≡ client)
own-in client [] e has = absurd has
own-in client (x ∷ xs) e has = by_test (client_of x == client) refl has (own-in client xs e)
  where
    by_test : (b : Bool) → (client_of x == client) ≡ b → Has (cond b (x ∷ of_client client xs) (of_client client xs)) e → (Has (of_client client xs) e → Has xs e × (client_of e ≡ client)) → Has (x ∷ xs) e × (client_of e ≡ client)
    by_test true is (inl same) rest = let owner : client_of x ≡ client = grind (arith, nat_tests, is) in (inl same, ap client_of (sym same) ∙ owner)
    by_test true is (inr h) rest = let r = rest h in (inr r.0, r.1)
    by_test false is h rest = let r = rest h in (inr r.0, r.1)

pub own-of : (client : ℕ) (xs : List Entry) (e : Entry) → Has xs e → client_of e ≡ client → Has (of_client client xs) e
own-of client [] e has owner = absurd has
own-of client (x ∷ xs) e (inl same) owner =
    let test : (client_of x == client) ≡ true = eq-eqb (client_of x) client (ap client_of same ∙ owner) in
    subst (λ (b : Bool). Has (cond b (x ∷ of_client client xs) (of_client client xs)) e) (sym test) (inl same)
own-of client (x ∷ xs) e (inr has) owner = by_test (client_of x == client) (own-of client xs e has owner)
  where
    by_test : (b : Bool) → Has (of_client client xs) e → Has (cond b (x ∷ of_client client xs) (of_client client xs)) e
    by_test true more = inr more
    by_test false more = more

pub of_client-append : (client : ℕ) (xs ys : List Entry) → of_client client (xs ++ ys) ≡ of_client client xs ++ of_client client ys
of_client-append client [] ys = refl
of_client-append client (x ∷ xs) ys = by_test (client_of x == client) (of_client-append client xs ys)
  where
    by_test : (b : Bool) → of_client client (xs ++ ys) ≡ of_client client xs ++ of_client client ys
        → cond b (x ∷ of_client client (xs ++ ys)) (of_client client (xs ++ ys)) ≡ cond b (x ∷ of_client client xs) (of_client client xs) ++ of_client client ys
    by_test true e = ap (λ (es : List Entry). x ∷ es) e
    by_test false e = e

-- none of these is the client's
abbrev pub IsNone : ℕ → List Entry → Type 0
IsNone client xs = (e : Entry) → Has xs e → client_of e ≢ client

own-once : (client : ℕ) (xs : List Entry) → EachOnce xs → EachOnce (of_client client xs)
own-once client [] once = tt
own-once client (x ∷ xs) once = by_test (client_of x == client) (own-once client xs once.1)
  where
    by_test : (b : Bool) → EachOnce (of_client client xs) → EachOnce (cond b (x ∷ of_client client xs) (of_client client xs))
    by_test true rest = (λ f h same. once.0 f (own-in client xs f h).0 same, rest)
    by_test false rest = rest

-- entries by rising number
abbrev IsRising : List Entry → Type 0
IsRising [] = Unit {0}
IsRising (x ∷ xs) = ((e : Entry) → Has xs e → call_of x < call_of e) × IsRising xs

placed-in : (x : Entry) (ys : List Entry) (e : Entry) → Has (placed x ys) e → (x ≡ e) ⊎ Has ys e
placed-in x [] e (inl same) = inl same
placed-in x [] e (inr none) = absurd none
placed-in x (y ∷ ys) e has = by_test (nat_le (call_of x) (call_of y)) has (placed-in x ys e)
  where
    by_test : (b : Bool) → Has (cond b (x ∷ y ∷ ys) (y ∷ placed x ys)) e → (Has (placed x ys) e → (x ≡ e) ⊎ Has ys e) → (x ≡ e) ⊎ Has (y ∷ ys) e
    by_test true (inl same) rest = inl same
    by_test true (inr h) rest = inr h
    by_test false (inl same) rest = inr (inl same)
    by_test false (inr h) rest = ⊎_elim (λ same. inl same) (λ k. inr (inr k)) (rest h)

placed-of : (x : Entry) (ys : List Entry) (e : Entry) → (x ≡ e) ⊎ Has ys e → Has (placed x ys) e
placed-of x [] e (inl same) = inl same
placed-of x [] e (inr none) = absurd none
placed-of x (y ∷ ys) e has = by_test (nat_le (call_of x) (call_of y)) has (placed-of x ys e)
  where
    by_test : (b : Bool) → (x ≡ e) ⊎ Has (y ∷ ys) e → ((x ≡ e) ⊎ Has ys e → Has (placed x ys) e) → Has (cond b (x ∷ y ∷ ys) (y ∷ placed x ys)) e
    by_test true (inl same) rest = inl same
    by_test true (inr h) rest = inr h
    by_test false (inl same) rest = inr (rest (inl same))
    by_test false (inr (inl at)) rest = inl at
    by_test false (inr (inr h)) rest = inr (rest (inr h))

placed-rising : (x : Entry) (ys : List Entry) → IsRising ys → ((e : Entry) → Has ys e → call_of e ≢ call_of x) → IsRising (placed x ys)
placed-rising x [] rising other = (λ e h. absurd h, tt)
placed-rising x (y ∷ ys) rising other = by_test (nat_le (call_of x) (call_of y)) refl (placed-rising x ys rising.1 (λ e h. other e (inr h)))
  where
    by_test : (b : Bool) → nat_le (call_of x) (call_of y) ≡ b → IsRising (placed x ys) → IsRising (cond b (x ∷ y ∷ ys) (y ∷ placed x ys))
    by_test true is rest =
        let ne = other y (inl refl) in
        let low : call_of x ≤ call_of y = grind (arith, nat_tests, is) in
        let first : call_of x < call_of y = omega (arith, low, ne) in
        (λ e h. ⊎_elim (λ (same : y ≡ e). let moved = ap call_of same in omega (arith, first, moved)) (λ (k : Has ys e). let above = rising.0 e k in omega (arith, first, above)) h, rising)
    by_test false is rest =
        let low : call_of y < call_of x = grind (arith, nat_tests, is) in
        (λ e h. ⊎_elim (λ (same : x ≡ e). let moved = ap call_of same in omega (arith, low, moved)) (λ (k : Has ys e). rising.0 e k) (placed-in x ys e h), rest)

pub by_call-in : (xs : List Entry) (e : Entry) → Has (by_call xs) e → Has xs e
by_call-in [] e has = absurd has
by_call-in (x ∷ xs) e has = ⊎_elim (λ same. inl same) (λ h. inr (by_call-in xs e h)) (placed-in x (by_call xs) e has)

pub by_call-of : (xs : List Entry) (e : Entry) → Has xs e → Has (by_call xs) e
by_call-of [] e has = absurd has
by_call-of (x ∷ xs) e (inl same) = placed-of x (by_call xs) e (inl same)
by_call-of (x ∷ xs) e (inr has) = placed-of x (by_call xs) e (inr (by_call-of xs e has))

by_call-rising : (client : ℕ) (xs : List Entry) → EachOnce xs → ((e : Entry) → Has xs e → client_of e ≡ client) → IsRising (by_call xs)
by_call-rising client [] once owned = tt
by_call-rising client (x ∷ xs) once owned =
    placed-rising x (by_call xs) (by_call-rising client xs once.1 (λ e h. owned e (inr h)))
    (λ e h same. let at = by_call-in xs e h in once.0 e at (owned x (inl refl) ∙ sym (owned e (inr at)), sym same))

-- numbers that rise
abbrev IsUp : List ℕ → Type 0
IsUp [] = Unit {0}
IsUp (x ∷ xs) = ((k : ℕ) → Has xs k → x < k) × IsUp xs

up-same : (xs ys : List ℕ) → IsUp xs → IsUp ys → ((k : ℕ) → Has xs k → Has ys k) → ((k : ℕ) → Has ys k → Has xs k) → xs ≡ ys
up-same [] [] r s there back = refl
up-same [] (y ∷ ys) r s there back = absurd (back y (inl refl))
up-same (x ∷ xs) [] r s there back = absurd (there x (inl refl))
up-same (x ∷ xs) (y ∷ ys) r s there back =
    let same : x ≡ y = ⊎_elim (λ (at : y ≡ x). sym at)
    (λ (h : Has ys x). ⊎_elim (λ (at : x ≡ y). at) (λ (k : Has xs y). let one = s.0 x h in let other = r.0 y k in absurd (omega (arith, one, other))) (back y (inl refl)))
    (there x (inl refl)) in
    let rest : xs ≡ ys = up-same xs ys r.1 s.1
    (λ e h. ⊎_elim (λ (at : y ≡ e). let above = r.0 e h in absurd (omega (arith, above, at, same))) (λ (k : Has ys e). k) (there e (inr h)))
    (λ e h. ⊎_elim (λ (at : x ≡ e). let above = s.0 e h in absurd (omega (arith, above, at, same))) (λ (k : Has xs e). k) (back e (inr h))) in
    ap (λ (z : ℕ). z ∷ xs) same ∙ ap (λ (zs : List ℕ). y ∷ zs) rest

map-up : (xs : List Entry) → IsRising xs → IsUp (map call_of xs)
map-up [] rising = tt
map-up (x ∷ xs) rising = ((λ k h. let t = map_has call_of xs k h in let above = rising.0 t.0 t.1 in let same = t.2 in omega (arith, above, same)), map-up xs rising.1)

pub range-within : (first count k : ℕ) → Has (range_with_len first count) k → (first ≤ k) × (k < first + count)
range-within first zero k has = absurd has
range-within first (suc count) k (inl same) = (omega (arith, same), omega (arith, same))
range-within first (suc count) k (inr has) = let t = range-within (first + 1) count k has in (omega (arith, t.0), omega (arith, t.1))

range-has : (first count k : ℕ) → first ≤ k → k < first + count → Has (range_with_len first count) k
range-has first zero k low high = absurd (omega (arith, low, high))
range-has first (suc count) k low high = dite (ℕ_discrete first k) (λ same. inl same) (λ other. inr (range-has (first + 1) count k (omega (arith, low, other)) (omega (arith, high))))

range-up : (first count : ℕ) → IsUp (range_with_len first count)
range-up first zero = tt
range-up first (suc count) = ((λ k h. let t = range-within (first + 1) count k h in omega (arith, t.0)), range-up (first + 1) count)

-- of numbers one after another what stands in front is smaller
pub range-split : (first count : ℕ) (xs ys : List ℕ) (k j : ℕ) → xs ++ (k ∷ ys) ≡ range_with_len first count → Has xs j → j < k
range-split first count [] ys k j are has = absurd has
range-split first zero (x ∷ xs) ys k j are has = absurd (cc are)
range-split first (suc count) (x ∷ xs) ys k j are has =
    let all : x ∷ (xs ++ (k ∷ ys)) ≡ first ∷ range_with_len (first + 1) count = are in
    let here : x ≡ first = cc all in
    let rest : xs ++ (k ∷ ys) ≡ range_with_len (first + 1) count = cc all in
    ⊎_elim (λ (at : x ≡ j). let low = (range-within (first + 1) count k (subst (λ (ns : List ℕ). Has ns k) rest (has_right xs (k ∷ ys) k (inl refl)))).0 in omega (arith, low, here, at))
    (λ (h : Has xs j). range-split (first + 1) count xs ys k j rest h) has

pub upto-range : (n : ℕ) → upto n ≡ range_with_len 1 n
upto-range zero = refl
upto-range (suc n) =
    let last : suc n ≡ 1 + n = omega arith in
    ap (λ (ns : List ℕ). ns ++ suc n ∷ []) (upto-range n) ∙ ap (λ (k : ℕ). range_with_len 1 n ++ k ∷ []) last ∙ range-suc 1 n

-- a client's entries have the numbers 1 to as many as it has drawn, where each of these numbers is one's
pub own-numbers : (client used : ℕ) (H : List Entry) → EachOnce H → ((e : Entry) → Has H e → client_of e ≡ client → (0 < call_of e) × (call_of e ≤ used)) → ((i : ℕ) → 0 < i → i ≤ used → HasCall H client i)
    → map call_of (by_call (of_client client H)) ≡ range_with_len 1 used
own-numbers client used H once within all =
    let mine : List Entry = of_client client H in
    up-same (map call_of (by_call mine)) (range_with_len 1 used) (map-up (by_call mine) (by_call-rising client mine (own-once client H once) (λ e h. (own-in client H e h).1))) (range-up 1 used)
    (λ k h. let t = map_has call_of (by_call mine) k h in
    let at = own-in client H t.0 (by_call-in mine t.0 t.1) in
    let bounds = within t.0 at.0 at.1 in
    let same = t.2 in
    range-has 1 used k (omega (arith, bounds.0, same)) (omega (arith, bounds.1, same)))
    (λ k h. let t = range-within 1 used k h in
    let c = all k (omega (arith, t.0)) (omega (arith, t.1)) in
    subst (λ (n : ℕ). Has (map call_of (by_call mine)) n) c.3 (has_map call_of (by_call mine) c.0 (by_call-of mine c.0 (own-of client H c.0 c.1 c.2))))

-- what stands, and more behind it
pub own-append : (setup : Setup) (client : ℕ) (before xs ys : List Entry) → OwnStand setup client before xs → OwnStand setup client (before ++ xs) ys → OwnStand setup client before (xs ++ ys)
own-append setup client before [] ys one other = subst (λ (es : List Entry). OwnStand setup client es ys) (append-nil before) other
own-append setup client before (x ∷ xs) ys one other =
    let moved : before ++ (x ∷ xs) ≡ (before ++ x ∷ []) ++ xs = simp append_assoc in
    (one.0, own-append setup client (before ++ x ∷ []) xs ys one.1 (subst (λ (es : List Entry). OwnStand setup client es ys) moved other))

pub own-none : (setup : Setup) (client : ℕ) (before xs : List Entry) → IsNone client xs → OwnStand setup client before xs
own-none setup client before [] none = tt
own-none setup client before (x ∷ xs) none = (λ owner. absurd (none x (inl refl) owner), own-none setup client (before ++ x ∷ []) xs (λ e h. none e (inr h)))
