-- How many of a list pass a test, after one more, and without the first that passes another.
use Rattle.std.proofs.Common.{◌≡◌, ◌≤◌, ◌<◌, ℕ, suc, ◌+◌, Bool, true, false, ◌||◌, cond, List, [], ◌∷◌, ◌++◌, length, get_or, take, drop, Option, Some, None, refl, ap, sym, subst, ◌∙◌, arith}
use Rattle.std.specs.Prelude.{nat_lt, count_by}
use Rattle.std.specs.List.{All, list_any, position_or_len}
use Rattle.std.proofs.lemmas.Bool.Decides.{nat_tests}
use Rattle.std.proofs.lemmas.List.Elements.{All-append, All-take, All-drop}
use Rattle.std.proofs.lemmas.List.Sums.{fails_before_first, get_or-le-sum_by, passes_at_first, sum_by-cons, sum_by-le, sum_by-remove, sum_by_push}
use Rattle.vg_share.specs.Lists.{without_at, without_first}
use Rattle.vg_linked.specs.Linked.{one_if}

pub count-more : {X : Type 0} (p : X → Bool) (xs : List X) (x : X) → count_by p (xs ++ x ∷ []) ≡ count_by p xs + one_if (p x)
count-more {X} p xs x = sum_by_push (λ (y : X). cond (p y) 1 0) xs x

pub count-yes : {X : Type 0} (p : X → Bool) (xs : List X) (x : X) → p x ≡ true → count_by p (xs ++ x ∷ []) ≡ count_by p xs + 1
count-yes p xs x is = count-more p xs x ∙ ap (λ b. count_by p xs + one_if b) is

pub count-no : {X : Type 0} (p : X → Bool) (xs : List X) (x : X) → p x ≡ false → count_by p (xs ++ x ∷ []) ≡ count_by p xs
count-no p xs x is = count-more p xs x ∙ ap (λ b. count_by p xs + one_if b) is ∙ omega arith

-- where none passes there is none
none-passes : {X : Type 0} (p : X → Bool) (xs : List X) → length xs ≤ position_or_len p xs → count_by p xs ≡ 0
none-passes {X} p xs past =
    let each : All (λ (x : X). cond (p x) 1 0 ≤ 0) xs = λ k d within.
    subst (λ b. cond b 1 0 ≤ 0) (sym (fails_before_first p xs k d (omega (arith, within, past)))) (omega arith)
    in
    omega (arith, sum_by-le (λ (x : X). cond (p x) 1 0) 0 xs each)

-- what is taken away was counted, where it passes
without-by : {X : Type 0} (p q : X → Bool) (xs : List X) (d : X) (b : Bool) → nat_lt (position_or_len p xs) (length xs) ≡ b
    → (b ≡ true → p (get_or xs (position_or_len p xs) d) ≡ true → q (get_or xs (position_or_len p xs) d) ≡ false)
    → count_by q (without_at xs (cond b (Some (position_or_len p xs)) None)) ≡ count_by q xs
without-by {X} p q xs d true is other =
    let inside : position_or_len p xs < length xs = grind (arith, nat_tests) in
    let none = ap {B = ℕ} (λ b. cond b 1 0) (other refl (passes_at_first p xs d inside)) in
    omega (arith, sum_by-remove (λ (x : X). cond (q x) 1 0) xs (position_or_len p xs) d inside, none)
without-by p q xs d false is other = refl

pub count-without-other : {X : Type 0} (p q : X → Bool) (xs : List X) (d : X) → ((x : X) → p x ≡ true → q x ≡ false) → count_by q (without_first p xs) ≡ count_by q xs
count-without-other p q xs d other =
    without-by p q xs d (nat_lt (position_or_len p xs) (length xs)) refl (λ is passes. other (get_or xs (position_or_len p xs) d) passes)

same-by : {X : Type 0} (p : X → Bool) (xs : List X) (d : X) (b : Bool) → nat_lt (position_or_len p xs) (length xs) ≡ b → 1 ≤ count_by p xs
    → count_by p (without_at xs (cond b (Some (position_or_len p xs)) None)) + 1 ≡ count_by p xs
same-by {X} p xs d true is some =
    let inside : position_or_len p xs < length xs = grind (arith, nat_tests) in
    let one = ap {B = ℕ} (λ b. cond b 1 0) (passes_at_first p xs d inside) in
    omega (arith, sum_by-remove (λ (x : X). cond (p x) 1 0) xs (position_or_len p xs) d inside, one)
same-by p xs d false is some =
    let past : length xs ≤ position_or_len p xs = grind (arith, nat_tests) in
    absurd (omega (arith, some, none-passes p xs past))

pub count-without-same : {X : Type 0} (p : X → Bool) (xs : List X) (d : X) → 1 ≤ count_by p xs → count_by p (without_first p xs) + 1 ≡ count_by p xs
count-without-same p xs d some = same-by p xs d (nat_lt (position_or_len p xs) (length xs)) refl some

all-without-by : {X : Type 0} (P : X → Type 0) (xs : List X) (found : Option ℕ) → All P xs → All P (without_at xs found)
all-without-by P xs (Some i) all = All-append P (take i xs) (drop (suc i) xs) (All-take P i xs all) (All-drop P (suc i) xs all)
all-without-by P xs None all = all

-- what holds of all holds of those that stay
pub all-without : {X : Type 0} (P : X → Type 0) (p : X → Bool) (xs : List X) → All P xs → All P (without_first p xs)
all-without P p xs all = all-without-by P xs _ all

-- where a test counts none, none passes
pub none-counted : {X : Type 0} (p : X → Bool) (xs : List X) → count_by p xs ≡ 0 → All (λ x. p x ≡ false) xs
none-counted {X} p xs none = λ k d within. by (p (get_or xs k d)) (subst (λ n. cond (p (get_or xs k d)) 1 0 ≤ n) none (get_or-le-sum_by (λ (x : X). cond (p x) 1 0) xs k d within))
  where
    by : (b : Bool) → cond b 1 0 ≤ 0 → b ≡ false
    by true low = absurd (omega (arith, low))
    by false low = refl

-- what is among them is counted
some-by : {X : Type 0} (p : X → Bool) (x : X) (xs : List X) (b : Bool) → p x ≡ b → (b || list_any p xs) ≡ true → (list_any p xs ≡ true → 1 ≤ count_by p xs) → 1 ≤ count_by p (x ∷ xs)
some-by {X} p x xs true is any rest = let one : cond (p x) 1 0 ≡ 1 = ap {B = ℕ} (λ b. cond b 1 0) is in omega (arith, sum_by-cons (λ (y : X). cond (p y) 1 0) x xs, one)
some-by {X} p x xs false is any rest = omega (arith, sum_by-cons (λ (y : X). cond (p y) 1 0) x xs, rest any)

pub some-counted : {X : Type 0} (p : X → Bool) (xs : List X) → list_any p xs ≡ true → 1 ≤ count_by p xs
some-counted p [] any = cc
some-counted p (x ∷ xs) any = some-by p x xs (p x) refl any (some-counted p xs)
