-- What becomes of a context that was found, and is written to in place.
use Rattle.std.proofs.Common.{◌≡◌, ◌==◌, ℕ, Bool, List, [], ◌∷◌, Some, true, false, not, cond, Less, Err, Ok, refl, sym, ap, ◌∙◌, arith}
use Rattle.std.proofs.lemmas.Bool.Decides.{nat_tests}
use Rattle.std.specs.List.{AllByRecursion, filter, list_any}
use Rattle.std.specs.List.Sorted.{IsStrictlySortedBy}
use Rattle.std.specs.Set.{remove_key}
use Rattle.std.specs.Map.{set_value}
use Rattle.std.specs.BTreeMap.{is_at}
use Rattle.std.specs.Ordering.{nat_cmp}
use Rattle.vg_wire.specs.Kinds.{ERR_INVALID_RESOURCE_ID}
use Rattle.vg_context.specs.Contexts.{Context, context_at, detach, without_resource}

pub not-attached : (id resource : ℕ) (contexts : List (ℕ × Context)) (context : Context) → context_at id contexts ≡ Some context
    → list_any (is_at (nat_cmp resource)) context.resources ≡ false → (contexts, Err ERR_INVALID_RESOURCE_ID) ≡ detach id resource contexts
unfolding detach
not-attached id resource contexts context found absent = rw (found, absent) refl

pub is-detached : (id resource : ℕ) (contexts : List (ℕ × Context)) (context : Context) → context_at id contexts ≡ Some context
    → list_any (is_at (nat_cmp resource)) context.resources ≡ true
    → (set_value (is_at (nat_cmp id)) contexts (without_resource resource context), Ok tt) ≡ detach id resource contexts
unfolding detach
is-detached id resource contexts context found there = rw (found, there) refl

abbrev others : ℕ → List ℕ → List ℕ
others n xs = filter (λ one. not (one == n)) xs

same-number : (n x : ℕ) → is_at (nat_cmp n) x ≡ true → (x == n) ≡ true
same-number n x here = grind (arith, nat_tests)

other-number : (n x : ℕ) → is_at (nat_cmp n) x ≡ false → (x == n) ≡ false
other-number n x apart = grind (arith, nat_tests)

later-number : (n x y : ℕ) → is_at (nat_cmp n) x ≡ true → nat_cmp x y ≡ Less → (y == n) ≡ false
later-number n x y here less = grind (arith, nat_tests)

-- behind a number, in a list that rises, it doesn't stand again
none-after : (n x : ℕ) (xs : List ℕ) → is_at (nat_cmp n) x ≡ true → AllByRecursion (λ y. nat_cmp x y ≡ Less) xs → others n xs ≡ xs
none-after n x [] here more = refl
none-after n x (y ∷ ys) here more =
    ap (λ b. cond (not b) (y ∷ others n ys) (others n ys)) (later-number n x y here more.0)
    ∙ ap (λ rest. y ∷ rest) (none-after n x ys here more.1)

removed-by : (n x : ℕ) (xs : List ℕ) (b : Bool) → is_at (nat_cmp n) x ≡ b → AllByRecursion (λ y. nat_cmp x y ≡ Less) xs
    → remove_key (is_at (nat_cmp n)) xs ≡ others n xs → cond b xs (x ∷ remove_key (is_at (nat_cmp n)) xs) ≡ others n (x ∷ xs)
removed-by n x xs true here more rest =
    sym (none-after n x xs here more) ∙ sym (ap (λ b. cond (not b) (x ∷ others n xs) (others n xs)) (same-number n x here))
removed-by n x xs false apart more rest =
    ap (λ rest. x ∷ rest) rest ∙ sym (ap (λ b. cond (not b) (x ∷ others n xs) (others n xs)) (other-number n x apart))

-- the one place of a number in a list that rises
pub removed-is : (n : ℕ) (xs : List ℕ) → IsStrictlySortedBy nat_cmp xs → remove_key (is_at (nat_cmp n)) xs ≡ others n xs
unfolding IsStrictlySortedBy
removed-is n [] rising = refl
removed-is n (x ∷ xs) rising = removed-by n x xs (is_at (nat_cmp n) x) refl rising.0 (removed-is n xs rising.1)
