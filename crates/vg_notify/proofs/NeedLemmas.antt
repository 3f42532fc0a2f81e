use Rattle.std.proofs.Common.{◌≡◌, ℕ, ◌+◌, ◌-◌, ◌%◌, ◌<◌, ◌≤◌, true, false, nat_lt, sym, ap, subst, ◌∙◌, lt_of_not-le, arith}
use Rattle.std.proofs.lemmas.Bool.Decides.{nat_tests}
use mathlib.Core.Logic.{dite}
use native.Mathlib.Decide.{dec_le}
use Rattle.vg_notify.specs.Need.{calls_for}

-- how far it is from one count to another, taken of their indices
difference : (a b : ℕ) → a ≤ b → b < a + 65536 → (b % 65536 + 65536 - a % 65536) % 65536 ≡ b - a
difference a b le less = omega arith

past : (a b : ℕ) → a < b → b ≤ a + 65536 → (b % 65536 + 65535 - a % 65536) % 65536 ≡ b - a - 1
past a b more near = omega arith

short : (a b : ℕ) → b ≤ a → a < b + 65536 → (b % 65536 + 65535 - a % 65536) % 65536 ≡ b + 65535 - a
short a b le near = omega arith

less_is : (x y a b : ℕ) → x ≡ a → y ≡ b → a < b → nat_lt x y ≡ true
less_is x y a b e f less = ap (λ (k : ℕ). nat_lt k y) e ∙ (ap (λ (k : ℕ). nat_lt a k) f ∙ grind (arith, nat_tests))

not_less : (x y a b : ℕ) → x ≡ a → y ≡ b → b ≤ a → nat_lt x y ≡ false
not_less x y a b e f le = ap (λ (k : ℕ). nat_lt k y) e ∙ (ap (λ (k : ℕ). nat_lt a k) f ∙ grind (arith, nat_tests))

-- the count passes the event
pub passed : (event new old : ℕ) → old ≤ event → event < new → new ≤ old + 32768 → calls_for event new old ≡ true
passed event new old le less near = less_is _ _ (new - event - 1) (new - old) (past event new less (omega arith)) (difference old new (omega arith) (omega arith)) (omega arith)

-- the event is still to come
pub ahead : (event new old : ℕ) → old ≤ new → new ≤ old + 32768 → new ≤ event → event < new + 32768 → calls_for event new old ≡ false
ahead event new old later near le less = not_less _ _ (new + 65535 - event) (new - old) (short event new le (omega arith)) (difference old new later (omega arith)) (omega arith)

-- the event was passed before
pub behind : (event new old : ℕ) → event < old → old ≤ new → new ≤ event + 65536 → calls_for event new old ≡ false
behind event new old less later near = not_less _ _ (new - event - 1) (new - old) (past event new (omega arith) near) (difference old new later (omega arith)) (omega arith)

still : (event old : ℕ) → calls_for event old old ≡ false
still event old = not_less _ _ ((old % 65536 + 65535 - event % 65536) % 65536) (old - old) (λ i. (old % 65536 + 65535 - event % 65536) % 65536) (difference old old (omega arith) (omega arith)) (omega arith)

-- where a kick is called for, the count has moved
pub moved : (event new old : ℕ) → old ≤ new → calls_for event new old ≡ true → old < new
moved event new old later called = dite (dec_le new old) (λ back. stuck (omega arith)) (λ further. lt_of_not-le further)
  where
    stuck : new ≡ old → old < new
    stuck same = (let no : calls_for event new old ≡ false = subst (λ (k : ℕ). calls_for event k old ≡ false) (sym same) (still event old) in absurd (cc))
