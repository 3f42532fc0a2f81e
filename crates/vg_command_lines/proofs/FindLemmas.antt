-- What is found in a list.
use Rattle.std.proofs.Common.{◌≡◌, Bool, true, false, List, [], ◌∷◌, Option, Some, cond, refl, subst}
use Rattle.std.specs.List.{AllByRecursion, find}
use Rattle.vg_laws.proofs.Options.{some_is}

found_by : {X : Type 0} (P : X → Type 0) (test : X → Bool) (y x : X) (rest : Option X) (b : Bool) → test y ≡ b → P y
    → (rest ≡ Some x → (test x ≡ true) × P x) → cond b (Some y) rest ≡ Some x → (test x ≡ true) × P x
found_by P test y x rest true passes holds later is =
    let same = some_is y x is in (subst (λ z. test z ≡ true) same passes, subst P same holds)
found_by P test y x rest false fails holds later is = later is

-- What is found passes the test, and is as all of the list are.
pub found : {X : Type 0} (P : X → Type 0) (test : X → Bool) (xs : List X) (x : X) → AllByRecursion P xs → find test xs ≡ Some x → (test x ≡ true) × P x
found P test [] x all is = absurd cc
found P test (y ∷ ys) x all is = found_by P test y x (find test ys) (test y) refl all.0 (found P test ys x all.1) is
