-- The first condition that holds decides.
use Rattle.std.proofs.Common.{◌≡◌, zero, suc, Bool, true, false, if◌then◌else◌, List, [], ◌∷◌, ◌++◌, Some, None, refl, ap, ◌∙◌, arith}
use Rattle.std.specs.List.{All}
use Rattle.vg_refusals.specs.Refusals.{refusal_of}

pub none-holds : {R : Type 0} (refusals : List (Bool × R)) → All (λ refusal. refusal.0 ≡ false) refusals → refusal_of refusals ≡ None
none-holds [] apart = refl
none-holds ((holds, code) ∷ more) apart =
    ap (λ b. if b then Some code else refusal_of more) (apart zero (holds, code) (omega arith))
    ∙ none-holds more (λ k d within. apart (suc k) d (omega arith))

pub first-holds : {R : Type 0} (before more : List (Bool × R)) (code : R) → All (λ refusal. refusal.0 ≡ false) before → refusal_of (before ++ (true, code) ∷ more) ≡ Some code
first-holds [] more code apart = refl
first-holds ((holds, other) ∷ before) more code apart =
    ap (λ b. if b then Some other else refusal_of (before ++ (true, code) ∷ more)) (apart zero (holds, other) (omega arith))
    ∙ first-holds before more code (λ k d within. apart (suc k) d (omega arith))
