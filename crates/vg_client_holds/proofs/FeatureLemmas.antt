-- The features of a setup have no faulty bit.
use Rattle.std.proofs.Common.{◌≡◌, ℕ, Bool, true, false, not, refl, sym, subst, arith}
use Rattle.std.proofs.lemmas.Bool.{not-true}
use Rattle.vg_laws.proofs.Below.{below, below_at}
use Rattle.vg_config.specs.Features.{IsFaultless, is_faulty}
use Rattle.vg_client_holds.specs.Setup.{AreAccepted, features_without}

-- none of the 64 bits is faulty
is_good : ℕ → Bool
is_good features = below (λ n. not (is_faulty features n)) 64

good : (edid uuid blob context : Bool) → is_good (features_without edid uuid blob context) ≡ true
unfolding below is_good
good true true true true = refl
good true true true false = refl
good true true false true = refl
good true true false false = refl
good true false true true = refl
good true false true false = refl
good true false false true = refl
good true false false false = refl
good false true true true = refl
good false true true false = refl
good false true false true = refl
good false true false false = refl
good false false true true = refl
good false false true false = refl
good false false false true = refl
good false false false false = refl

none-faulty : (features : ℕ) → is_good features ≡ true → IsFaultless features
unfolding is_good
none-faulty features all = record { each = λ n within. not-true (is_faulty features n) (below_at (λ n. not (is_faulty features n)) 64 n all within) }

pub faultless : (accepted : ℕ) → AreAccepted accepted → IsFaultless accepted
faultless accepted are = subst IsFaultless (sym are.left) (none-faulty (features_without are.edid are.uuid are.blob are.context) (good are.edid are.uuid are.blob are.context))
