-- Tokens that have run nothing, and one more.
use Rattle.std.proofs.Common.{◌≡◌, ℕ, ◌+◌, List, [], ◌∷◌, ◌++◌, length, arith}
use Rattle.vg_front.specs.Desks.{AreNew}
use Rattle.vg_front_tests.specs.declared.rig.Token.{Token}
use Rattle.vg_front_tests.specs.Held.{count_in, lane_in}

pub new_more : (first : ℕ) (tokens : List Token) (token : Token) → AreNew lane_in count_in first tokens → token.lane ≡ first + length tokens → token.count ≡ 0 → AreNew lane_in count_in first (tokens ++ token ∷ [])
new_more first [] token are lane count = (omega (arith, lane), count, tt)
new_more first (other ∷ tokens) token are lane count = (are.0, are.1, new_more (first + 1) tokens token are.2 (omega (arith, lane)) count)
