-- A list from which an element is taken away.
use Rattle.std.proofs.Common.{◌≡◌, ℕ, suc, ◌+◌, List, Option, Some, ◌++◌, take, drop, ap, ◌∙◌, arith}
use Rattle.vg_share.specs.Lists.{without_at}

pub removed : {X : Type 0} (xs new : List X) (i : ℕ) (found : Option ℕ) → new ≡ take i xs ++ drop (i + 1) xs → Some i ≡ found → new ≡ without_at xs found
removed xs new i found rest place =
    let one : i + 1 ≡ suc i = omega arith in
    rest ∙ ap (λ m. take i xs ++ drop m xs) one ∙ ap (without_at xs) place
