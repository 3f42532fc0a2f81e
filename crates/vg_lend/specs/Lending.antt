-- What a machine that adds up does, and what it has lent.
use Rattle.std.specs.Prelude.{◌≡◌, ℕ, ◌+◌, ◌%◌, ◌^◌, List, [], ◌∷◌, Option, Some, None, refl}
use Rattle.vg_wire.specs.declared.request.Queue.TheVariants.{Control}
use Rattle.vg_chain.specs.declared.shape.Shape.TheVariants.{Plain}
use Rattle.vg_chain.specs.declared.asked.Asked.{Asked}
use Rattle.vg_chain.specs.Asks.{asked}
use Rattle.vg_lend.specs.declared.waiter.Request.{Request}
use Rattle.vg_lend.specs.declared.waiter.Sums.{Sums}

abbrev pub plus : Sums → ℕ → Sums
plus s n = record { entries = s.entries + 1; total = (s.total + n) % 2 ^ 64 }

abbrev pub those : Option Request → List Request
those (Some q) = q ∷ []
those None = []

-- There are no bytes: a request asks for nothing, and a reply is written as the one number that it is.
abbrev pub asks_of : Request → Asked
asks_of q = asked Control [] 0 Plain

pub adds_one : (s : Sums) (n : ℕ) → (plus s n).entries ≡ s.entries + 1
adds_one s n = refl
