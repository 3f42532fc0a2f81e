use Rattle.std.specs.Prelude.{◌≡◌, ℕ, Bool, Option, Some, List, [], ◌∷◌}
use mathlib.Core.Option.{some}
use lib.ListN.{get_elem?}
use Rattle.vg_wire.specs.declared.request.Queue.{Queue}
use Rattle.vg_cargo.specs.declared.entries.Entry.{Entry}
use Rattle.vg_cargo.specs.declared.entries.Answer.{Answer}
use Rattle.vg_cargo.specs.Cargo.{CargoData}
use Rattle.vg_cargo.specs.Entries.{head_of, IsFresh, IsDone}

-- Where cargoes are between the two ends of a ring: each in a slot of the ring's table.
module _ {P : Type 0} (wanted : P → Bool) (queue : Queue) (n : ℕ) where
  abbrev pub Homes : Type 0
  Homes = List (mathlib.Core.Option.Option (Option (CargoData P)))

  -- The cargo of each entry is at home in the slot of its head.
  abbrev pub Wait : Homes → List Entry → Type 0
  Wait homes [] = Unit {0}
  Wait homes (e ∷ more) = ((cargo : CargoData P) × (get_elem? homes (head_of e) ≡ some (some (Some cargo))) × IsFresh wanted n e cargo) × Wait homes more

  abbrev pub Lie : Homes → List Answer → Type 0
  Lie homes [] = Unit {0}
  Lie homes (a ∷ more) = ((cargo : CargoData P) × (get_elem? homes (head_of a.entry) ≡ some (some (Some cargo))) × IsDone wanted a cargo) × Lie homes more
