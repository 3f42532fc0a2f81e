-- What jobs give.
use Rattle.std.specs.Prelude.{List, [], ◌∷◌}

-- Each result is one that the job at its place may give, and there are as many.
abbrev pub AllGive : {J D : Type 0} → (J → D → Type 0) → List J → List D → Type 0
AllGive gives [] [] = Unit {0}
AllGive gives [] (d ∷ ds) = ⊥
AllGive gives (j ∷ js) [] = ⊥
AllGive gives (j ∷ js) (d ∷ ds) = gives j d × AllGive gives js ds
