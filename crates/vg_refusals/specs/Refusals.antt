use Rattle.std.specs.Prelude.{Bool, List, [], ◌∷◌, if◌then◌else◌, Option, Some, None, Result, Ok, Err}

-- Refusals are tried in the order of their list: the first whose condition holds decides.
abbrev pub refusal_of : {R : Type 0} → List (Bool × R) → Option R
refusal_of [] = None
refusal_of ((holds, refusal) ∷ more) = if holds then Some refusal else refusal_of more

-- What is refused stays as it was.
abbrev pub unless_refused : {R S : Type 0} → Option R → S → S → S × Result Unit R
unless_refused (Some refusal) old new = (old, Err refusal)
unless_refused None old new = (new, Ok tt)
