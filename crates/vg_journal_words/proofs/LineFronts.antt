-- Fronts of a line whose parts have parts of their own, which stand in the line without brackets.
use Rattle.std.proofs.Common.{◌≡◌, List, ◌++◌, subst}
use Rattle.vg_list.specs.Front.{HasFront}
use Rattle.vg_list.proofs.FrontLemmas.{front_first, front_then}

-- A front of a part is one of the line.
pub first_of : {X : Type 0} (old new text more line : List X) → HasFront old new text → text ++ more ≡ line → HasFront old new line
first_of old new text more line has same = subst (HasFront old new) same (front_first old new text more has)

-- A part, and a front of what is behind it.
pub then_of : {X : Type 0} (old mid new text more line : List X) → mid ≡ old ++ text → HasFront mid new more → text ++ more ≡ line → HasFront old new line
then_of old mid new text more line is_added has same = subst (HasFront old new) same (front_then old mid new text more is_added has)
