-- Fronts of a text that is added in parts.
use Rattle.std.proofs.Common.{◌≡◌, List, [], ◌++◌, append_assoc, append-nil, sym, ap, ◌∙◌, refl}
use Rattle.vg_list.specs.Front.{HasFront}

-- Nothing was added.
pub front_none : {X : Type 0} (old new text : List X) → new ≡ old → HasFront old new text
front_none old new text same =
    record { front = []; rest = text; added = same ∙ sym (append-nil old); whole = refl }

-- A front of a text is one of a longer text.
pub front_first : {X : Type 0} (old new text more : List X) → HasFront old new text → HasFront old new (text ++ more)
front_first old new text more has =
    record {
      front = has.front;
      rest = has.rest ++ more;
      added = has.added;
      whole = sym (append_assoc has.front has.rest more) ∙ ap (λ ys. ys ++ more) has.whole;
    }

-- A text was added, and behind it a front of another.
pub front_then : {X : Type 0} (old mid new text more : List X) → mid ≡ old ++ text → HasFront mid new more → HasFront old new (text ++ more)
front_then old mid new text more is_added has =
    record {
      front = text ++ has.front;
      rest = has.rest;
      added = has.added ∙ ap (λ ys. ys ++ has.front) is_added ∙ append_assoc old text has.front;
      whole = append_assoc text has.front has.rest ∙ ap (λ ys. text ++ ys) has.whole;
    }

-- A part after a part: `using` them, a chain of calls that each add a part says what is left.
pub ruleset fronts = (front_none, front_first, front_then)
