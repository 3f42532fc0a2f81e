use Rattle.std.proofs.Common.{◌++◌, ◌∷◌, [], None, List, Option, ℕ, refl, ap, ◌∙◌}
use Rattle.vg_names.proofs.NamesLemmas.{kept_alike, kept_none, none_more}
use Rattle.vg_names.proofs.names.Names.make_none.Goals as goal

pub invariant_of-self : goal.invariant_of-self
invariant_of-self c =
    kept_alike c.self.inside.held.slots c.self.inside.held.slots c.self.inside.places.items c.reserve.new.self.items refl
    c.reserve.ensures.items c.self.invariant

pub invariant_of-self-2 : goal.invariant_of-self-2
invariant_of-self-2 c =
    let pushed = rw c.unwrap.ensures at c.push.ensures.items in
    kept_none c.self.inside.held.slots c.self.inside.places.items c.push.new.self.items
    (pushed ∙ ap (λ (xs : List (Option ℕ)). xs ++ None ∷ []) c.reserve.ensures.items) c.self.invariant

pub returns-clause-ok : goal.returns-clause-ok
returns-clause-ok c =
    let pushed = rw c.unwrap.ensures at c.push.ensures.items in
    rw (← c.self.view_is)
    (none_more c.self.inside.held.slots c.self.inside.places.items c.push.new.self.items
    (pushed ∙ ap (λ (xs : List (Option ℕ)). xs ++ None ∷ []) c.reserve.ensures.items))
