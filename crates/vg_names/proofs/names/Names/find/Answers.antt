use Rattle.std.proofs.Common.{◌≡◌, None, ap, sym, ◌∙◌}
use Rattle.vg_names.specs.Names.{place_at}
use Rattle.vg_names.proofs.NamesLemmas.{find_none, find_some}
use Rattle.vg_names.proofs.names.Names.find.Goals as goal

pub returns-in_err-place : goal.returns-in_err-place
returns-in_err-place c =
    let none : place_at c.args.number c.self.inside.places.items ≡ None =
    sym (c.in_err-place.ensures ∙ ap (place_at c.args.number) c.as_slice.ensures.value)
    in
    rw (c.from_residual.ensures, ← c.self.view_is)
    (sym (find_none c.args.number c.self.inside.held.slots c.self.inside.places.items none))

pub returns : goal.returns
returns c =
    rw (← c.self.view_is)
    (c.kept.ensures
    ∙ sym (find_some c.args.number c.in_ok-place.place c.self.inside.held.slots c.self.inside.places.items
    (sym (c.in_ok-place.ensures ∙ ap (place_at c.args.number) c.as_slice.ensures.value))))
