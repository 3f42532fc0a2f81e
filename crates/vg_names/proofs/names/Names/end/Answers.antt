use Rattle.std.proofs.Common.{◌≡◌, None, ap, sym, ◌∙◌, arith}
use Rattle.vg_names.specs.Names.{place_at}
use Rattle.vg_names.proofs.NamesLemmas.{ended, ended_none, free_keeps}
use Rattle.vg_names.proofs.names.Names.end.Goals as goal

pub invariant_of-self : goal.invariant_of-self
invariant_of-self c =
    free_keeps c.args.number c.in-Some.place c.self.inside.held c.free.new.held c.self.inside.places.items c.self.invariant
    c.free.ensures.other c.free.ensures.freed

pub returns-in-Some : goal.returns-in-Some
returns-in-Some c =
    rw (← c.self.view_is)
    (ended c.args.number c.in-Some.place c.self.inside.held c.free.new.held c.self.inside.places.items c.self.invariant
    (c.in-Some.ensures ∙ ap (place_at c.args.number) c.as_slice.ensures.value) c.free.ensures.other c.free.ensures.freed)

pub returns-in_default : goal.returns-in_default
returns-in_default c =
    let none : c.place_of.result ≡ None = grind arith in
    rw (← c.self.view_is)
    (ended_none c.args.number c.self.inside.held.slots c.self.inside.places.items
    (sym (c.place_of.ensures ∙ ap (place_at c.args.number) c.as_slice.ensures.value) ∙ none))
