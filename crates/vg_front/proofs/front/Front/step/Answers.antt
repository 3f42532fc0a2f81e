use Rattle.std.proofs.Common.{◌∙◌, refl, ap, subst}
use Rattle.vg_front.specs.Desks.{HasNone, Takes}
use Rattle.vg_front.specs.Fronts.{FrontData}
use Rattle.vg_front.proofs.front.Front.step.Goals as goal

pub returns-in-Some-clause-steps : goal.returns-in-Some-clause-steps
returns-in-Some-clause-steps g c =
    let none : HasNone c.self.inside.control c.fetch.new.self = c.if-fetch.ensures in
    let none_too : HasNone c.self.inside.cursor c.fetch-else-fetch.new.self = c.if-fetch-2.ensures in
    let takes : Takes g.P.Tagged.is_wanted g.T.Turn.lane_of g.T.Turn.count_of c.fetch.new.self c.in-Some.token c.in-Some.right c.in-Some.cargo c.take.new.self = c.in-Some.ensures in
    let P : FrontData g.row.P.Denot g.row.T.Denot → Type 0 = λ f. HasNone f.control c.fetch.new.self × HasNone f.cursor c.fetch-else-fetch.new.self in
    (record { control = c.fetch.new.self; cursor = c.fetch-else-fetch.new.self; control_bell = c.self.inside.control_bell; cursor_bell = c.self.inside.cursor_bell }, subst P c.self.view_is (none, none_too), (takes, refl), λ running. takes.next (none.same.3 ∙ (ap (λ (f : FrontData g.row.P.Denot g.row.T.Denot). f.control.halted) c.self.view_is ∙ running)))

pub returns-in-Some-take-clause-steps : goal.returns-in-Some-take-clause-steps
returns-in-Some-take-clause-steps g c =
    let none : HasNone c.self.inside.control c.fetch.new.self = c.if-fetch.ensures in
    let none_too : HasNone c.self.inside.cursor c.fetch-else-fetch.new.self = c.if-fetch-2.ensures in
    let takes : Takes g.P.Tagged.is_wanted g.T.Turn.lane_of g.T.Turn.count_of c.fetch-else-fetch.new.self c.in-Some-take.token c.in-Some-take.right c.in-Some-take.cargo c.take-2.new.self = c.in-Some-take.ensures in
    let P : FrontData g.row.P.Denot g.row.T.Denot → Type 0 = λ f. HasNone f.control c.fetch.new.self × HasNone f.cursor c.fetch-else-fetch.new.self in
    (record { control = c.fetch.new.self; cursor = c.fetch-else-fetch.new.self; control_bell = c.self.inside.control_bell; cursor_bell = c.self.inside.cursor_bell }, subst P c.self.view_is (none, none_too), (c.in_default.ensures.0, takes, c.in_default.ensures.1), λ running. takes.next (none_too.same.3 ∙ (c.self.invariant.2 ∙ (ap (λ (f : FrontData g.row.P.Denot g.row.T.Denot). f.control.halted) c.self.view_is ∙ running))))
