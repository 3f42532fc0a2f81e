use Rattle.std.proofs.Common.{subst}
use Rattle.vg_front.specs.Fronts.{Closes, FrontData}
use Rattle.vg_front.proofs.FrontLemmas.{closes}
use Rattle.vg_front.proofs.front.Front.close.Goals as goal

pub returns : goal.returns
returns g c =
    let f = c.self.inside in
    let k = c.self.invariant in
    let whole : FrontData g.row.P.Denot g.row.T.Denot = record { control = f.control; cursor = f.cursor; control_bell = f.control_bell; cursor_bell = f.cursor_bell } in
    subst (λ o. Closes g.T.Turn.lane_of g.T.Turn.count_of o c.close-cursor.new.tokens.items c.close-control.result c.close-cursor.result) c.self.view_is
    (closes g.T.Turn.lane_of g.T.Turn.count_of whole k.0 k.1 k.2 c.are_lanes.ensures c.are_lanes-2.ensures f.spare.items c.close-control.new.tokens.items c.close-cursor.new.tokens.items k.3 c.close-control.ensures.tokens c.close-cursor.ensures.tokens c.close-control.result c.close-cursor.result c.close-control.ensures.end c.close-cursor.ensures.end)
