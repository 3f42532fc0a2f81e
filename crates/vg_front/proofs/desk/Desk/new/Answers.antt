use Rattle.std.proofs.Common.{[], length, sym, ap, subst, arith}
use Rattle.vg_cargo.specs.DeviceEnds.{DeviceLists}
use Rattle.vg_ring.specs.Making.{IsNewDevice}
use Rattle.vg_front.specs.Lanes.{AreLanes}
use Rattle.vg_front.proofs.DeskLemmas.{desk_new}
use Rattle.vg_front.proofs.desk.Desk.new.Goals as goal

pub invariant_of-result-2 : goal.invariant_of-result-2
invariant_of-result-2 g c =
    let is = subst (λ o. IsNewDevice c.requires.end.0 c.requires.end.1 o) (sym c.end.view_is) c.requires.end.2 in
    (([], desk_new g.P.Tagged.is_wanted g.T.Turn.lane_of g.T.Turn.count_of _ c.args.first c.args.tokens.items c.requires.end.0 c.requires.end.1 is (subst (λ o. AreLanes o.queue c.args.first (length c.args.tokens.items)) (sym c.end.view_is) c.requires.lanes) c.requires.tokens c.in_ok-at_home.field-0.items c.in_ok-at_home.ensures c.in_ok-waiting.waiting.items c.in_ok-waiting.ensures.items), (let room = c.in_ok-waiting.ensures.capacity in let size = c.size.ensures in let same = ap (λ (o : DeviceLists). o.size) c.end.view_is in omega (arith, room, size, same)))
