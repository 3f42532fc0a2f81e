use Rattle.std.proofs.Common.{◌≡◌, ◌-◌, ◌⊎◌, true, Some, slice_set, sym, ap, subst, arith}
use Rattle.vg_front.specs.Desks.{DeskData, Finishes}
use Rattle.vg_front.proofs.DeskLemmas.{back_high, back_low, desk_finished_at, finishes, size_same}
use Rattle.vg_front.proofs.desk.Desk.finish.Goals as goal

pub overflow_sub-lane : goal.overflow_sub-lane
overflow_sub-lane g c =
    let d = c.self.inside in
    let k = c.self.invariant.0 in
    let low = back_low g.P.Tagged.is_wanted g.T.Turn.lane_of g.T.Turn.count_of d.end d.first d.homes.items d.waiting.items d.halted k.0 k.1 c.args.right c.take_in.new.self c.take_in.ensures in
    let lane = c.tag-tag.ensures.0 in
    omega (arith, low, lane)

pub index_mut-requires : goal.index_mut-requires
index_mut-requires g c =
    let d = c.self.inside in
    let k = c.self.invariant.0 in
    let high = back_high g.P.Tagged.is_wanted g.T.Turn.lane_of g.T.Turn.count_of d.end d.first d.homes.items d.waiting.items d.halted k.0 k.1 c.args.right c.take_in.new.self c.take_in.ensures in
    let ok = d.homes.ok in
    let lane = c.tag-tag.ensures.0 in
    let at : c.tag-tag.result.lane - d.first ≡ c.args.right.entry.lane - d.first = ap (λ l. l - d.first) lane in
    omega (arith, high, at, ok)

pub invariant_of-self : goal.invariant_of-self
invariant_of-self g c =
    let d = c.self.inside in
    let k = c.self.invariant.0 in
    let turn = subst (λ o. (o.halted ≡ true) ⊎ (g.T.Turn.count_of c.args.token ≡ c.args.right.entry.ordinal)) (sym c.self.view_is) c.requires.turn in
    let kept = desk_finished_at g.P.Tagged.is_wanted g.T.Turn.lane_of g.T.Turn.count_of d.end d.first d.homes.items d.waiting.items d.halted k.0 k.1 c.args.right c.take_in.new.self c.take_in.ensures c.args.token c.args.len c.args.cargo c.requires.lane turn c.complete.new.self c.head-head.result c.head-head.ensures c.complete.ensures c.tag-tag.result.lane c.tag-tag.ensures.0 in
    let size = size_same g.P.Tagged.is_wanted g.T.Turn.lane_of g.T.Turn.count_of d.end d.first d.homes.items d.waiting.items d.halted k.0 k.1 c.args.right c.take_in.new.self c.take_in.ensures c.args.token c.args.len c.args.cargo c.requires.lane turn c.complete.new.self c.head-head.result c.head-head.ensures c.complete.ensures c.tag-tag.result.lane c.tag-tag.ensures.0 in
    ((k.0, kept), (let big = c.self.invariant.1 in omega (arith, big, size)))

pub returns : goal.returns
returns g c =
    let d = c.self.inside in
    let k = c.self.invariant.0 in
    let turn = subst (λ o. (o.halted ≡ true) ⊎ (g.T.Turn.count_of c.args.token ≡ c.args.right.entry.ordinal)) (sym c.self.view_is) c.requires.turn in
    let done = finishes g.P.Tagged.is_wanted g.T.Turn.lane_of g.T.Turn.count_of d.end d.first d.homes.items d.waiting.items d.halted k.0 k.1 c.args.right c.take_in.new.self c.take_in.ensures c.args.token c.args.len c.args.cargo c.requires.lane turn c.complete.new.self c.head-head.result c.head-head.ensures c.complete.ensures c.tag-tag.result.lane c.tag-tag.ensures.0 in
    let new : DeskData g.row.P.Denot g.row.T.Denot = record { lists = c.complete.new.self; first = d.first; homes = slice_set d.homes.items (c.tag-tag.result.lane - d.first) (Some c.args.token); waiting = d.waiting.items; halted = d.halted } in
    subst (λ o. Finishes o c.args.token c.args.right c.args.len c.args.cargo new) c.self.view_is done
