use Rattle.std.proofs.Common.{◌∙◌, ◌++◌, ℕ, length, sym, ap, subst, arith, slice_set, ◌-◌}
use Rattle.vg_cargo.specs.DeviceEnds.{DeviceLists}
use Rattle.vg_front.specs.Desks.{DeskData, Takes}
use Rattle.vg_front.proofs.DeskLemmas.{desk_taken_at, first_here, has_taken, lanes_all, ready_here, taken_high, taken_low, taken_token}
use Rattle.vg_front.proofs.WaitLemmas.{is_there}
use Rattle.vg_front.proofs.desk.Desk.take.Goals as goal

pub first_ready-requires : goal.first_ready-requires
first_ready-requires g c =
    let d = c.self.inside in
    let k = c.self.invariant.0 in
    lanes_all g.P.Tagged.is_wanted g.T.Turn.lane_of g.T.Turn.count_of d.end d.first d.homes.items d.waiting.items d.halted k.0 k.1 c.as_slice.result.now c.as_slice-2.result.now c.as_slice.ensures.value c.as_slice-2.ensures.value

pub overflow_sub-lane : goal.overflow_sub-lane
overflow_sub-lane g c =
    let d = c.self.inside in
    let k = c.self.invariant.0 in
    let r = ready_here g.P.Tagged.is_wanted g.T.Turn.lane_of g.T.Turn.count_of d.end d.first d.homes.items d.waiting.items d.halted k.0 k.1 c.in_ok-place.place c.remove-head.result c.as_slice.result.now c.as_slice-2.result.now c.as_slice.ensures.value c.as_slice-2.ensures.value c.remove-head.ensures.value c.in_ok-place.ensures in
    taken_low g.P.Tagged.is_wanted g.T.Turn.lane_of g.T.Turn.count_of d.end d.first d.homes.items d.waiting.items d.halted k.0 k.1 c.in_ok-place.place c.remove-head.result r c.tag.result.lane c.tag.ensures.tag.0

pub index_mut-requires : goal.index_mut-requires
index_mut-requires g c =
    let d = c.self.inside in
    let k = c.self.invariant.0 in
    let r = ready_here g.P.Tagged.is_wanted g.T.Turn.lane_of g.T.Turn.count_of d.end d.first d.homes.items d.waiting.items d.halted k.0 k.1 c.in_ok-place.place c.remove-head.result c.as_slice.result.now c.as_slice-2.result.now c.as_slice.ensures.value c.as_slice-2.ensures.value c.remove-head.ensures.value c.in_ok-place.ensures in
    let high = taken_high g.P.Tagged.is_wanted g.T.Turn.lane_of g.T.Turn.count_of d.end d.first d.homes.items d.waiting.items d.halted k.0 k.1 c.in_ok-place.place c.remove-head.result r c.tag.result.lane c.tag.ensures.tag.0 in
    let long = ap {B = ℕ} length c.as_slice.ensures.value in
    let len = c.as_slice.ensures.len in
    omega (arith, high, long, len)

pub unwrap-token-requires : goal.unwrap-token-requires
unwrap-token-requires g c =
    let d = c.self.inside in
    let k = c.self.invariant.0 in
    let r = ready_here g.P.Tagged.is_wanted g.T.Turn.lane_of g.T.Turn.count_of d.end d.first d.homes.items d.waiting.items d.halted k.0 k.1 c.in_ok-place.place c.remove-head.result c.as_slice.result.now c.as_slice-2.result.now c.as_slice.ensures.value c.as_slice-2.ensures.value c.remove-head.ensures.value c.in_ok-place.ensures in
    is_there c.take.result r.token (c.take.ensures.value ∙ taken_token g.P.Tagged.is_wanted g.T.Turn.lane_of g.T.Turn.count_of d.end d.first d.homes.items d.waiting.items d.halted k.0 k.1 c.in_ok-place.place c.remove-head.result r c.tag.result.lane c.tag.ensures.tag.0 c.index_mut.result.now c.index_mut.ensures.value)

pub lend-right-requires-clause-held : goal.lend-right-requires-clause-held
lend-right-requires-clause-held g c =
    let d = c.self.inside in
    let k = c.self.invariant.0 in
    let r = ready_here g.P.Tagged.is_wanted g.T.Turn.lane_of g.T.Turn.count_of d.end d.first d.homes.items d.waiting.items d.halted k.0 k.1 c.in_ok-place.place c.remove-head.result c.as_slice.result.now c.as_slice-2.result.now c.as_slice.ensures.value c.as_slice-2.ensures.value c.remove-head.ensures.value c.in_ok-place.ensures in
    (r.split.entry, (r.has, sym r.split.is.1))

pub lend-right-requires-clause-unlent : goal.lend-right-requires-clause-unlent
lend-right-requires-clause-unlent g c =
    let d = c.self.inside in
    let k = c.self.invariant.0 in
    let r = ready_here g.P.Tagged.is_wanted g.T.Turn.lane_of g.T.Turn.count_of d.end d.first d.homes.items d.waiting.items d.halted k.0 k.1 c.in_ok-place.place c.remove-head.result c.as_slice.result.now c.as_slice-2.result.now c.as_slice.ensures.value c.as_slice-2.ensures.value c.remove-head.ensures.value c.in_ok-place.ensures in
    r.unlent

pub invariant_of-self : goal.invariant_of-self
invariant_of-self g c =
    let d = c.self.inside in
    let k = c.self.invariant.0 in
    let r = ready_here g.P.Tagged.is_wanted g.T.Turn.lane_of g.T.Turn.count_of d.end d.first d.homes.items d.waiting.items d.halted k.0 k.1 c.in_ok-place.place c.remove-head.result c.as_slice.result.now c.as_slice-2.result.now c.as_slice.ensures.value c.as_slice-2.ensures.value c.remove-head.ensures.value c.in_ok-place.ensures in
    let entry = c.lend-right.ensures.only r.split.entry (r.has, sym r.split.is.1) in (
      (r.split.front ++ r.split.back, desk_taken_at g.P.Tagged.is_wanted g.T.Turn.lane_of g.T.Turn.count_of d.end d.first d.homes.items d.waiting.items d.halted k.0 k.1 c.in_ok-place.place c.remove-head.result r c.tag.result.lane c.tag.ensures.tag.0 c.lend-right.result.entry entry c.lend-right.new.self c.lend-right.ensures.lent c.take.new.self c.take.ensures.after c.remove-head.new.self.items c.remove-head.ensures.by_index.2),
      (let big = c.self.invariant.1 in let room = c.remove-head.ensures.capacity in let size = ap (λ (x : DeviceLists). x.size) c.lend-right.ensures.lent in omega (arith, big, room, size)),
    )

pub returns : goal.returns
returns g c =
    let d = c.self.inside in
    let k = c.self.invariant.0 in
    let r = ready_here g.P.Tagged.is_wanted g.T.Turn.lane_of g.T.Turn.count_of d.end d.first d.homes.items d.waiting.items d.halted k.0 k.1 c.in_ok-place.place c.remove-head.result c.as_slice.result.now c.as_slice-2.result.now c.as_slice.ensures.value c.as_slice-2.ensures.value c.remove-head.ensures.value c.in_ok-place.ensures in
    let entry = c.lend-right.ensures.only r.split.entry (r.has, sym r.split.is.1) in
    let token = sym (c.unwrap-token.ensures) ∙ (c.take.ensures.value ∙ taken_token g.P.Tagged.is_wanted g.T.Turn.lane_of g.T.Turn.count_of d.end d.first d.homes.items d.waiting.items d.halted k.0 k.1 c.in_ok-place.place c.remove-head.result r c.tag.result.lane c.tag.ensures.tag.0 c.index_mut.result.now c.index_mut.ensures.value) in
    let old : DeskData g.row.P.Denot g.row.T.Denot = record { lists = d.end; first = d.first; homes = d.homes.items; waiting = d.waiting.items; halted = d.halted } in
    let new : DeskData g.row.P.Denot g.row.T.Denot = record { lists = c.lend-right.new.self; first = d.first; homes = slice_set d.homes.items (c.tag.result.lane - d.first) c.take.new.self; waiting = c.remove-head.new.self.items; halted = d.halted } in
    let here = first_here g.P.Tagged.is_wanted g.T.Turn.lane_of g.T.Turn.count_of d.end d.first d.homes.items d.waiting.items d.halted k.0 k.1 c.in_ok-place.place c.as_slice.result.now c.as_slice-2.result.now c.as_slice.ensures.value c.as_slice-2.ensures.value c.in_ok-place.ensures in
    let takes = has_taken g.P.Tagged.is_wanted g.T.Turn.lane_of g.T.Turn.count_of d.end d.first d.homes.items d.waiting.items d.halted k.0 k.1 c.in_ok-place.place c.remove-head.result r c.tag.result.lane c.tag.ensures.tag.0 c.lend-right.result.entry entry c.lend-right.new.self c.lend-right.ensures.lent c.take.new.self c.take.ensures.after c.remove-head.new.self.items c.remove-head.ensures.by_index.2 here c.unwrap-token.result token in
    subst (λ o. Takes g.P.Tagged.is_wanted g.T.Turn.lane_of g.T.Turn.count_of o c.unwrap-token.result c.lend-right.result c.remove-head.result.1 new) c.self.view_is
    (subst (λ w. Takes g.P.Tagged.is_wanted g.T.Turn.lane_of g.T.Turn.count_of old c.unwrap-token.result (record { entry = c.lend-right.result.entry; walked = w }) c.remove-head.result.1 new) (sym c.lend-right.ensures.walked) takes)
