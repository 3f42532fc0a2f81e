use Rattle.std.proofs.Common.{◌∙◌, ℕ, length, sym, ap, arith}
use Rattle.vg_book.specs.Outcomes as carried
use Rattle.vg_driver.proofs.HalfLemmas.{at_lane, half_reaped, lane_small}
use Rattle.vg_driver.proofs.half.Half.reap.Goals as goal

pub index_mut-requires : goal.index_mut-requires
index_mut-requires g c =
    let small = lane_small c.in-Some.field-0.cargo.parcel.queue c.tag-lane.result.lane c.tag-lane.ensures.lane in
    let long = c.self.invariant.0.lanes in
    let ok = c.self.inside.heard.ok in
    omega (arith, small, long, ok)

pub tell-requires : goal.tell-requires
tell-requires g c =
    let d = c.self.inside in
    let small = lane_small c.in-Some.field-0.cargo.parcel.queue c.tag-lane.result.lane c.tag-lane.ensures.lane in
    let at = at_lane g.M.Machine g.Q.OfQueue.queue d.end d.heard.items c.self.invariant.0 c.tag-lane.result.lane c.index_mut.result.now small c.index_mut.ensures.value in
    ap (carried.tag_of g.M.Machine) c.of-reply.ensures.pass ∙ (c.tag-lane.ensures.pass ∙ ap (λ n. (n, c.tag-lane.result.ordinal)) (sym at.0))

pub invariant_of-self-in-Some : goal.invariant_of-self-in-Some
invariant_of-self-in-Some g c =
    let d = c.self.inside in
    let small = lane_small c.in-Some.field-0.cargo.parcel.queue c.tag-lane.result.lane c.tag-lane.ensures.lane in (
      half_reaped g.M.Machine g.Q.OfQueue.queue d.end d.heard.items c.self.invariant.0 (carried.is_wanted_pass g.M.Machine) c.in-Some.field-0.head c.in-Some.field-0.len c.in-Some.field-0.cargo c.reap.new.self c.in-Some.ensures
          c.tag-lane.result.lane c.tag-lane.result.ordinal c.tag-lane.ensures.tag.0 c.tag-lane.ensures.tag.1 small c.index_mut.result.now c.tell.new.heard c.index_mut.ensures.value c.of-reply.result (ap (carried.tag_of g.M.Machine) c.of-reply.ensures.pass ∙ c.tag-lane.ensures.pass) c.of-reply.ensures.asked c.tell.ensures.hears,
      c.self.invariant.1 ∙ sym (ap {B = ℕ} length c.in-Some.ensures.published),
    )
