use Rattle.std.proofs.Common.{◌≡◌, ◌∙◌, sym, ap, subst, arith}
use Rattle.std.specs.Prelude.{nat_le, IfOk}
use Rattle.vg_driver.specs.Halves.{top_of}
use Rattle.vg_driver.proofs.HalfLemmas.{at_lane, half_asked}
use Rattle.vg_driver.proofs.half.Half.signal.Goals as goal

pub index_mut-requires : goal.index_mut-requires
index_mut-requires g c =
    let small = c.lane-lane.ensures.bound in
    let long = c.self.invariant.0.lanes in
    let ok = c.self.inside.heard.ok in
    omega (arith, small, long, ok)

pub signal-requires : goal.signal-requires
signal-requires g c =
    let d = c.self.inside in
    let at = at_lane g.M.Machine g.Q.OfQueue.queue d.end d.heard.items c.self.invariant.0 c.lane-lane.result c.index_mut.result.now c.lane-lane.ensures.bound c.index_mut.ensures.value in
    sym c.lane-lane.ensures.lane ∙ sym at.0

pub invariant_of-self : goal.invariant_of-self
invariant_of-self g c =
    let d = c.self.inside in
    (half_asked g.M.Machine g.Q.OfQueue.queue d.end d.heard.items c.self.invariant.0 c.lane-lane.result c.index_mut.result.now c.signal.new.self c.index_mut.ensures.value c.signal.ensures.same, c.self.invariant.1)

pub returns-clause-exactly : goal.returns-clause-exactly
returns-clause-exactly g c =
    let d = c.self.inside in
    let fence = c.args.fence.now in
    let at = at_lane g.M.Machine g.Q.OfQueue.queue d.end d.heard.items c.self.invariant.0 c.lane-lane.result c.index_mut.result.now c.lane-lane.ensures.bound c.index_mut.ensures.value in
    let top = at.1 ∙ ap (λ l. top_of l d.end.reaped) c.lane-lane.ensures.lane ∙ ap (λ o. top_of fence.lane o.reaped) c.self.view_is in
    subst (λ n. IfOk c.signal.result (λ b. b ≡ nat_le fence.ordinal n)) top c.signal.ensures.exactly
