use Rattle.std.proofs.Common.{◌≡◌, length, sym, subst}
use Rattle.vg_cargo.specs.Ends.{DriverLists}
use Rattle.vg_driver.proofs.HalfLemmas.{back_by}
use Rattle.vg_driver.proofs.half.Half.close.Goals as goal

pub returns-clause-back : goal.returns-clause-back
returns-clause-back g c =
    let d = c.half.inside in
    let all = subst (λ (o : DriverLists). length o.reaped ≡ length o.published) (sym c.half.view_is) c.reap_rest.ensures in
    back_by g.M.Machine g.Q.OfQueue.queue d.end d.heard.items c.args.root.now c.join_lanes.new.root c.half.invariant.0 all c.in_ok-join_lanes.ensures.joined
