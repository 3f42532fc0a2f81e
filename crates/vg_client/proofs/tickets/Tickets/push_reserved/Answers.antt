use Rattle.std.proofs.Common.{set, sym, subst}
use Rattle.vg_client.specs.Accounts.{AreUnder}
use Rattle.vg_client.proofs.TopLemmas.{under_more}
use Rattle.vg_client.proofs.tickets.Tickets.push_reserved.Goals as goal

pub invariant_of-self : goal.invariant_of-self
invariant_of-self c =
    let d = c.self.inside in
    let now = c.push_back_reserved.new.self.items in
    subst (λ n. AreUnder (set d.tops.items c.lane-lane.result n) now) (sym c.max.ensures)
    (under_more d.tops.items d.tickets.items c.args.ticket c.lane-lane.result c.ordinal.result c.index.result.now c.self.invariant c.lane-lane.ensures.lane c.ordinal.ensures.ordinal c.lane-lane.ensures.bound c.index.ensures now c.push_back_reserved.ensures.items)
