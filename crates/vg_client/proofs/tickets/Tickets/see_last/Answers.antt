use Rattle.std.proofs.Common.{◌≡◌, true, subst}
use Rattle.std.specs.List.{list_all}
use Rattle.vg_client.specs.Accounts.{BegunTickets, is_below}
use Rattle.vg_client.proofs.TopLemmas.{behind_all}
use Rattle.vg_client.proofs.tickets.Tickets.see_last.Goals as goal

pub returns-then-index-ordinal : goal.returns-then-index-ordinal
returns-then-index-ordinal g c =
    let d = c.self.inside in
    subst (λ (b : BegunTickets). list_all (is_below c.args.ticket.now) b.items ≡ true) c.self.view_is
    (behind_all d.tops.items d.tickets.items c.args.ticket.now c.lane.result c.ordinal.result c.index.result.now c.self.invariant c.lane.ensures.lane c.ordinal.ensures.ordinal c.lane.ensures.bound c.index.ensures c.if-index-ordinal.true)
