use Rattle.std.proofs.Common.{refl, subst, sym}
use Rattle.vg_driver.specs.Tickets.{Account}
use Rattle.vg_client.specs.Accounts.{AreOut}
use Rattle.vg_client.proofs.MeetLemmas.{ready-met}
use Rattle.vg_client.proofs.client.Client.meet.Goals as goal

pub invariant_of-self : goal.invariant_of-self
invariant_of-self g c =
    let caller = c.self.inside.caller in
    let watched = c.meet.ensures.watched in
    let law = c.calls_stand_behind.ensures in (
      subst (λ (a : Account). AreOut a.out caller.begun.items) (sym watched.account) c.self.invariant.0,
      λ on. let ready = c.self.invariant.1 on in ready-met caller _ ready (law.watched caller.token c.meet.new.self ready.active.account_is.standing.current watched) watched refl refl refl,
    )
