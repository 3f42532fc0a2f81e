use Rattle.std.proofs.Common.{Bool, ◌+◌, ◌∙◌, refl, sym, ap}
use Rattle.vg_cargo.specs.Entries.{lane_count}
use Rattle.vg_driver.specs.Asks.{request_for}
use Rattle.vg_driver.proofs.OfferLemmas.{made_as, next_for, submitted_as}
use Rattle.vg_driver.proofs.offer.offer.Goals as goal

pub send-requires-clause-next : goal.send-requires-clause-next
send-requires-clause-next g c =
    let lists = c.reap_all.new.self in
    let next = c.next_ordinal-ordinal.ensures ∙ ap (λ l. lane_count l lists.published + 1) c.lane.ensures.lane in
    let ready = c.if-not-is_ready.ensures (refl {A = Bool}) in
    next_for c.args.ask.now c.args.token.now.account.holds lists c.next_ordinal-ordinal.result c.in_ok-request.request c.needed.result c.in_ok-request.ensures c.requires.allowed c.requires.guest
    (sym c.requires.queue ∙ sym c.is_of_queue.ensures) next c.needed.ensures ready.0 ready.1

pub returns : goal.returns
returns g c =
    submitted_as c.args.token.now (request_for c.args.ask.now) c.in_ok-request.request c.in_ok-send.field-0 c.send.new.token
    (made_as c.args.ask.now c.next_ordinal-ordinal.result c.in_ok-request.request c.in_ok-request.ensures) c.in_ok-send.ensures
