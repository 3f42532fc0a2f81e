use Rattle.vg_split.specs.Plays.{driver_of}
use Rattle.vg_split.proofs.SendLemmas.{offer_is, sent_is}
use Rattle.vg_split.proofs.sending.send.Goals as goal

pub offer-requires-clause-offer : goal.offer-requires-clause-offer
offer-requires-clause-offer g c =
    let x = c.extent-extent.result in
    offer_is g.P.Tagged.is_wanted c.args.line.now.shared.key.queue c.args.size c.lay.new.pass.me c.args.shape x.request x.room x.base c.args.published (driver_of c.args.pass.now.me.0) c.args.places.now c.args.cargo c.requires.cargo c.extent-extent.ensures c.lay.ensures.back c.lay.ensures.view

pub returns-clause-view : goal.returns-clause-view
returns-clause-view g c =
    let x = c.extent-extent.result in
    sent_is g.P.Tagged.is_wanted c.args.line.now.shared.key.queue c.args.size c.lay.new.pass.me c.offer.new.pass.me c.args.shape x.request x.room x.base c.args.published (driver_of c.args.pass.now.me.0) c.args.places.now c.args.cargo c.requires.cargo c.extent-extent.ensures c.lay.ensures.view c.offer.ensures.view
