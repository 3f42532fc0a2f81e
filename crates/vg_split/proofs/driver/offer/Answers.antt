use Rattle.std.proofs.Common.{◌≡◌, ◌∙◌, ◌+◌, ◌%◌, arith, ap, sym, None, Some, [], ◌∷◌}
use Rattle.vg_split.specs.Plays.{driver_of, written_by, offered, sent_with}
use Rattle.vg_split.specs.Words.{available_place}
use Rattle.vg_split.proofs.Told.{allows_size, exchanged, offer_step, publish_step}
use Rattle.vg_split.proofs.driver.offer.Goals as goal

pub store-requires : goal.store-requires
store-requires g c =
    let t = c.args.line.now.shared in
    let me = c.args.pass.now.me in
    let d = driver_of me.0 in
    let o = c.requires.offer in
    let place = c.available_word-element.ensures.place ∙ ap (λ k. available_place c.args.size (k % c.args.size)) c.requires.count in (
      c.requires.line.0,
      omega (arith, c.requires.line.1, c.available_word-element.ensures.small),
      allows_size g.P.Tagged.is_wanted t.key.queue t.key.count c.args.size t.table_id.slots c.args.pass.now.id me c.available_word-element.result (λ _. c.from.result) (λ _ after. after ≡ (offered me.0, (c.from.result, None) ∷ me.1)) c.requires.line.2
          (offer_step g.P.Tagged.is_wanted t.key.queue c.args.size t.table_id.slots c.args.pass.now.id me d (written_by me.0) c.available_word-element.result c.from.result c.requires.view place o.some (o.first ∙ sym c.from.ensures) o.room),
    )

pub store-requires-2 : goal.store-requires-2
store-requires-2 g c =
    let t = c.args.line.now.shared in
    let me = c.args.pass.now.me in
    let d = driver_of me.0 in
    let now = c.exchange-none.new.seat.me in
    let stored = c.store.ensures.2 ∙ ap (λ m. (offered me.0, (c.from.result, None) ∷ m.1)) c.requires.view in
    let view = exchanged c.store.new.seat.me now (offered me.0) c.from.result c.args.head None (Some c.args.cargo) stored c.exchange-none.ensures.3 in (
      c.exchange-none.ensures.0 ∙ (c.store.ensures.0 ∙ c.requires.line.0),
      omega (arith, c.requires.line.1),
      allows_size g.P.Tagged.is_wanted t.key.queue t.key.count c.args.size t.table_id.slots c.exchange-none.new.seat.id now 0 (λ _. (c.args.published + 1) % 65536) (λ _ after. after ≡ (sent_with now.0 now.1, [])) c.requires.line.2
          (publish_step g.P.Tagged.is_wanted t.key.queue c.args.size t.table_id.slots c.exchange-none.new.seat.id now d (written_by me.0) ((c.args.published + 1) % 65536) c.args.head c.args.cargo view (ap (λ k. (k + 1) % 65536) c.requires.count) c.requires.offer),
    )
