use Rattle.std.proofs.Common.{◌≡◌, ◌∙◌, ◌+◌, ◌%◌, ◌^◌, arith, ap, None, Some, [], ◌∷◌}
use Rattle.vg_split.specs.Plays.{device_of, answering, answered_with}
use Rattle.vg_split.specs.declared.views.View.TheVariants.{Device}
use Rattle.vg_split.specs.declared.views.DeviceStage.TheVariants.{Answering}
use Rattle.vg_cargo.specs.Entries.{held_at}
use Rattle.vg_split.specs.Rule.{set_stage}
use Rattle.vg_split.specs.Words.{used_place}
use Rattle.vg_split.proofs.Told.{allows_size, exchanged, holds_one}
use Rattle.vg_split.proofs.ToldDevice.{answer_step, answered_is, complete_step, completed_is}
use Rattle.vg_split.proofs.device.give_back.Goals as goal

pub store-requires : goal.store-requires
store-requires g c =
    let t = c.args.line.now.shared in
    let me = c.args.pass.now.me in
    let v = device_of me.0 in
    let x = c.used_word.result in
    let place = c.used_element_word-element.ensures.place ∙ ap (λ k. used_place c.args.size (k % c.args.size)) c.requires.count in (
      c.requires.line.0,
      omega (arith, c.requires.line.1, c.used_element_word-element.ensures.small),
      allows_size g.P.Tagged.is_wanted t.key.queue t.key.count c.args.size t.table_id.slots c.args.pass.now.id me c.used_element_word-element.result (λ _. x) (λ _ after. after ≡ (answering me.0 x, (x % 2 ^ 32, None) ∷ me.1)) c.requires.line.2
          (answer_step g.P.Tagged.is_wanted t.key.queue c.args.size t.table_id.slots c.args.pass.now.id me v c.used_element_word-element.result c.args.head c.args.len x c.requires.view place c.requires.held c.used_word.ensures c.ranges.head.fits),
    )

pub exchange-none-requires : goal.exchange-none-requires
exchange-none-requires g c =
    let t = c.args.line.now.shared in
    let me = c.args.pass.now.me in
    let v = device_of me.0 in
    let is = answered_is g.P.Tagged.is_wanted t.key.queue c.args.size me c.store.new.seat.me v c.args.head c.args.len c.used_word.result c.requires.view c.store.ensures.2 c.used_word.ensures c.ranges.head.fits in
    (c.store.ensures.0 ∙ c.requires.line.0, (None, holds_one c.store.new.seat.me (Device (set_stage v (Answering (held_at c.args.head v.held) c.args.len))) c.args.head c.args.head None is (λ i. c.args.head)))

pub store-requires-2 : goal.store-requires-2
store-requires-2 g c =
    let t = c.args.line.now.shared in
    let me = c.args.pass.now.me in
    let v = device_of me.0 in
    let now = c.exchange-none.new.seat.me in
    let was = answered_is g.P.Tagged.is_wanted t.key.queue c.args.size me c.store.new.seat.me v c.args.head c.args.len c.used_word.result c.requires.view c.store.ensures.2 c.used_word.ensures c.ranges.head.fits in
    let is = exchanged c.store.new.seat.me now (Device (set_stage v (Answering (held_at c.args.head v.held) c.args.len))) c.args.head c.args.head None (Some c.args.cargo) was c.exchange-none.ensures.3 in (
      c.exchange-none.ensures.0 ∙ (c.store.ensures.0 ∙ c.requires.line.0),
      omega (arith, c.requires.line.1),
      allows_size g.P.Tagged.is_wanted t.key.queue t.key.count c.args.size t.table_id.slots c.exchange-none.new.seat.id now 1 (λ _. (c.args.completed + 1) % 65536) (λ _ after. after ≡ (answered_with now.0 now.1, [])) c.requires.line.2
          (complete_step g.P.Tagged.is_wanted t.key.queue c.args.size t.table_id.slots c.exchange-none.new.seat.id now v c.args.head c.args.len ((c.args.completed + 1) % 65536) c.args.cargo is c.requires.held (ap (λ k. (k + 1) % 65536) c.requires.count) c.requires.cargo),
    )

pub returns-clause-view : goal.returns-clause-view
returns-clause-view g c =
    let t = c.args.line.now.shared in
    let me = c.args.pass.now.me in
    let v = device_of me.0 in
    let now = c.exchange-none.new.seat.me in
    let was = answered_is g.P.Tagged.is_wanted t.key.queue c.args.size me c.store.new.seat.me v c.args.head c.args.len c.used_word.result c.requires.view c.store.ensures.2 c.used_word.ensures c.ranges.head.fits in
    let is = exchanged c.store.new.seat.me now (Device (set_stage v (Answering (held_at c.args.head v.held) c.args.len))) c.args.head c.args.head None (Some c.args.cargo) was c.exchange-none.ensures.3 in
    completed_is g.P.Tagged.is_wanted t.key.queue c.args.size now c.store-2.new.seat.me v c.args.head c.args.len c.args.cargo is c.requires.held c.store-2.ensures.2
