use Rattle.std.proofs.Common.{◌≡◌, ◌∙◌, ◌%◌, arith, ap, subst, None, Some, []}
use Rattle.vg_split.specs.Plays.{device_of, rested}
use Rattle.vg_split.specs.declared.views.View.TheVariants.{Device}
use Rattle.vg_split.specs.Words.{available_place}
use Rattle.vg_split.specs.Rule.{fetched_after}
use Rattle.vg_split.specs.Tells.{IsTaken}
use Rattle.vg_split.proofs.Told.{allows_size, exchanged, holds_one}
use Rattle.vg_split.proofs.ToldDevice.{fetch_step, settle_device_step}
use Rattle.vg_split.proofs.device.take_entry.Goals as goal

pub load-head-requires : goal.load-head-requires
load-head-requires g c =
    let t = c.args.line.now.shared in
    let me = c.args.pass.now.me in
    let v = device_of me.0 in
    let place = c.available_word-element.ensures.place ∙ ap (λ k. available_place c.args.size (k % c.args.size)) c.requires.count in (
      c.requires.line.0,
      omega (arith, c.requires.line.1, c.available_word-element.ensures.small),
      allows_size g.P.Tagged.is_wanted t.key.queue t.key.count c.args.size t.table_id.slots c.args.pass.now.id me c.available_word-element.result (λ k. k) (λ found after. IsTaken g.P.Tagged.is_wanted t.table_id.slots v found after) c.requires.line.3
          (fetch_step g.P.Tagged.is_wanted t.key.queue c.args.size t.table_id.slots c.args.pass.now.id me v c.available_word-element.result c.requires.view place c.requires.line.2),
    )

pub exchange-slot-requires : goal.exchange-slot-requires
exchange-slot-requires g c =
    let now = c.load-head.new.seat.me in
    let v = device_of c.args.pass.now.me.0 in
    let r = subst (λ k. IsTaken g.P.Tagged.is_wanted k v c.load-head.result now) c.requires.line.2 c.load-head.ensures.2 in
    (c.load-head.ensures.0 ∙ c.requires.line.0, (Some r.cargo, holds_one now (Device (fetched_after v r.entry)) _ _ (Some r.cargo) r.after r.head))

pub load-requires : goal.load-requires
load-requires g c =
    let t = c.args.line.now.shared in
    let was = c.load-head.new.seat.me in
    let now = c.exchange-slot.new.seat.me in
    let v = device_of c.args.pass.now.me.0 in
    let r = subst (λ k. IsTaken g.P.Tagged.is_wanted k v c.load-head.result was) c.requires.line.2 c.load-head.ensures.2 in
    let view = exchanged was now (Device (fetched_after v r.entry)) _ c.load-head.result (Some r.cargo) None r.after c.exchange-slot.ensures.3 in (
      c.exchange-slot.ensures.0 ∙ (c.load-head.ensures.0 ∙ c.requires.line.0),
      omega (arith, c.requires.line.1),
      allows_size g.P.Tagged.is_wanted t.key.queue t.key.count c.args.size t.table_id.slots c.exchange-slot.new.seat.id now 0 (λ k. k) (λ found after. after ≡ (rested now.0, [])) c.requires.line.3
          (settle_device_step g.P.Tagged.is_wanted t.key.queue c.args.size t.table_id.slots c.exchange-slot.new.seat.id 0 now (fetched_after v r.entry) r.entry c.load-head.result view r.head),
    )
