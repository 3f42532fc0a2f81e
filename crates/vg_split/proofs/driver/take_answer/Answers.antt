use Rattle.std.proofs.Common.{◌≡◌, ◌∙◌, ◌%◌, ◌<◌, arith, ap, subst, sym, None, Some, []}
use Rattle.vg_split.specs.Plays.{driver_of, rested}
use Rattle.vg_split.specs.declared.views.View.TheVariants.{Driver}
use Rattle.vg_split.specs.Words.{used_place}
use Rattle.vg_split.specs.Rule.{reaped_after}
use Rattle.vg_split.specs.Tells.{IsReaped}
use Rattle.vg_split.proofs.Told.{allows_size, take_step, settle_driver_step, exchanged, holds_one, head_found}
use Rattle.vg_split.proofs.driver.take_answer.Goals as goal

pub load-word-requires : goal.load-word-requires
load-word-requires g c =
    let t = c.args.line.now.shared in
    let me = c.args.pass.now.me in
    let d = driver_of me.0 in
    let place = c.used_element_word-element.ensures.place ∙ ap (λ k. used_place c.args.size (k % c.args.size)) c.requires.count in (
      c.requires.line.0,
      omega (arith, c.requires.line.1, c.used_element_word-element.ensures.small),
      allows_size g.P.Tagged.is_wanted t.key.queue t.key.count c.args.size t.table_id.slots c.args.pass.now.id me c.used_element_word-element.result (λ k. k) (λ found after. IsReaped g.P.Tagged.is_wanted t.table_id.slots d found after) c.requires.line.3
          (take_step g.P.Tagged.is_wanted t.key.queue c.args.size t.table_id.slots c.args.pass.now.id me d c.used_element_word-element.result c.requires.view place c.requires.line.2),
    )

pub exchange-slot-requires : goal.exchange-slot-requires
exchange-slot-requires g c =
    let now = c.load-word.new.seat.me in
    let d = driver_of c.args.pass.now.me.0 in
    let r = subst (λ k. IsReaped g.P.Tagged.is_wanted k d c.load-word.result now) c.requires.line.2 c.load-word.ensures.2 in
    let is = head_found g.P.Tagged.is_wanted c.args.size d c.load-word.result now r c.used_of-head.result.0 c.used_of-head.result.1 c.used_of-head.ensures.word c.used_of-head.ensures.small c.ranges.size.fits in
    (c.load-word.ensures.0 ∙ c.requires.line.0, (Some r.cargo, holds_one now (Driver (reaped_after d r.answer)) _ _ (Some r.cargo) r.after is.0))

pub load-requires : goal.load-requires
load-requires g c =
    let t = c.args.line.now.shared in
    let was = c.load-word.new.seat.me in
    let now = c.exchange-slot.new.seat.me in
    let d = driver_of c.args.pass.now.me.0 in
    let r = subst (λ k. IsReaped g.P.Tagged.is_wanted k d c.load-word.result was) c.requires.line.2 c.load-word.ensures.2 in
    let is = head_found g.P.Tagged.is_wanted c.args.size d c.load-word.result was r c.used_of-head.result.0 c.used_of-head.result.1 c.used_of-head.ensures.word c.used_of-head.ensures.small c.ranges.size.fits in
    let view = exchanged was now (Driver (reaped_after d r.answer)) _ c.used_of-head.result.0 (Some r.cargo) None r.after c.exchange-slot.ensures.3 in (
      c.exchange-slot.ensures.0 ∙ (c.load-word.ensures.0 ∙ c.requires.line.0),
      omega (arith, c.requires.line.1),
      allows_size g.P.Tagged.is_wanted t.key.queue t.key.count c.args.size t.table_id.slots c.exchange-slot.new.seat.id now 0 (λ k. k) (λ found after. after ≡ (rested now.0, [])) c.requires.line.3
          (settle_driver_step g.P.Tagged.is_wanted t.key.queue c.args.size t.table_id.slots c.exchange-slot.new.seat.id 0 now (reaped_after d r.answer) r.answer c.used_of-head.result.0 view is.0 (subst (λ k. k < c.args.size) (sym is.0) r.small)),
    )
