use Rattle.std.proofs.Common.{◌∙◌, arith, ap}
use Rattle.vg_split.specs.Plays.{device_of, right_of}
use Rattle.vg_split.specs.declared.views.View.TheVariants.{Device}
use Rattle.vg_split.specs.Rule.{returned_after}
use Rattle.vg_split.proofs.ToldDevice.{join_step, lent_step}
use Rattle.vg_split.proofs.device.join_right.Goals as goal

pub join_seat-requires : goal.join_seat-requires
join_seat-requires g c =
    let t = c.args.line.now.shared in
    let me = c.args.pass.now.me in
    let r = c.args.right in
    (c.requires.line.0, c.requires.line.1, ap (λ m. m.1) c.requires.right, omega (arith, c.requires.line.2), join_step g.P.Tagged.is_wanted t.key.queue t.key.count c.args.pass.now.id r.id me r.me (device_of me.0) (right_of r.me.0) c.requires.view c.requires.right)

pub load-requires : goal.load-requires
load-requires g c =
    let t = c.args.line.now.shared in
    let me = c.args.pass.now.me in
    let v = device_of me.0 in
    let f = right_of c.args.right.me.0 in
    let is = c.join_seat.ensures.2 ∙ ap (λ m. (Device (returned_after v f), m.1)) c.requires.view in (
      c.join_seat.ensures.0 ∙ c.requires.line.0,
      omega (arith, c.requires.line.2),
      lent_step g.P.Tagged.is_wanted t.key.queue t.key.count t.table_id.slots c.join_seat.new.seat.id 0 c.join_seat.new.seat.me (returned_after v f) f v.lent is,
    )
