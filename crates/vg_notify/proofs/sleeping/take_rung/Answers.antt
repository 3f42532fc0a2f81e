use Rattle.std.proofs.Common.{◌∙◌, ap, arith, rules}
use Rattle.vg_notify.proofs.Told.{join_step, tell_step}
use Rattle.vg_notify.proofs.sleeping.take_rung.Goals as goal

pub join_seat-requires : goal.join_seat-requires
join_seat-requires c = (let words = c.requires.line.0.1 in (c.requires.line.0.0, c.requires.line.1.0, ap (λ m. m.1) c.requires.note, omega (arith, words), join_step c.args.pass.now.id c.args.note.id c.args.pass.now.me c.args.note.me c.requires.view c.requires.note))

pub load-requires : goal.load-requires
load-requires c =
    let words = c.requires.line.0.1 in
    let is = c.join_seat.ensures.2 in
    (c.join_seat.ensures.0 ∙ c.requires.line.0.0, omega (arith, words), tell_step c.args.line.now.shared.table_id.slots c.join_seat.new.seat.id c.join_seat.new.seat.me (search rules))
