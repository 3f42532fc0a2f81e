use Rattle.std.proofs.Common.{arith}
use Rattle.vg_notify.proofs.Told.{note_step}
use Rattle.vg_notify.proofs.ringing.note_rung.Goals as goal

pub split_seat-requires : goal.split_seat-requires
split_seat-requires c = (let words = c.requires.line.1 in (c.requires.line.0, omega (arith, words), note_step c.args.pass.now.id c.args.pass.now.me c.requires.view))
