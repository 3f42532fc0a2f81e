use Rattle.std.proofs.Common.{arith}
use Rattle.vg_split.specs.Plays.{driver_of}
use Rattle.vg_split.proofs.NoteSteps.{note_reaped_step}
use Rattle.vg_split.proofs.driver.note_reaped.Goals as goal

pub split_seat-requires : goal.split_seat-requires
split_seat-requires g c =
    let t = c.args.line.now.shared in
    let me = c.args.pass.now.me in
    (c.requires.line.0, omega (arith, c.requires.line.1), note_reaped_step g.P.Tagged.is_wanted t.key.queue t.key.count c.args.pass.now.id me (driver_of me.0) c.requires.view)
