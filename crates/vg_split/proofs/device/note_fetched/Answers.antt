use Rattle.std.proofs.Common.{arith}
use Rattle.vg_split.specs.Plays.{device_of}
use Rattle.vg_split.proofs.NoteSteps.{note_fetched_step}
use Rattle.vg_split.proofs.device.note_fetched.Goals as goal

pub split_seat-requires : goal.split_seat-requires
split_seat-requires g c =
    let t = c.args.line.now.shared in
    let me = c.args.pass.now.me in
    (c.requires.line.0, omega (arith, c.requires.line.1), note_fetched_step g.P.Tagged.is_wanted t.key.queue t.key.count c.args.pass.now.id me (device_of me.0) c.requires.view)
