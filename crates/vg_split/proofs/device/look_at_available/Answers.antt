use Rattle.std.proofs.Common.{arith}
use Rattle.vg_split.specs.Plays.{device_of}
use Rattle.vg_split.proofs.ToldDevice.{look_available_step}
use Rattle.vg_split.proofs.device.look_at_available.Goals as goal

pub load-requires : goal.load-requires
load-requires g c =
    let key = c.args.line.now.shared.key in
    let me = c.args.pass.now.me in (
      c.requires.line.0,
      omega (arith, c.requires.line.1),
      look_available_step g.P.Tagged.is_wanted key.queue key.count c.args.line.now.shared.table_id.slots c.args.pass.now.id me (device_of me.0) c.requires.view,
    )
