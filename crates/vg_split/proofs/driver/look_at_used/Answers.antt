use Rattle.std.proofs.Common.{arith}
use Rattle.vg_split.specs.Plays.{driver_of}
use Rattle.vg_split.proofs.Told.{look_step}
use Rattle.vg_split.proofs.driver.look_at_used.Goals as goal

pub load-requires : goal.load-requires
load-requires g c =
    let key = c.args.line.now.shared.key in
    let me = c.args.pass.now.me in (
      c.requires.line.0,
      omega (arith, c.requires.line.1),
      look_step g.P.Tagged.is_wanted key.queue key.count c.args.line.now.shared.table_id.slots c.args.pass.now.id me (driver_of me.0) (c.requires.view),
    )
