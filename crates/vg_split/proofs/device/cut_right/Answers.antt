use Rattle.std.proofs.Common.{◌∙◌, arith, refl}
use Rattle.vg_split.specs.Plays.{device_of}
use Rattle.vg_cargo.specs.Entries.{held_at}
use Rattle.vg_split.proofs.ToldDevice.{name_step, named_is, cut_step}
use Rattle.vg_split.proofs.device.cut_right.Goals as goal

pub load-requires : goal.load-requires
load-requires g c =
    let t = c.args.line.now.shared in
    let me = c.args.pass.now.me in (
      c.requires.line.0,
      omega (arith, c.requires.line.1, c.requires.small),
      name_step g.P.Tagged.is_wanted t.key.queue t.key.count t.table_id.slots c.args.pass.now.id me (device_of me.0) _ c.args.head c.requires.view refl c.requires.held c.requires.unlent,
    )

pub split_seat-requires : goal.split_seat-requires
split_seat-requires g c =
    let t = c.args.line.now.shared in
    let me = c.args.pass.now.me in
    let v = device_of me.0 in
    let now = c.load.new.seat.me in
    let is = named_is g.P.Tagged.is_wanted t.key.queue t.key.count me now v _ c.args.head c.requires.view refl c.load.ensures.2 in
    (c.load.ensures.0 ∙ c.requires.line.0, omega (arith, c.requires.line.1), cut_step g.P.Tagged.is_wanted t.key.queue t.key.count c.load.new.seat.id now v (held_at c.args.head v.held) is)
