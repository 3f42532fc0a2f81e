use Rattle.std.proofs.Common.{◌∙◌, arith}
use Rattle.vg_split.specs.Plays.{driver_of, written_by}
use Rattle.vg_split.proofs.Told.{address_step, rest_step, half_is}
use Rattle.vg_split.proofs.driver.store_descriptor.Goals as goal

pub store-requires : goal.store-requires
store-requires g c =
    let me = c.args.pass.now.me in
    let key = c.args.line.now.shared.key in (
      c.requires.line.0,
      omega (arith, c.requires.line.1, c.requires.place),
      address_step g.P.Tagged.is_wanted key.queue key.count c.args.line.now.shared.table_id.slots c.args.pass.now.id me (driver_of me.0) (written_by me.0) c.args.place c.args.descriptor.addr c.requires.view c.requires.place c.requires.free.0 c.requires.free.1,
    )

pub store-requires-2 : goal.store-requires-2
store-requires-2 g c =
    let me = c.args.pass.now.me in
    let key = c.args.line.now.shared.key in
    let half = half_is g.P.Tagged.is_wanted key.queue key.count me c.store.new.seat.me (driver_of me.0) (written_by me.0) c.args.place c.args.descriptor.addr c.requires.view c.store.ensures.2 in (
      c.store.ensures.0 ∙ c.requires.line.0,
      omega (arith, c.requires.line.1, c.requires.place),
      rest_step g.P.Tagged.is_wanted key.queue key.count c.args.line.now.shared.table_id.slots c.store.new.seat.id c.store.new.seat.me (driver_of me.0) (written_by me.0) c.args.place c.args.descriptor.addr c.rest_word.result half c.requires.place c.requires.free.0 c.requires.free.1,
    )
