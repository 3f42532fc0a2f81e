use Rattle.std.proofs.Common.{arith}
use Rattle.vg_device.proofs.ActLemmas.{placed}
use Rattle.vg_device.proofs.device.Device.load.Goals as goal

pub load-requires-clause-pages : goal.load-requires-clause-pages
load-requires-clause-pages c =
    let s = c.self.inside in
    rw c.in-Ok.ensures.pages (placed s.pages c.args.client c.args.key c.args.offset c.from.result s.share c.in-Ok.ensures.accepted c.self.invariant.share).givable

pub load-requires-clause-inside : goal.load-requires-clause-inside
load-requires-clause-inside c =
    let s = c.self.inside in
    let place = placed s.pages c.args.client c.args.key c.args.offset c.from.result s.share c.in-Ok.ensures.accepted c.self.invariant.share in
    rw c.in-Ok.ensures.pages (omega (arith, place.inside, c.from.ensures))
