use Rattle.std.proofs.Common.{◌<◌, sym, subst, arith}
use Rattle.vg_cargo.specs.Ends.{HasRoom}
use Rattle.vg_split.specs.Plays.{driver_of}
use Rattle.vg_ring.proofs.KeptLemmas.{room_is, next_small}
use Rattle.vg_ring.proofs.driver_end.DriverEnd.next_head.Goals as goal

pub returns-clause-small : goal.returns-clause-small
returns-clause-small g c =
    let t = c.self.inside in
    let k = c.self.invariant.2 in
    let room = room_is t.size (driver_of t.pass.me.0) t.published t.reaped t.places.free.items t.places.links.items t.places.at t.counts.items k 1 (subst (λ v. HasRoom v 1) (sym c.self.view_is) c.requires) in
    let small = next_small t.size (driver_of t.pass.me.0) t.published t.reaped t.places.free.items t.places.links.items t.places.at t.counts.items k (omega (arith, room)) in
    subst (λ v. c.first.result < v.size) c.self.view_is (subst (λ n. n < t.size) (sym c.first.ensures) small)
