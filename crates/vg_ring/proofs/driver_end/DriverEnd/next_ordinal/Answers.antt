use Rattle.std.proofs.Common.{arith}
use Rattle.std.proofs.lemmas.List.{get_or_read}
use Rattle.vg_split.specs.Plays.{driver_of}
use Rattle.vg_cargo.proofs.Counts.{lane_few}
use Rattle.vg_ring.proofs.driver_end.DriverEnd.next_ordinal.Goals as goal

pub overflow_add-result : goal.overflow_add-result
overflow_add-result g c =
    let t = c.self.inside in
    let k = c.self.invariant.2 in
    let lanes = k.lanes in
    let read = get_or_read t.counts.items c.args.lane c.index.result.now (omega (arith, lanes, c.requires)) c.index.ensures 0 in
    let is = k.counts_are c.args.lane c.requires in
    let few = lane_few c.args.lane (driver_of t.pass.me.0).published in
    let last = k.few in
    record { fits = omega (arith, read, is, few, last) }
