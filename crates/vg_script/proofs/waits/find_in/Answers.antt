use Rattle.std.proofs.Common.{arith, ◌-◌, sym}
use Rattle.vg_script.specs.WalkWithin.{search_of, target_in}
use Rattle.vg_script.proofs.WalkLemmas.{find_here, find_on, find_over}
use Rattle.vg_script.proofs.waits.find_in.Goals as goal

pub returns-then-reaches : goal.returns-then-reaches
returns-then-reaches c =
    find_here (target_in c.args.clients.now c.args.places.now) c.args.total c.args.client c.args.size c.loop-place.place (search_of c.loop-place.walk) (search_of c.take_in.new.self) _
    (search arith) c.take_in.ensures (sym c.if-reaches.ensures) c.loop-place.invariant.same

pub loop-place-preserved : goal.loop-place-preserved
loop-place-preserved c = record {
  within = search arith;
  same = find_on (target_in c.args.clients.now c.args.places.now) c.args.total c.args.client c.args.size c.loop-place.place (search_of c.loop-place.walk) (search_of c.take_in.new.self) (search_of c.pass.new.self) _
      (search arith) c.take_in.ensures (sym c.if-reaches.ensures) c.pass.ensures c.loop-place.invariant.same;
}

pub returns : goal.returns
returns c = find_over (target_in c.args.clients.now c.args.places.now) c.args.total c.args.client (c.args.size - c.loop-place.place) c.loop-place.place (search_of c.loop-place.walk) _ (search arith) c.loop-place.invariant.same
