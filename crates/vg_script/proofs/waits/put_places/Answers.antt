use Rattle.std.proofs.Common.{rules, arith}
use Rattle.vg_script.proofs.WalkLemmas.{place_next, places_over}
use Rattle.vg_script.proofs.waits.put_places.Goals as goal

pub loop-place-preserved : goal.loop-place-preserved
loop-place-preserved c =
    place_next c.args.client c.loop-place.place c.args.lines.now c.index-lines-place.result c.loop-place.places.items c.put_place.new.places.items _ (search arith) (search rules)
    c.in_ok-put_place.ensures c.loop-place.invariant

pub returns : goal.returns
returns c = places_over c.args.client c.loop-place.place c.args.lines.now c.loop-place.places.items _ (search arith) c.loop-place.invariant
