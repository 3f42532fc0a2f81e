use Rattle.std.proofs.Common.{◌∙◌}
use Rattle.slab.specs.Slab.{entries}
use Rattle.vg_names.proofs.CountLemmas.{counting-done, counting-first, counting-one, counting-other, counting-twice}
use Rattle.vg_names.proofs.names.has_one.Goals as goal

pub loop-place-init : goal.loop-place-init
loop-place-init c =
    (tt, tt, counting-first c.args.key c.into_iter-place-iterator.result (entries c.args.held.now) (c.into_iter-place-iterator.ensures.into_iter_gives ∙ c.iter-place-items.ensures.rest))

pub returns-then-found : goal.returns-then-found
returns-then-found c =
    counting-twice c.args.key c.loop-place.found c.loop-place._place-iterator (entries c.args.held.now) c.next.new.self c.in-Some._place c.in-Some.one.now c.loop-place.invariant.2 c.in-Some.ensures.steps c.if-found.true c.if-one-key.true

pub loop-place-preserved-then-one-key : goal.loop-place-preserved-then-one-key
loop-place-preserved-then-one-key c =
    (tt, tt, counting-one c.args.key c.loop-place.found c.loop-place._place-iterator (entries c.args.held.now) c.next.new.self c.in-Some._place c.in-Some.one.now c.loop-place.invariant.2 c.in-Some.ensures.steps c.if-found.false c.if-one-key.true)

pub loop-place-preserved : goal.loop-place-preserved
loop-place-preserved c =
    (tt, tt, counting-other c.args.key c.loop-place.found c.loop-place._place-iterator (entries c.args.held.now) c.next.new.self c.in-Some._place c.in-Some.one.now c.loop-place.invariant.2 c.in-Some.ensures.steps c.if-one-key.false)

pub returns : goal.returns
returns c = counting-done c.args.key c.loop-place.found c.loop-place._place-iterator (entries c.args.held.now) c.loop-place.invariant.2 c.in-None.ensures.steps.0
