use Rattle.std.proofs.Common.{rules, ◌≡◌, ◌∙◌, refl, sym, arith}
use Rattle.std.proofs.lemmas.List.FromFn.{length-range_with_len, map-range_with_len_more}
use Rattle.std.proofs.lemmas.List.{length-map}
use Rattle.vg_chain.specs.Descriptor.{packed_at}
use Rattle.vg_chain.proofs.descriptor.read_packed.Goals as goal

pub loop-place-preserved : goal.loop-place-preserved
loop-place-preserved c =
    rw (c.in_ok-push.ensures.items, c.loop-place.invariant, c.packed_at.ensures) (sym (map-range_with_len_more (λ i. packed_at c.args.count i c.args.bytes.now) 0 c.loop-place.place c.loop-place.place (omega arith)))

pub returns-clause-descriptors : goal.returns-clause-descriptors
returns-clause-descriptors c =
    let all : c.loop-place.place ≡ c.args.count = search rules in
    rw (c.loop-place.invariant, all) refl

pub returns-clause-count : goal.returns-clause-count
returns-clause-count c =
    let all : c.loop-place.place ≡ c.args.count = search rules in
    rw (c.loop-place.invariant, length-map) (length-range_with_len 0 c.loop-place.place ∙ all)
