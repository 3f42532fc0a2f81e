use Rattle.std.proofs.Common.{rules, ◌≡◌, ◌∙◌, ◌*◌, sym, arith}
use Rattle.std.proofs.lemmas.List.FromFn.{length-range_with_len, map-range_with_len_more}
use Rattle.std.proofs.lemmas.List.{length-map}
use Rattle.vg_chain.specs.Descriptor.{descriptor_at}
use Rattle.vg_chain.proofs.descriptor.read_descriptors.Goals as goal

pub loop-place-preserved : goal.loop-place-preserved
loop-place-preserved c =
    rw (c.in_ok-push.ensures.items, c.loop-place.invariant, c.descriptor_at.ensures) (sym (map-range_with_len_more (λ i. descriptor_at (16 * i) c.args.bytes.now) 0 c.loop-place.place c.loop-place.place (omega arith)))

pub returns-clause-count : goal.returns-clause-count
returns-clause-count c =
    let all : c.loop-place.place ≡ c.args.count = search rules in
    rw (c.loop-place.invariant, length-map) (length-range_with_len 0 c.loop-place.place ∙ all)
