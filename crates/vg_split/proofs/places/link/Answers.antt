use Rattle.std.proofs.Common.{◌≡◌, ℕ, suc, ◌-◌, ◌+◌, ◌<◌, length, drop, slice_index_or, subst, ap, ◌∙◌, arith}
use Rattle.vg_split.specs.Places.{wrong, next_in}
use Rattle.vg_split.proofs.PlaceLemmas.{times_get, linked_more, others_more}
use Rattle.vg_split.proofs.places.link.Goals as goal

pub bounds-links-places : goal.bounds-links-places
bounds-links-places c =
    let at = c.loop-at.at - 1 in
    let inside : at < length c.args.places.now = omega (arith, c.loop-at.invariant.0, c.loop-at-test.true) in
    let less = c.requires.below (slice_index_or c.args.places.now at 0) (times_get c.args.places.now at inside) in
    omega (arith, less, c.loop-at.auto.links)

pub loop-at-preserved : goal.loop-at-preserved
loop-at-preserved c =
    let places = c.args.places.now in
    let at = c.loop-at.at - 1 in
    let inside : at < length places = omega (arith, c.loop-at.invariant.0, c.loop-at-test.true) in
    let less = c.requires.below (slice_index_or places at 0) (times_get places at inside) in
    let is : c.loop-at.at ≡ suc at = omega (arith, c.loop-at-test.true) in
    let linked : wrong c.loop-at.links (drop (suc at) places) ≡ 0 = subst (λ (k : ℕ). wrong c.loop-at.links (drop k places) ≡ 0) is c.loop-at.invariant.1 in
    let next : c.next_of.result ≡ next_in (slice_index_or places at 0) (drop (suc at) places) = c.next_of.ensures ∙ ap (λ (k : ℕ). next_in (slice_index_or places at 0) (drop k places)) (let one : at + 1 ≡ suc at = omega arith in one) in (
      omega (arith, inside),
      linked_more c.loop-at.links places at c.next_of.result inside c.requires.apart (omega (arith, less, c.loop-at.auto.links)) next linked,
      others_more c.loop-at.links c.args.links.now places at c.next_of.result inside c.loop-at.invariant.2,
    )
