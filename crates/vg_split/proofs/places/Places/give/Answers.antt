use Rattle.std.proofs.Common.{◌≡◌, ◌<◌, ◌∙◌, length, subst, sym, ap, slice_index_or, slice_set, ◌-◌, arith}
use Rattle.std.proofs.lemmas.List.{get_or_read}
use Rattle.vg_split.proofs.PlaceLemmas.{IsGiving, giving_bounds, giving_more, giving_ends}
use Rattle.vg_split.proofs.places.Places.give.Goals as goal

pub index-next-requires : goal.index-next-requires
index-next-requires c =
    let old = c.args.self.now in
    let now = c.loop-place.self in
    let bounds = giving_bounds old.links.items old.free.items old.at c.args.head now.free.items now.at c.loop-place.place c.loop-place.invariant.1 c.requires.0 c.requires.1 in
    let less : c.loop-place.place < length now.links.items = subst (λ xs. c.loop-place.place < length xs) (sym c.loop-place.invariant.0) bounds.2 in
    omega (arith, less, now.links.ok)

pub returns-then-next-place-clause-given : goal.returns-then-next-place-clause-given
returns-then-next-place-clause-given c =
    let old = c.args.self.now in
    let now = c.loop-place.self in
    let bounds = giving_bounds old.links.items old.free.items old.at c.args.head now.free.items now.at c.loop-place.place c.loop-place.invariant.1 c.requires.0 c.requires.1 in
    let less : c.loop-place.place < length now.links.items = subst (λ xs. c.loop-place.place < length xs) (sym c.loop-place.invariant.0) bounds.2 in
    let read = get_or_read now.links.items c.loop-place.place c.index-next.result.now less c.index-next.ensures 0 in
    let next : c.index-next.result.now ≡ slice_index_or old.links.items c.loop-place.place 0 = read ∙ ap (λ xs. slice_index_or xs c.loop-place.place 0) c.loop-place.invariant.0 in
    giving_ends old.links.items old.free.items old.at c.args.head now.free.items now.at c.loop-place.place c.loop-place.invariant.1 (sym next ∙ c.if-next-place.true)

pub loop-place-preserved : goal.loop-place-preserved
loop-place-preserved c =
    let old = c.args.self.now in
    let now = c.loop-place.self in
    let bounds = giving_bounds old.links.items old.free.items old.at c.args.head now.free.items now.at c.loop-place.place c.loop-place.invariant.1 c.requires.0 c.requires.1 in
    let less : c.loop-place.place < length now.links.items = subst (λ xs. c.loop-place.place < length xs) (sym c.loop-place.invariant.0) bounds.2 in
    let read = get_or_read now.links.items c.loop-place.place c.index-next.result.now less c.index-next.ensures 0 in
    let next : c.index-next.result.now ≡ slice_index_or old.links.items c.loop-place.place 0 = read ∙ ap (λ xs. slice_index_or xs c.loop-place.place 0) c.loop-place.invariant.0 in (
      c.loop-place.invariant.0,
      subst (λ k. IsGiving old.links.items old.free.items old.at c.args.head (slice_set now.free.items (now.at - 1) c.loop-place.place) (now.at - 1) k) (sym next)
          (giving_more old.links.items old.free.items old.at c.args.head now.free.items now.at c.loop-place.place c.loop-place.invariant.1 (λ same. c.if-next-place.false (next ∙ same))),
    )
