use Rattle.std.proofs.Common.{Some, ◌≡◌, ◌+◌, ◌++◌, ◌∷◌, [], length, refl, ap, ◌∙◌, arith}
use Rattle.slab.specs.Slab.{Slab}
use Rattle.vg_names.specs.declared.names.Held.{Held}
use Rattle.vg_names.proofs.NamesLemmas.{kept_after_take, kept_alike, made_more, named}
use Rattle.vg_names.proofs.names.Names.make.Goals as goal

pub invariant_of-self : goal.invariant_of-self
invariant_of-self c =
    kept_alike c.self.inside.held.slots c.self.inside.held.slots c.self.inside.places.items c.reserve.new.self.items refl
    c.reserve.ensures.items c.self.invariant

pub invariant_of-self-in_err-reserve-2 : goal.invariant_of-self-in_err-reserve-2
invariant_of-self-in_err-reserve-2 c =
    kept_alike c.self.inside.held.slots c.reserve-2.new.self.slots c.self.inside.places.items c.reserve.new.self.items
    (ap (λ (s : Slab Held). s.slots) c.reserve-2.ensures.rest_kept) c.reserve.ensures.items c.self.invariant

pub invariant_of-self-2 : goal.invariant_of-self-2
invariant_of-self-2 c =
    let reserved = kept_alike c.self.inside.held.slots c.reserve-2.new.self.slots c.self.inside.places.items c.reserve.new.self.items
    (ap (λ (s : Slab Held). s.slots) c.reserve-2.ensures.rest_kept) c.reserve.ensures.items c.self.invariant
    in
    let pushed = rw c.unwrap.ensures at c.push.ensures.items in
    rw pushed
    (kept_after_take c.insert_reserved-place.result (named (c.len.result + 1) c.args.key c.args.width c.args.height)
    c.reserve-2.new.self c.insert_reserved-place.new.self c.reserve.new.self.items reserved c.insert_reserved-place.ensures.updates
    (omega arith))

pub returns-clause-ok : goal.returns-clause-ok
returns-clause-ok c =
    let pushed = rw c.unwrap.ensures at c.push.ensures.items in
    let items : c.push.new.self.items ≡ c.self.inside.places.items ++ Some c.insert_reserved-place.result ∷ [] =
    pushed ∙ ap (λ xs. xs ++ Some c.insert_reserved-place.result ∷ []) c.reserve.ensures.items
    in
    let next : c.len.result + 1 ≡ length c.self.inside.places.items + 1 = omega (arith, ap length c.reserve.ensures.items) in
    rw (← c.self.view_is)
    (made_more c.insert_reserved-place.result c.args.key c.args.width c.args.height (c.len.result + 1) c.self.inside.held
    c.reserve-2.new.self c.insert_reserved-place.new.self c.self.inside.places.items c.push.new.self.items
    (ap (λ (s : Slab Held). s.slots) c.reserve-2.ensures.rest_kept) c.insert_reserved-place.ensures.was_vacant
    c.insert_reserved-place.ensures.updates next items)
