use Rattle.std.proofs.Common.{◌<◌, ◌≡◌, ◌++◌, List, ℕ, drop, length, ap, sym, subst, ◌∙◌, append_assoc, arith, length-append}
use Rattle.vg_text.specs.Packing.{left, unpacked}
use Rattle.vg_text.proofs.PackingLemmas.{rest_whole, rest_said, rest_falls}
use Rattle.vg_text.proofs.spelling.Spelling.put_next.Goals as goal

pub invariant_of-self : goal.invariant_of-self
invariant_of-self c = subst (λ (l : List ℕ). left 0 l ≡ 0) (sym c.rest_of-self-inside.ensures) (rest_whole c.in_ok-end.end c.self.inside.rest.now c.self.invariant c.in_ok-end.ensures.whole)

pub returns-clause-moved : goal.returns-clause-moved
returns-clause-moved c =
    ap (λ (l : List ℕ). c.put_part.new.out.items ++ unpacked 0 l) c.rest_of-self-inside.ensures ∙ ap (λ (l : List ℕ). l ++ unpacked 0 (drop c.in_ok-end.end c.self.inside.rest.now)) c.in_ok-end.ensures.text
    ∙ append_assoc c.args.out.now.items _ _ ∙ ap (λ (l : List ℕ). c.args.out.now.items ++ l) (rest_said c.in_ok-end.end c.self.inside.rest.now c.in_ok-end.ensures.whole ∙ c.self.view_is)

pub returns-clause-falls : goal.returns-clause-falls
returns-clause-falls c =
    rw (← c.self.view_is) (subst (λ (l : List ℕ). length (unpacked 0 l) < length (unpacked 0 c.self.inside.rest.now)) (sym c.rest_of-self-inside.ensures)
    (rest_falls c.in_ok-end.end c.self.inside.rest.now c.in_ok-end.ensures.whole c.in_ok-end.ensures.some.0 c.in_ok-end.ensures.some.1))

pub returns-clause-few : goal.returns-clause-few
returns-clause-few c =
    let sizes = ap length (returns-clause-moved c) in
    let after = length-append c.put_part.new.out.items (unpacked 0 c.rest_of-self-inside.result.now) in
    let before = length-append c.args.out.now.items c.args.self.now in
    let few = c.in_ok-end.ensures.few in
    omega (arith, sizes, after, before, few)
