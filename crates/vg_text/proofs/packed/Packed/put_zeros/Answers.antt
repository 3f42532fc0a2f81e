use Rattle.std.proofs.Common.{◌≡◌, ◌+◌, ◌++◌, ◌∷◌, [], List, ℕ, sym, ap, subst, ◌∙◌}
use Rattle.vg_text.specs.Packing.{left, unpacked}
use Rattle.vg_text.proofs.PackingLemmas.{text_append, whole_append, zeros_said}
use Rattle.vg_text.proofs.packed.Packed.put_zeros.Goals as goal

pub invariant_of-self-2 : goal.invariant_of-self-2
invariant_of-self-2 c =
    subst (λ (l : List ℕ). left 0 l ≡ 0) (sym c.in_ok-push.ensures.items)
    (whole_append c.self.inside.bytes.items ((223 + c.args.count) ∷ []) c.self.invariant (zeros_said c.args.count c.requires.0).1)

pub returns-clause-ok : goal.returns-clause-ok
returns-clause-ok c =
    rw (← c.self.view_is)
    (ap (unpacked 0) c.in_ok-push.ensures.items ∙ text_append c.self.inside.bytes.items ((223 + c.args.count) ∷ []) c.self.invariant
    ∙ ap (λ (l : List ℕ). unpacked 0 c.self.inside.bytes.items ++ l) (zeros_said c.args.count c.requires.0).0)
