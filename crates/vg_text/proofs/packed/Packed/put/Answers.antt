use Rattle.std.proofs.Common.{◌≡◌, ◌++◌, List, ℕ, OnOk, subst}
use Rattle.vg_text.proofs.PackingLemmas.{characters_said, put_text, put_whole}
use Rattle.vg_text.specs.Packing.{unpacked}
use Rattle.vg_text.proofs.packed.Packed.put.Goals as goal

pub invariant_of-self : goal.invariant_of-self
invariant_of-self c =
    put_whole c.extend_from_slice.result c.self.inside.bytes.items c.args.text.now c.extend_from_slice.new.self.items c.extend_from_slice.ensures.items
    c.self.invariant (characters_said c.args.text.now c.requires).1

pub returns-clause-ok : goal.returns-clause-ok
returns-clause-ok c =
    rw (← c.self.view_is)
    (subst (λ (xs : List ℕ). OnOk c.extend_from_slice.result (unpacked 0 c.extend_from_slice.new.self.items ≡ unpacked 0 c.self.inside.bytes.items ++ xs)) (characters_said c.args.text.now c.requires).0
    (put_text c.extend_from_slice.result c.self.inside.bytes.items c.args.text.now c.extend_from_slice.new.self.items c.extend_from_slice.ensures.items c.self.invariant))
