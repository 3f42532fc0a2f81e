use Rattle.std.proofs.Common.{◌≡◌, ◌++◌, List, ℕ, OnOk, sym, subst}
use Rattle.vg_text.proofs.PackingLemmas.{put_text, put_whole}
use Rattle.vg_text.specs.Packing.{left, unpacked}
use Rattle.vg_text.proofs.packed.Packed.append.Goals as goal

pub invariant_of-self : goal.invariant_of-self
invariant_of-self c =
    put_whole c.extend_from_slice.result c.self.inside.bytes.items c.as_slice.result.now c.extend_from_slice.new.self.items c.extend_from_slice.ensures.items
    c.self.invariant (subst (λ (xs : List ℕ). left 0 xs ≡ 0) (sym c.as_slice.ensures.value) c.more.invariant)

pub returns-clause-ok : goal.returns-clause-ok
returns-clause-ok c =
    rw (← c.self.view_is, ← c.more.view_is)
    (subst (λ (xs : List ℕ). OnOk c.extend_from_slice.result (unpacked 0 c.extend_from_slice.new.self.items ≡ unpacked 0 c.self.inside.bytes.items ++ unpacked 0 xs)) c.as_slice.ensures.value
    (put_text c.extend_from_slice.result c.self.inside.bytes.items c.as_slice.result.now c.extend_from_slice.new.self.items c.extend_from_slice.ensures.items c.self.invariant))
