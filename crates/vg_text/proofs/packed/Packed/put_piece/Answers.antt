use Rattle.std.proofs.Common.{◌≡◌, ◌++◌, ◌∷◌, [], List, ℕ, ap, ◌∙◌, arith}
use Rattle.hex.specs.Hex.{encode_lower}
use Rattle.vg_text.specs.Packing.{left, unpacked}
use Rattle.vg_text.proofs.PackingLemmas.{on_ok, piece_whole}
use Rattle.vg_text.proofs.packed.Packed.put_piece.Goals as goal

spelled : (c : goal.After-extend_from_slice) → (unpacked 0 c.extend_from_slice.new.self.items ≡ unpacked 0 c.self.inside.bytes.items ++ encode_lower c.args.bytes.now) × (left 0 c.extend_from_slice.new.self.items ≡ 0)
spelled c =
    let room = c.in_ok-reserve.ensures.ok in
    let kept = c.push_reserved.ensures.capacity in
    let more = c.push_reserved.ensures.len in
    piece_whole c.extend_from_slice.result c.self.inside.bytes.items c.push_reserved.new.self.items c.extend_from_slice.new.self.items c.args.bytes.now c.args.first c.requires.says c.requires.next
    (c.push_reserved.ensures.items ∙ ap (λ (l : List ℕ). l ++ c.args.first ∷ []) c.in_ok-reserve.ensures.items) c.extend_from_slice.ensures.items
    (c.extend_from_slice.ensures.succeeds (omega (arith, room, kept, more))) c.self.invariant

pub invariant_of-self-2 : goal.invariant_of-self-2
invariant_of-self-2 c = (spelled c).1

pub returns-clause-ok : goal.returns-clause-ok
returns-clause-ok c = on_ok c.extend_from_slice.result (rw (← c.self.view_is) (spelled c).0)
