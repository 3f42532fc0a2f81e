use Rattle.std.proofs.Common.{ap, sym, ◌∙◌, ◌∷◌}
use Rattle.atomic_table.specs.Table.{rest}
use Rattle.vg_book.specs.declared.board.Slot.TheVariants.{Held}
use Rattle.vg_book.proofs.HandLemmas.{in_hand, hand_back}
use Rattle.vg_book.proofs.turn.is_open.Goals as goal

pub slot_mut-slot-requires : goal.slot_mut-slot-requires
slot_mut-slot-requires g c = let t = c.requires.hand in (c.requires.table.0, (Held t.0, t.1 ∙ ap (λ l. (0, Held t.0) ∷ rest l) (sym t.1)))

pub is_open-requires : goal.is_open-requires
is_open-requires g c = let t = c.requires.hand in (t.0, in_hand _ _ _ t.1 c.slot_mut-slot.ensures.value)

pub returns-clause-same : goal.returns-clause-same
returns-clause-same g c = let t = c.requires.hand in let e = in_hand _ _ _ t.1 c.slot_mut-slot.ensures.value in hand_back c.args.seat.now.me c.slot_mut-slot.result.now c.slot_mut-slot.ensures.value

pub returns-clause-unblocked : goal.returns-clause-unblocked
returns-clause-unblocked g c = λ k e yes. c.is_open.ensures k (in_hand _ _ _ e c.slot_mut-slot.ensures.value) yes
