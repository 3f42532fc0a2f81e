use Rattle.std.proofs.Common.{ap, sym, ◌∙◌, ◌∷◌}
use Rattle.atomic_table.specs.Table.{rest}
use Rattle.vg_book.specs.declared.board.Slot.TheVariants.{Held}
use Rattle.vg_book.proofs.HandLemmas.{in_hand, hand_put}
use Rattle.vg_book.proofs.steps.end_in_hand.Goals as goal

pub slot_mut-slot-requires : goal.slot_mut-slot-requires
slot_mut-slot-requires g c = let t = c.requires.hand in (c.requires.table.0, (Held t.0, t.1 ∙ ap (λ l. (0, Held t.0) ∷ rest l) (sym t.1)))

pub end-requires-clause-held : goal.end-requires-clause-held
end-requires-clause-held g c = let t = c.requires.hand in (t.0, in_hand _ _ _ t.1 c.slot_mut-slot.ensures.value, t.2, t.3, t.4)

pub returns-clause-ends : goal.returns-clause-ends
returns-clause-ends g c = λ k e. let t = c.end.ensures k (in_hand _ _ _ e c.slot_mut-slot.ensures.value) in (t.0, hand_put _ _ _ t.0 e t.1, t.2)
