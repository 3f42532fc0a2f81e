use Rattle.std.proofs.Common.{ap, sym, ◌∙◌, ◌∷◌}
use Rattle.atomic_table.specs.Table.{rest}
use Rattle.vg_book.specs.declared.board.Slot.TheVariants.{Held}
use Rattle.vg_book.proofs.HandLemmas.{in_hand, ok_map, on_err_map, hand_put}
use Rattle.vg_book.proofs.steps.act_in_hand.Goals as goal

pub slot_mut-slot-requires : goal.slot_mut-slot-requires
slot_mut-slot-requires g c = let t = c.requires.hand in (c.requires.table.0, (Held t.0, t.1 ∙ ap (λ l. (0, Held t.0) ∷ rest l) (sym t.1)))

pub act-requires : goal.act-requires
act-requires g c = let t = c.requires.hand in (t.0, in_hand _ _ _ t.1 c.slot_mut-slot.ensures.value, t.2, t.3)

pub returns-clause-ok : goal.returns-clause-ok
returns-clause-ok g c = ok_map c.act.result _ _ (λ r f. λ k e. let t = f k (in_hand _ _ _ e c.slot_mut-slot.ensures.value) in (t.0, hand_put _ _ _ t.0 e t.1, t.2)) c.act.ensures.ok

pub returns-clause-err : goal.returns-clause-err
returns-clause-err g c = on_err_map c.act.result _ _ (λ f. λ k e. let t = f k (in_hand _ _ _ e c.slot_mut-slot.ensures.value) in (t.0, hand_put _ _ _ t.0 e t.1, t.2, t.3)) c.act.ensures.err
