use Rattle.std.proofs.Common.{ap, sym, ◌∙◌, ◌∷◌}
use Rattle.atomic_table.specs.Table.{rest}
use Rattle.vg_book.specs.declared.board.Slot.TheVariants.{Held}
use Rattle.vg_book.proofs.HandLemmas.{in_hand, whole_map, lent_map, err_map, hand_put}
use Rattle.vg_book.proofs.steps.begin_in_hand.Goals as goal

pub slot_mut-slot-requires : goal.slot_mut-slot-requires
slot_mut-slot-requires g c = let t = c.requires.hand in (c.requires.table.0, (Held t.0, t.1 ∙ ap (λ l. (0, Held t.0) ∷ rest l) (sym t.1)))

pub begin-requires : goal.begin-requires
begin-requires g c = let t = c.requires.hand in (t.0, in_hand _ _ _ t.1 c.slot_mut-slot.ensures.value, t.2, t.3, t.4)

pub returns-clause-whole : goal.returns-clause-whole
returns-clause-whole g c = whole_map c.begin.result _ _ (λ r f. λ k e. let t = f k (in_hand _ _ _ e c.slot_mut-slot.ensures.value) in (t.0, hand_put _ _ _ t.0 e t.1, t.2)) c.begin.ensures.whole

pub returns-clause-lent : goal.returns-clause-lent
returns-clause-lent g c = lent_map c.begin.result _ _ (λ j u. (u.0, λ k e. let t = u.1 k (in_hand _ _ _ e c.slot_mut-slot.ensures.value) in (t.0, hand_put _ _ _ t.0 e t.1, t.2))) c.begin.ensures.lent

pub returns-clause-err : goal.returns-clause-err
returns-clause-err g c = err_map c.begin.result _ _ (λ q u. (u.0, λ k e. let t = u.1 k (in_hand _ _ _ e c.slot_mut-slot.ensures.value) in (t.0, hand_put _ _ _ t.0 e t.1, t.2))) c.begin.ensures.err
