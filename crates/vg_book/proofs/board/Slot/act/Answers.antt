use Rattle.std.proofs.Common.{subst, sym, ◌∙◌, refl}
use Rattle.vg_book.specs.HandsWithin.{IsSameCore, ActsOn}
use Rattle.vg_book.proofs.HandLemmas.{ok_map, on_err_map, held_same}
use Rattle.vg_book.proofs.board.Slot.act.Goals as goal

pub returns-clause-ok : goal.returns-clause-ok
returns-clause-ok g c = ok_map c.act.result _ _ (λ r a. λ k e. (c.act.new.self, refl, subst (λ x. ActsOn g.M.Machine x c.args.client c.args.call c.args.holds.now c.args.act c.act.new.self c.act.new.holds r.0 r.1) (held_same _ _ (sym c.in-Held.is ∙ e)) a)) c.act.ensures.ok

pub returns-clause-err : goal.returns-clause-err
returns-clause-err g c = on_err_map c.act.result _ _ (λ t. λ k e. (c.act.new.self, refl, subst (λ x. IsSameCore g.M.Machine x c.act.new.self) (held_same _ _ (sym c.in-Held.is ∙ e)) t.0, t.1)) c.act.ensures.err
