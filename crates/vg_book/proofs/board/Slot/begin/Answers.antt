use Rattle.std.proofs.Common.{subst, sym, ◌∙◌, refl}
use Rattle.vg_book.specs.HandsWithin.{IsSameCore, RunsWhole, Lends}
use Rattle.vg_book.proofs.HandLemmas.{whole_map, lent_map, err_map, held_same}
use Rattle.vg_book.proofs.board.Slot.begin.Goals as goal

pub returns-clause-whole : goal.returns-clause-whole
returns-clause-whole g c = whole_map c.begin.result _ _ (λ r a. λ k e. (c.begin.new.self, refl, subst (λ x. RunsWhole g.M.Machine x c.args.client c.args.call c.args.request c.begin.new.self r.0 r.1) (held_same _ _ (sym c.in-Held.is ∙ e)) a)) c.begin.ensures.whole

pub returns-clause-lent : goal.returns-clause-lent
returns-clause-lent g c = lent_map c.begin.result _ _ (λ j a. (a.0, λ k e. (c.begin.new.self, refl, subst (λ x. Lends g.M.Machine x c.args.request c.begin.new.self j.0) (held_same _ _ (sym c.in-Held.is ∙ e)) a.1))) c.begin.ensures.lent

pub returns-clause-err : goal.returns-clause-err
returns-clause-err g c = err_map c.begin.result _ _ (λ q t. (t.1, λ k e. (c.begin.new.self, refl, subst (λ x. IsSameCore g.M.Machine x c.begin.new.self) (held_same _ _ (sym c.in-Held.is ∙ e)) t.0))) c.begin.ensures.err
