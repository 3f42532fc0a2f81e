use Rattle.std.proofs.Common.{subst, sym, ◌∙◌, refl}
use Rattle.vg_book.specs.HandsWithin.{EndsOn}
use Rattle.vg_book.proofs.HandLemmas.{held_same}
use Rattle.vg_book.proofs.board.Slot.end.Goals as goal

pub returns : goal.returns
returns g c = λ k e. (c.end.new.self, refl, subst (λ x. EndsOn g.M.Machine x c.args.client c.args.call c.args.request c.end.new.self c.end.result.0 c.end.result.1) (held_same _ _ (sym c.in-Held.is ∙ e)) c.end.ensures)
