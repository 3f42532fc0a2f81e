use Rattle.std.proofs.Common.{◌≡◌, [], sym, subst, ◌∙◌}
use mathlib.Core.Option.{some-injective}
use Rattle.vg_book.proofs.Ends.{ends}
use Rattle.vg_book.proofs.HandLemmas.{held_same}
use Rattle.vg_book.proofs.RootLemmas.{has_all, closes}
use Rattle.vg_book.specs.Tokens.{IsClosed}
use Rattle.vg_book.proofs.book.Book.close.Goals as goal

pub into_core-machine-requires : goal.into_core-machine-requires
into_core-machine-requires g c = let e = ends g.M.Machine (g.M.Machine.state c.args.self.table.shared.key.value) _ _ c.into_seat.result.id c.into_seat.result.me.0 c.close_with-closed.ensures.values.2 c.into_seat.ensures.ok.1.seat.root_is c.into_seat.ensures.ok.1.seat.idle c.into_seat.ensures.ok.1.seat.clear c.into_seat.ensures.ok.1.seat.begun (has_all g.M.Machine _ c.args.root c.into_seat.result.me c.into_seat.ensures.ok.1 c.into_seat.ensures.value c.requires) in (e.1, some-injective _ _ (sym c.take-slot.ensures.value ∙ e.2))

pub returns-clause-closed : goal.returns-clause-closed
returns-clause-closed g c = let e = ends g.M.Machine (g.M.Machine.state c.args.self.table.shared.key.value) _ _ c.into_seat.result.id c.into_seat.result.me.0 c.close_with-closed.ensures.values.2 c.into_seat.ensures.ok.1.seat.root_is c.into_seat.ensures.ok.1.seat.idle c.into_seat.ensures.ok.1.seat.clear c.into_seat.ensures.ok.1.seat.begun (has_all g.M.Machine _ c.args.root c.into_seat.result.me c.into_seat.ensures.ok.1 c.into_seat.ensures.value c.requires) in
    let same = held_same c.into_core-machine.result e.1 (sym c.into_core-machine.ensures ∙ some-injective _ _ (sym c.take-slot.ensures.value ∙ e.2)) in
    subst (λ h. IsClosed g.M.Machine c.args.root c.into_core-machine.result.machine h) (sym c.finish.ensures)
    (subst (λ k. IsClosed g.M.Machine c.args.root k.machine k.history.entries) (sym same) (closes g.M.Machine c.args.root c.into_seat.result.me e.1 e.0 c.into_seat.ensures.ok.1 c.into_seat.ensures.value e.3 e.4))

pub returns-clause-lent : goal.returns-clause-lent
returns-clause-lent g c = let e = ends g.M.Machine (g.M.Machine.state c.args.self.table.shared.key.value) _ _ c.into_seat.result.id c.into_seat.result.me.0 c.close_with-closed.ensures.values.2 c.into_seat.ensures.ok.1.seat.root_is c.into_seat.ensures.ok.1.seat.idle c.into_seat.ensures.ok.1.seat.clear c.into_seat.ensures.ok.1.seat.begun (has_all g.M.Machine _ c.args.root c.into_seat.result.me c.into_seat.ensures.ok.1 c.into_seat.ensures.value c.requires) in
    let same = held_same c.into_core-machine.result e.1 (sym c.into_core-machine.ensures ∙ some-injective _ _ (sym c.take-slot.ensures.value ∙ e.2)) in
    subst (λ k. g.M.Machine.lent k.machine ≡ []) (sym same) e.5
