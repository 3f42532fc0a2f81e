use Rattle.std.proofs.Common.{ap, sym, subst, ◌∙◌}
use Rattle.vg_history.specs.History.{HasFence}
use Rattle.vg_history.specs.Lists.{Has}
use Rattle.vg_history.proofs.ListLemmas.{has_at}
use Rattle.vg_book.specs.Views.{entry_of}
use Rattle.vg_book.specs.Tokens.{finished_of}
use Rattle.vg_book.proofs.pass.DonePass.note.Goals as goal

pub returns-clause-fence : goal.returns-clause-fence
returns-clause-fence g c = let i = c.self.inside in let seen = ap (λ v. v.seen) c.of.ensures ∙ ap (λ m. m.0.seen) c.twin.ensures.noted in
    subst (λ l. HasFence g.M.Machine (g.M.Machine.tagged c.args.self.now.order.request).0 (g.M.Machine.tagged c.args.self.now.order.request).1 l) (sym seen)
    (subst (λ v. HasFence g.M.Machine (g.M.Machine.tagged v.order.request).0 (g.M.Machine.tagged v.order.request).1 i.seat.me.0.seen) c.self.view_is
    (subst (λ t. HasFence g.M.Machine t.0 t.1 i.seat.me.0.seen) (sym c.self.invariant.1.tag) c.self.invariant.1.fence))

pub returns-clause-entry : goal.returns-clause-entry
returns-clause-entry g c =
    let i = c.self.inside in
    let seen = ap (λ v. v.seen) c.of.ensures ∙ ap (λ m. m.0.seen) c.twin.ensures.noted in
    let has = has_at i.seat.me.0.seen i.place _ c.self.invariant.1.stands in
    subst (λ l. Has l (entry_of (finished_of g.M.Machine c.args.self.now))) (sym seen) (subst (λ v. Has i.seat.me.0.seen (entry_of (finished_of g.M.Machine v))) c.self.view_is has)
