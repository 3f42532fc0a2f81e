use Rattle.std.proofs.Common.{refl, subst, sym, ◌∙◌}
use Rattle.vg_book.specs.Tokens.{Watched, client_value, ClientOk}
use Rattle.vg_book.proofs.TokenLemmas.{acts_told, acts_ok, looks_told, looks_ok, match_failed}
use Rattle.vg_book.proofs.client.ClientToken.act.Goals as goal

pub returns : goal.returns
returns g c = rw (← c.self.view_is) (acts_told g.M.Machine c.self.inside.number c.self.inside.used c.self.inside.outstanding c.self.inside.holds c.enter.new.holds c.args.act c.self.inside.seat.me c.enter.new.seat.me _ _ c.self.invariant.1 c.in_ok-done.ensures.ok)

pub invariant_of-self-2 : goal.invariant_of-self-2
invariant_of-self-2 g c = (c.enter.ensures.id ∙ c.self.invariant.0, acts_ok g.M.Machine c.self.inside.number c.self.inside.used c.self.inside.outstanding c.self.inside.holds c.enter.new.holds c.args.act c.self.inside.seat.me c.enter.new.seat.me _ _ c.self.invariant.1 c.in_ok-done.ensures.ok)

pub returns-in_err-done : goal.returns-in_err-done
returns-in_err-done g c = let i = c.self.inside in let e = c.in_err-done.ensures.err in
    match_failed c.from_residual.result _ _ c.from_residual.ensures.0
    (subst (λ h. Watched g.M.Machine c.args.self.now (client_value g.M.Machine i.number h c.enter.new.seat.me)) (sym e.1)
    (rw (← c.self.view_is) (looks_told g.M.Machine c.self.inside.number c.self.inside.used c.self.inside.outstanding c.self.inside.holds i.seat.me i.seat.me c.enter.new.seat.me c.self.invariant.1 c.self.invariant.1.seat.sits refl refl e.0)))

pub invariant_of-self : goal.invariant_of-self
invariant_of-self g c = let i = c.self.inside in let e = c.in_err-done.ensures.err in (
  c.enter.ensures.id ∙ c.self.invariant.0,
  subst (λ h. ClientOk g.M.Machine i.number i.used i.outstanding h c.enter.new.seat.me) (sym e.1)
      (looks_ok g.M.Machine c.self.inside.number c.self.inside.used c.self.inside.outstanding c.self.inside.holds i.seat.me i.seat.me c.enter.new.seat.me c.self.invariant.1 c.self.invariant.1.seat.sits e.0),
)
