use Rattle.std.proofs.Common.{ap, subst, sym, ◌≡◌, ◌∙◌, ◌+◌, [], ◌∷◌, true, false}
use Rattle.vg_book.specs.Turns.{Sits, order, own}
use Rattle.vg_book.specs.Tokens.{pass_value}
use Rattle.vg_book.proofs.TokenLemmas.{draws_ok, drawn_pass, draws_told}
use Rattle.vg_book.proofs.client.ClientToken.pass_of.Goals as goal

pub draw-request-requires-clause-client : goal.draw-request-requires-clause-client
draw-request-requires-clause-client g c = let i = c.self.inside in (own g.M.Machine i.number i.holds i.seat.me, c.self.invariant.1.seat.sits, subst (λ v. g.M.Machine.allows v.account.holds c.args.request.value ≡ true) (sym c.self.view_is) c.requires.allowed)

pub of-requires-clause-seat : goal.of-requires-clause-seat
of-requires-clause-seat g c = (c.hand-seat.ensures.id.1 ∙ (c.draw-request.ensures.id ∙ c.self.invariant.0), subst (λ q. Sits c.hand-seat.result.me [] [] (order g.M.Machine c.self.inside.number (c.self.inside.used + 1) q ∷ []) [] false) (sym c.draw-request.ensures.same) (drawn_pass g.M.Machine c.self.inside.number c.self.inside.used c.self.inside.outstanding c.self.inside.holds c.self.inside.seat.me c.draw-request.new.seat.me c.hand-seat.result.me c.args.request.value c.self.invariant.1 c.draw-request.ensures.drawn c.hand-seat.ensures.right))

pub invariant_of-self : goal.invariant_of-self
invariant_of-self g c = (c.hand-seat.ensures.id.0 ∙ (c.draw-request.ensures.id ∙ c.self.invariant.0), draws_ok g.M.Machine c.self.inside.number c.self.inside.used c.self.inside.outstanding c.self.inside.holds c.self.inside.seat.me c.draw-request.new.seat.me c.hand-seat.new.seat.me c.args.request.value c.self.invariant.1 c.draw-request.ensures.drawn c.hand-seat.ensures.left)

pub returns : goal.returns
returns g c = rw (← c.self.view_is) (draws_told g.M.Machine c.self.inside.number c.self.inside.used c.self.inside.outstanding c.self.inside.holds c.self.inside.seat.me c.draw-request.new.seat.me c.hand-seat.new.seat.me c.hand-seat.result.me c.args.request.value c.self.invariant.1 c.draw-request.ensures.drawn c.hand-seat.ensures.left c.hand-seat.ensures.right c.of.result (c.of.ensures ∙ ap (λ q. pass_value g.M.Machine c.self.inside.number (c.self.inside.used + 1) q c.hand-seat.result.me) c.draw-request.ensures.same))
