use Rattle.std.proofs.Common.{subst, sym, ◌≡◌, ◌∙◌}
use Rattle.vg_book.specs.Turns.{own}
use Rattle.vg_book.proofs.TokenLemmas.{pass_joined, returned_out, out_some, returns_ok, returns_told}
use Rattle.vg_book.proofs.client.ClientToken.take_unrun.Goals as goal

pub give_up-requires-clause-client : goal.give_up-requires-clause-client
give_up-requires-clause-client g c = let i = c.self.inside in (own g.M.Machine i.number i.holds i.seat.me, c.args.pass.order, pass_joined g.M.Machine c.self.inside.number c.self.inside.used c.self.inside.outstanding c.self.inside.holds c.self.inside.seat.me c.into_seat-seat.result.me c.join.new.seat.me c.args.pass.order c.self.invariant.1 c.join.ensures.both c.into_seat-seat.ensures.ok.1, subst (λ v. c.args.pass.order.client ≡ v.account.number) (sym c.self.view_is) c.requires)

pub overflow_sub-self : goal.overflow_sub-self
overflow_sub-self g c = let i = c.self.inside in let s = pass_joined g.M.Machine c.self.inside.number c.self.inside.used c.self.inside.outstanding c.self.inside.holds c.self.inside.seat.me c.into_seat-seat.result.me c.join.new.seat.me c.args.pass.order c.self.invariant.1 c.join.ensures.both c.into_seat-seat.ensures.ok.1 in
    out_some g.M.Machine (own g.M.Machine i.number i.holds i.seat.me) c.args.pass.order i.outstanding (returned_out g.M.Machine c.join.new.seat.me c.give_up.new.seat.me _ c.args.pass.order s c.give_up.ensures.given_up (subst (λ v. c.args.pass.order.client ≡ v.account.number) (sym c.self.view_is) c.requires)) c.self.invariant.1.out_is

pub invariant_of-self : goal.invariant_of-self
invariant_of-self g c = let i = c.self.inside in let s = pass_joined g.M.Machine c.self.inside.number c.self.inside.used c.self.inside.outstanding c.self.inside.holds c.self.inside.seat.me c.into_seat-seat.result.me c.join.new.seat.me c.args.pass.order c.self.invariant.1 c.join.ensures.both c.into_seat-seat.ensures.ok.1 in
    (c.give_up.ensures.id ∙ (c.join.ensures.id ∙ c.self.invariant.0), returns_ok g.M.Machine c.self.inside.number c.self.inside.used c.self.inside.outstanding c.self.inside.holds i.seat.me c.join.new.seat.me c.give_up.new.seat.me c.args.pass.order c.self.invariant.1 s c.give_up.ensures.given_up (subst (λ v. c.args.pass.order.client ≡ v.account.number) (sym c.self.view_is) c.requires))

pub returns : goal.returns
returns g c = let i = c.self.inside in let s = pass_joined g.M.Machine c.self.inside.number c.self.inside.used c.self.inside.outstanding c.self.inside.holds c.self.inside.seat.me c.into_seat-seat.result.me c.join.new.seat.me c.args.pass.order c.self.invariant.1 c.join.ensures.both c.into_seat-seat.ensures.ok.1 in
    rw (← c.self.view_is) (returns_told g.M.Machine c.self.inside.number c.self.inside.used c.self.inside.outstanding c.self.inside.holds i.seat.me c.into_seat-seat.result.me c.join.new.seat.me c.give_up.new.seat.me c.args.pass c.self.invariant.1 c.join.ensures.both c.into_seat-seat.ensures.value.0 s c.give_up.ensures.given_up (subst (λ v. c.args.pass.order.client ≡ v.account.number) (sym c.self.view_is) c.requires))
