use Rattle.std.proofs.Common.{subst, sym, arith, ◌≡◌, ◌∙◌}
use Rattle.vg_book.specs.Turns.{own}
use Rattle.vg_book.specs.Tokens.{finished_of}
use Rattle.vg_book.proofs.TokenLemmas.{done_joined, settled_out, out_some, settles_ok, settles_told}
use Rattle.vg_book.proofs.client.ClientToken.take_back.Goals as goal

pub settle-requires-clause-client : goal.settle-requires-clause-client
settle-requires-clause-client g c = let i = c.self.inside in (own g.M.Machine i.number i.holds i.seat.me, finished_of g.M.Machine c.args.done, done_joined g.M.Machine c.self.inside.number c.self.inside.used c.self.inside.outstanding c.self.inside.holds c.self.inside.seat.me c.into_parts-place.result.1.me c.join.new.seat.me (finished_of g.M.Machine c.args.done) c.self.invariant.1 c.join.ensures.both c.into_parts-place.ensures.sits, subst (λ v. c.args.done.order.client ≡ v.account.number) (sym c.self.view_is) c.requires)

pub overflow_sub-self : goal.overflow_sub-self
overflow_sub-self g c = let i = c.self.inside in let s = done_joined g.M.Machine c.self.inside.number c.self.inside.used c.self.inside.outstanding c.self.inside.holds c.self.inside.seat.me c.into_parts-place.result.1.me c.join.new.seat.me (finished_of g.M.Machine c.args.done) c.self.invariant.1 c.join.ensures.both c.into_parts-place.ensures.sits in
    out_some g.M.Machine (own g.M.Machine i.number i.holds i.seat.me) c.args.done.order i.outstanding (settled_out g.M.Machine c.join.new.seat.me c.settle.new.seat.me _ (finished_of g.M.Machine c.args.done) s c.settle.ensures.settled (subst (λ v. c.args.done.order.client ≡ v.account.number) (sym c.self.view_is) c.requires)) c.self.invariant.1.out_is

pub overflow_add-result : goal.overflow_add-result
overflow_add-result g c = omega (arith, c.into_parts-place.ensures.room)

pub invariant_of-self : goal.invariant_of-self
invariant_of-self g c = let i = c.self.inside in let s = done_joined g.M.Machine c.self.inside.number c.self.inside.used c.self.inside.outstanding c.self.inside.holds c.self.inside.seat.me c.into_parts-place.result.1.me c.join.new.seat.me (finished_of g.M.Machine c.args.done) c.self.invariant.1 c.join.ensures.both c.into_parts-place.ensures.sits in
    (c.settle.ensures.id ∙ (c.join.ensures.id ∙ c.self.invariant.0), settles_ok g.M.Machine c.self.inside.number c.self.inside.used c.self.inside.outstanding c.self.inside.holds i.seat.me c.join.new.seat.me c.settle.new.seat.me (finished_of g.M.Machine c.args.done) c.self.invariant.1 s c.settle.ensures.settled (subst (λ v. c.args.done.order.client ≡ v.account.number) (sym c.self.view_is) c.requires))

pub returns-clause-back : goal.returns-clause-back
returns-clause-back g c = let i = c.self.inside in let s = done_joined g.M.Machine c.self.inside.number c.self.inside.used c.self.inside.outstanding c.self.inside.holds c.self.inside.seat.me c.into_parts-place.result.1.me c.join.new.seat.me (finished_of g.M.Machine c.args.done) c.self.invariant.1 c.join.ensures.both c.into_parts-place.ensures.sits in
    rw (← c.self.view_is) (settles_told g.M.Machine c.self.inside.number c.self.inside.used c.self.inside.outstanding c.self.inside.holds i.seat.me c.into_parts-place.result.1.me c.join.new.seat.me c.settle.new.seat.me c.args.done c.self.invariant.1 c.join.ensures.both c.into_parts-place.ensures.value.1 s c.settle.ensures.settled (subst (λ v. c.args.done.order.client ≡ v.account.number) (sym c.self.view_is) c.requires))
