use Rattle.std.proofs.Common.{ap, ◌∙◌}
use Rattle.vg_book.proofs.TokenLemmas.{note_joined, looks_ok, meets_told}
use Rattle.vg_book.proofs.client.ClientToken.meet.Goals as goal

pub invariant_of-self : goal.invariant_of-self
invariant_of-self g c = let i = c.self.inside in let s = note_joined g.M.Machine c.self.inside.number c.self.inside.used c.self.inside.outstanding c.self.inside.holds i.seat.me c.into_seat.result.me c.join.new.seat.me c.self.invariant.1 c.join.ensures.both c.into_seat.ensures.ok.1 in
    (c.look.ensures.id ∙ (c.join.ensures.id ∙ c.self.invariant.0), looks_ok g.M.Machine c.self.inside.number c.self.inside.used c.self.inside.outstanding c.self.inside.holds i.seat.me c.join.new.seat.me c.look.new.seat.me c.self.invariant.1 s c.look.ensures.looked)

pub returns : goal.returns
returns g c = let i = c.self.inside in
    rw (← c.self.view_is) (meets_told g.M.Machine c.self.inside.number c.self.inside.used c.self.inside.outstanding c.self.inside.holds i.seat.me c.into_seat.result.me c.join.new.seat.me c.look.new.seat.me c.args.note c.self.invariant.1 c.join.ensures.both (ap (λ v. v.seen) c.into_seat.ensures.value) c.into_seat.ensures.ok.1 c.look.ensures.looked)
