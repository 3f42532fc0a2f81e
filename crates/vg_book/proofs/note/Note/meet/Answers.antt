use Rattle.std.proofs.Common.{ap, ◌∙◌}
use Rattle.vg_book.proofs.TokenLemmas.{note_looks, notes_joined, notes_told}
use Rattle.vg_book.proofs.note.Note.meet.Goals as goal

pub invariant_of-self : goal.invariant_of-self
invariant_of-self g c =
    let joined = notes_joined g.M.Machine c.self.inside.seat.me c.into_seat.result.me c.join.new.seat.me c.self.invariant.1 c.into_seat.ensures.ok.1 c.join.ensures.both in
    (c.look.ensures.id ∙ (c.join.ensures.id ∙ c.self.invariant.0), note_looks g.M.Machine c.join.new.seat.me c.look.new.seat.me joined c.look.ensures.looked)

pub returns : goal.returns
returns g c =
    rw (← c.self.view_is) (notes_told g.M.Machine c.self.inside.seat.me c.into_seat.result.me c.join.new.seat.me c.look.new.seat.me c.args.note c.join.ensures.both (ap (λ v. v.seen) c.into_seat.ensures.value) c.look.ensures.looked)
