use Rattle.std.proofs.Common.{◌≡◌, ℕ, rules, subst, sym}
use Rattle.vg_book.specs.Places.{HasCall}
use Rattle.vg_labels.proofs.label.Posted.note_of.Goals as goal

pub invariant_of-self : goal.invariant_of-self
invariant_of-self g c = subst (λ n. HasCall n.seen c.self.inside.client c.self.inside.call) (sym c.note.ensures.same) c.self.invariant

pub returns-then-self-call : goal.returns-then-self-call
returns-then-self-call g c =
    let client : c.self.inside.client ≡ c.args.client = search rules in
    let call : c.self.inside.call ≡ c.args.call = search rules in
    subst (λ (n : ℕ). HasCall c.note.result.seen n c.args.call) client
    (subst (λ (n : ℕ). HasCall c.note.result.seen c.self.inside.client n) call
    (subst (λ n. HasCall n.seen c.self.inside.client c.self.inside.call) (sym c.note.ensures.note) c.self.invariant))
