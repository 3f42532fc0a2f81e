use Rattle.std.proofs.Common.{◌≡◌, ◌≤◌, ◌+◌, ◌-◌, ◌∙◌, ap, sym, length, take, drop, arith}
use Rattle.std.proofs.lemmas.List.{drop-drop, drop-take, length-take}
use Rattle.vg_pages.specs.BlocksWithin.{shared_bytes}
use Rattle.vg_pages.proofs.piece.Piece.skip.Goals as goal

pub overflow_add-self : goal.overflow_add-self
overflow_add-self c =
    let p = c.self.inside in
    omega (arith, c.requires, ap length c.self.view_is, c.self.invariant, length-take p.count (drop p.from (shared_bytes p.block)))

pub returns : goal.returns
returns c =
    let p = c.self.inside in
    let xs = shared_bytes p.block in
    let n = c.args.count in
    let few : n ≤ p.count = omega (arith, c.requires, ap length c.self.view_is, length-take p.count (drop p.from xs)) in
    let split : n + (p.count - n) ≡ p.count = omega (arith, few) in
    ap (take (p.count - n)) (sym (drop-drop n p.from xs)) ∙ sym (drop-take n (p.count - n) (drop p.from xs))
    ∙ ap (λ m. drop n (take m (drop p.from xs))) split ∙ ap (drop n) c.self.view_is
