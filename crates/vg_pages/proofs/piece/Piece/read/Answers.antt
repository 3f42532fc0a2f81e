use Rattle.std.proofs.Common.{◌≡◌, ◌≤◌, ◌-◌, ◌∙◌, ℕ, List, ap, sym, length, take, drop, replicate, arith}
use Rattle.std.proofs.lemmas.List.{drop-replicate, take-replicate, length-replicate}
use Rattle.vg_pages.specs.BlocksWithin.{shared_bytes}
use Rattle.vg_pages.proofs.piece.Piece.read.Goals as goal

pub returns-in-None : goal.returns-in-None
returns-in-None c =
    let p = c.self.inside in
    let n = length c.args.out.now in
    let zeros : List ℕ = replicate 4096 0 in
    let same : shared_bytes p.block ≡ zeros = ap shared_bytes c.in-None.is in
    let view : c.args.self.now ≡ take p.count (drop p.from zeros) = sym c.self.view_is ∙ ap (λ xs. take p.count (drop p.from xs)) same in
    let cut : take p.count (drop p.from zeros) ≡ replicate p.count 0 =
    ap (take p.count) (drop-replicate p.from 4096 0) ∙ take-replicate p.count (4096 - p.from) 0 (omega (arith, c.self.invariant.0)) in
    let some : n ≤ p.count = omega (arith, c.requires, ap length (view ∙ cut), length-replicate {A = ℕ} p.count 0) in
    c.fill_zeros.ensures ∙ sym (take-replicate n p.count 0 some) ∙ ap (take n) (sym (view ∙ cut))
