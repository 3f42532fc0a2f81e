use Rattle.std.proofs.Common.{rules, ◌≡◌, ℕ, ◌*◌, sym, ap, ◌∙◌, length, false, replicate, arith}
use Rattle.std.proofs.lemmas.List.{length-replicate}
use Rattle.vg_pages.specs.Memory.{free_pages}
use Rattle.vg_pages.proofs.CountLemmas.{all-free}
use Rattle.vg_pages.proofs.memory.Pages.new.Goals as goal

pub invariant_of-result : goal.invariant_of-result
invariant_of-result c =
    let taken : c.in_ok-taken.taken.items ≡ replicate c.args.count false = search rules in
    let many = ap length taken ∙ length-replicate c.args.count false in
    let bytes = ap length c.in_ok-bytes.ensures ∙ length-replicate {A = ℕ} (4096 * c.args.count) 0 in
    ((omega (arith, many, bytes), omega (arith, many, c.requires.some), omega (arith, many, c.requires.limit)), omega arith, record { each = λ page below. absurd (omega (arith, below)) }, sym (ap (λ flags. length (free_pages flags)) taken ∙ all-free c.args.count))
