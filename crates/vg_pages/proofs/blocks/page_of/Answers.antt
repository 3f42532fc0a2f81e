use Rattle.std.proofs.Common.{◌≡◌, ◌∙◌, ℕ, ap, length, take, drop, arith}
use Rattle.std.proofs.lemmas.List.{length-take, length-drop, length-replicate, take_at}
use Rattle.vg_pages.proofs.blocks.page_of.Goals as goal

pub returns : goal.returns
returns c =
    let base = c.args.base.now in
    let rest = drop c.args.start base in
    let page = c.in_ok-page.page in
    let many : length page.items ≡ 4096 = ap length c.in_ok-page.ensures ∙ length-replicate {A = ℕ} 4096 0 in
    let lent : length c.as_mut_slice.result.now ≡ 4096 = ap length c.as_mut_slice.ensures.value ∙ many in
    let read = c.read.ensures ∙ ap (λ n. take n rest) lent in
    let long : length c.read.new.out ≡ page.len = ap length read ∙ omega (arith, length-take 4096 rest, length-drop c.args.start base, c.requires, many, page.ok) in
    take_at c.read.new.out (drop (length c.read.new.out) page.items) page.len long ∙ read
