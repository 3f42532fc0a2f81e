use Rattle.std.proofs.Common.{arith, length, ◌≡◌, ◌∙◌, List, ℕ, ap, subst, drop}
use Rattle.std.specs.Prelude.{IfOk}
use Rattle.std.proofs.lemmas.List.{length-take, length-drop}
use Rattle.vg_pages.specs.BlocksWithin.{spliced}
use Rattle.vg_pages.proofs.Spliced.{length-splice}
use Rattle.vg_pages.proofs.blocks.block_of.Goals as goal

pub overwrite-requires : goal.overwrite-requires
overwrite-requires c =
    omega (arith, c.requires, ap length c.in_ok-page.ensures, length-take 4096 (drop c.args.start c.args.base.now), length-drop c.args.start c.args.base.now)

pub of-requires : goal.of-requires
of-requires c =
    let page = c.in_ok-page.page.items in
    let long : length page ≡ 4096 =
    omega (arith, c.requires, ap length c.in_ok-page.ensures, length-take 4096 (drop c.args.start c.args.base.now), length-drop c.args.start c.args.base.now) in
    ap length c.overwrite.ensures.bytes ∙ length-splice c.args.from c.args.bytes.now page (omega (arith, long, c.requires)) ∙ long

pub returns : goal.returns
returns c =
    let Over : List ℕ → List ℕ = λ xs. spliced c.args.from c.args.bytes.now xs in
    subst (λ xs. IfOk c.of.result (λ block. block ≡ xs)) (c.overwrite.ensures.bytes ∙ ap Over c.in_ok-page.ensures) c.of.ensures
