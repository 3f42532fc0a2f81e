use Rattle.std.proofs.Common.{◌+◌, ◌*◌, ◌≤◌, ◌++◌, ◌∙◌, ap, List, ℕ, get_or, length, take, drop, refl, replicate, arith}
use Rattle.vg_pages.proofs.Marked.{length-zeroed, zeroed-next, zeroed_none}
use Rattle.vg_pages.proofs.flags.zero.Goals as goal

pub loop-page-init : goal.loop-page-init
loop-page-init c = zeroed_none c.args.bytes.now

pub zero-requires : goal.zero-requires
zero-requires c =
    let pages = c.args.pages.now in
    let i = c.loop-page.page-index in
    let inside = c.requires i 0 c.loop-page-test.true in
    let long = ap length c.loop-page.invariant ∙ length-zeroed (take i pages) c.args.bytes.now in
    omega (arith, inside, long)

pub loop-page-preserved : goal.loop-page-preserved
loop-page-preserved c =
    let pages = c.args.pages.now in
    let i = c.loop-page.page-index in
    let start = get_or pages i 0 * 4096 in
    let page : List ℕ = replicate 4096 0 in
    let Written : List ℕ → List ℕ = λ bytes. (take start bytes ++ page) ++ drop (start + 4096) bytes in
    let inside : start + 4096 ≤ length c.args.bytes.now = omega (arith, c.requires i 0 c.loop-page-test.true) in
    c.zero.ensures ∙ ap Written c.loop-page.invariant ∙ zeroed-next pages c.args.bytes.now i start c.loop-page-test.true refl inside
