use Rattle.std.proofs.Common.{◌∙◌, ap, get_or, set}
use Rattle.vg_pages.proofs.Marked.{marked_none, marked_more}
use Rattle.vg_pages.proofs.flags.mark.Goals as goal

pub loop-page-init : goal.loop-page-init
loop-page-init c = marked_none c.args.now c.args.flags.now

pub loop-page-preserved : goal.loop-page-preserved
loop-page-preserved c =
    let pages = c.args.pages.now in
    let i = c.loop-page.page-index in
    ap (λ flags. set flags (get_or pages i 0) c.args.now) c.loop-page.invariant
    ∙ marked_more pages c.args.now c.args.flags.now i c.loop-page-test.true (c.requires i 0 c.loop-page-test.true)
