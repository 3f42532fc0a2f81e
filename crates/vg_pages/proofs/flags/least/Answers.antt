use Rattle.std.proofs.Common.{arith}
use Rattle.std.proofs.lemmas.List.{get_or_default}
use Rattle.vg_pages.proofs.Marked.{least-more}
use Rattle.vg_pages.proofs.flags.least.Goals as goal

pub loop-page-preserved : goal.loop-page-preserved
loop-page-preserved c = record {
  low = omega (arith, c.min-least.ensures, c.loop-page.invariant.low);
  pages = least-more c.args.pages.now c.loop-page.page-index c.loop-page.least c.min-least.result c.min-least.ensures c.loop-page.invariant.pages;
}

pub returns-clause-pages : goal.returns-clause-pages
returns-clause-pages c =
    λ k d within.
    omega (arith, get_or_default c.args.pages.now k d 0 within, c.loop-page.invariant.pages k (omega (arith, within, c.loop-page-test.false)))
