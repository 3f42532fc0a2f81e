use Rattle.std.proofs.Common.{rules}
use Rattle.vg_pages.proofs.FreePages.{taken-more}
use Rattle.vg_pages.proofs.flags.next_free.Goals as goal

pub loop-page-preserved : goal.loop-page-preserved
loop-page-preserved c = taken-more c.args.taken.now c.loop-page.page (search rules) (search rules) c.loop-page.invariant
