use Rattle.std.proofs.Common.{◌≡◌, None, replicate}
use Rattle.vg_pages.proofs.blocks.none_of.Given as goal

abbrev pub invariant-loop-page : goal.invariant-loop-page
invariant-loop-page l = l.blocks.items ≡ replicate l._page None
