use Rattle.std.proofs.Common.{◌≡◌, ◌≤◌, vec_len}
use Rattle.vg_pages.proofs.FreePages.{free_below}
use Rattle.vg_pages.proofs.flags.lowest_free.Given as goal

abbrev pub invariant-loop-page : goal.invariant-loop-page
invariant-loop-page l = record {
  pages : l.pages.items ≡ free_below l.taken l.page;
  few : vec_len l.pages ≤ l.n;
}
