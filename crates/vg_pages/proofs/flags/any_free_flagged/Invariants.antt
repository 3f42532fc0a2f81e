use Rattle.std.proofs.Common.{◌≡◌, ◌≤◌, false, length}
use Rattle.std.specs.List.{list_any}
use Rattle.vg_pages.specs.Lending.{is_flagged}
use Rattle.vg_pages.proofs.FreePages.{free_below}
use Rattle.vg_pages.proofs.flags.any_free_flagged.Given as goal

abbrev pub invariant-loop-page : goal.invariant-loop-page
invariant-loop-page l = record {
  count : l.count ≡ length (free_below l.taken l.page);
  few : l.count ≤ l.n;
  none : list_any (is_flagged l.flags) (free_below l.taken l.page) ≡ false;
}
