use Rattle.std.proofs.Common.{◌≡◌, false, take}
use Rattle.std.specs.List.{list_any}
use Rattle.vg_pages.specs.Lending.{is_flagged}
use Rattle.vg_pages.proofs.flags.any_flagged.Given as goal

abbrev pub invariant-loop-page : goal.invariant-loop-page
invariant-loop-page l = list_any (is_flagged l.flags) (take l.page-index l.pages) ≡ false
