use Rattle.std.proofs.Common.{◌≡◌, take}
use Rattle.vg_pages.specs.Memory.{marked}
use Rattle.vg_pages.proofs.flags.mark.Given as goal

abbrev pub invariant-loop-page : goal.invariant-loop-page
invariant-loop-page l = l.flags ≡ marked (take l.page-index l.pages) l.now l.initial.flags
