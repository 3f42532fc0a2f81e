use Rattle.std.proofs.Common.{◌≡◌, take}
use Rattle.vg_pages.specs.Memory.{zeroed}
use Rattle.vg_pages.proofs.flags.zero.Given as goal

abbrev pub invariant-loop-page : goal.invariant-loop-page
invariant-loop-page l = l.bytes ≡ zeroed (take l.page-index l.pages) l.initial.bytes
