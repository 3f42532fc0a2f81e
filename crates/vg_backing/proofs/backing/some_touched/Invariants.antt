use Rattle.std.proofs.Common.{◌≡◌, ℕ, List, take, false}
use Rattle.std.specs.List.{list_any}
use Rattle.vg_pages.specs.Lending.{AreFlagged}
use Rattle.vg_backing.specs.Backing.{touches}
use Rattle.vg_backing.specs.Fits.{entries_of}
use Rattle.vg_backing.proofs.backing.some_touched.Given as goal

abbrev pub invariant-loop-run : goal.invariant-loop-run
invariant-loop-run l = (pages : List ℕ) → AreFlagged l.flags pages → list_any (λ page. touches page (take l.run-index (entries_of l.runs))) pages ≡ false
