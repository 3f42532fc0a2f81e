use Rattle.std.proofs.Common.{◌≡◌, ◌<◌, ◌≤◌, ℕ, false}
use Rattle.vg_pages.specs.Lending.{is_flagged}
use Rattle.vg_backing.proofs.backing.any_flagged_between.Given as goal

abbrev pub invariant-loop-page : goal.invariant-loop-page
invariant-loop-page l = (k : ℕ) → l.first ≤ k → k < l.page → is_flagged l.flags k ≡ false
