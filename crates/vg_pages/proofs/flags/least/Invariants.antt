use Rattle.std.proofs.Common.{◌<◌, ◌≤◌, ℕ, get_or}
use Rattle.vg_pages.proofs.flags.least.Given as goal

abbrev pub invariant-loop-page : goal.invariant-loop-page
invariant-loop-page l = record {
  low : l.least ≤ l.initial.low;
  pages : (k : ℕ) → k < l.page-index → l.least ≤ get_or l.pages k 0;
}
