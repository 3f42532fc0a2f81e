use Rattle.std.proofs.Common.{length, ℕ}
use Rattle.vg_jobs.proofs.crew.+apart.Given as goal

abbrev pub decreases-apart : goal.decreases-apart
decreases-apart g l = length l.jobs.items
