use Rattle.std.proofs.Common.{◌≡◌, map}
use Rattle.vg_book_uses.proofs.share.servers.Given as goal

abbrev pub invariant-loop-lane : goal.invariant-loop-lane
invariant-loop-lane g l = map (λ job. job.lane) l.jobs.items ≡ l.yielded
