use Rattle.std.proofs.Common.{◌≤◌}
use Rattle.vg_text.proofs.packed.others_at.Given as goal

abbrev pub invariant-loop-count : goal.invariant-loop-count
invariant-loop-count l = l.zeros ≤ l.count
