use Rattle.std.proofs.Common.{◌≡◌, take, drop, replicate}
use Rattle.vg_text.proofs.packed.zeros_at.Given as goal

abbrev pub invariant-loop-count : goal.invariant-loop-count
invariant-loop-count l = take l.count (drop l.at l.bytes) ≡ replicate l.count 0
