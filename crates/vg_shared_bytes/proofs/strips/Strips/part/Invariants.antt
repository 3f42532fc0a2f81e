use Rattle.std.proofs.Common.{◌≡◌, ◌+◌, ◌-◌, ◌≤◌, drop, length, take}
use Rattle.vg_shared_bytes.proofs.strips.Strips.part.Given as goal

abbrev pub invariant-loop-bytes : goal.invariant-loop-bytes
invariant-loop-bytes l = (l.bytes.items ≡ take (length l.bytes.items) (drop l.from l.self)) × (l.from + length l.bytes.items ≤ l.to)

abbrev pub decreases-loop-bytes : goal.decreases-loop-bytes
decreases-loop-bytes l = l.to - (l.from + length l.bytes.items)
