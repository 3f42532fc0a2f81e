use Rattle.std.proofs.Common.{length, ◌-◌, ◌≡◌, ◌≤◌, ◌++◌, take}
use Rattle.hex.specs.Hex.{encode_lower}
use Rattle.vg_text.proofs.packed.Packed.put_hex.Given as goal

abbrev pub invariant-loop-at : goal.invariant-loop-at
invariant-loop-at l = (l.self ≡ l.initial.self ++ encode_lower (take l.at l.bytes)) × (l.at ≤ length l.bytes)

abbrev pub decreases-loop-at : goal.decreases-loop-at
decreases-loop-at l = length l.bytes - l.at
