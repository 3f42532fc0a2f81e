use Rattle.std.proofs.Common.{◌≡◌}
use Rattle.std.specs.Prelude.{map}
use Rattle.std.specs.List.{range_with_len}
use Rattle.vg_chain.specs.Descriptor.{packed_at}
use Rattle.vg_chain.proofs.descriptor.read_packed.Given as goal

abbrev pub invariant-loop-place : goal.invariant-loop-place
invariant-loop-place l = l.table.items ≡ map (λ i. packed_at l.count i l.bytes) (range_with_len 0 l.place)
