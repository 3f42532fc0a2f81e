use Rattle.std.proofs.Common.{◌≡◌}
use Rattle.vg_chain.specs.Descriptor.{descriptors_in}
use Rattle.vg_chain.proofs.descriptor.read_descriptors.Given as goal

abbrev pub invariant-loop-place : goal.invariant-loop-place
invariant-loop-place l = l.table.items ≡ descriptors_in l.place l.bytes
