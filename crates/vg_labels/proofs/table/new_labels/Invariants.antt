use Rattle.std.proofs.Common.{◌≡◌, length}
use Rattle.vg_labels.proofs.table.new_labels.Given as goal

abbrev pub invariant-loop-made : goal.invariant-loop-made
invariant-loop-made g l = length l.labels.items ≡ l._made
