use Rattle.std.proofs.Common.{take}
use Rattle.vg_labels.specs.Labels.{AreTold, values_of}
use Rattle.vg_labels.proofs.table.agree.Given as goal

abbrev pub invariant-loop-one : goal.invariant-loop-one
invariant-loop-one l = AreTold (values_of l.all.items) (take l.one-index l.told.items)
