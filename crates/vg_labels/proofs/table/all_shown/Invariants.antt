use Rattle.std.proofs.Common.{take}
use Rattle.vg_labels.specs.Labels.{AreShown}
use Rattle.vg_labels.proofs.table.all_shown.Given as goal

abbrev pub invariant-loop-label : goal.invariant-loop-label
invariant-loop-label g l = AreShown (take l.label-index l.labels.items) l.all.items
