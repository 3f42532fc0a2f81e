use Rattle.std.proofs.Common.{length}
use Rattle.vg_labels.specs.Labels.{AreOf}
use Rattle.vg_script_part.proofs.LineLemmas.{IsRunning}
use Rattle.vg_script_part.proofs.performing.run_lines.Given as goal

abbrev pub invariant-loop-line : goal.invariant-loop-line
invariant-loop-line g l = IsRunning (length l.labels.items) l.fn.lines.items l.left.items l.fn.client l.told.items l.client × AreOf l.labels.items l.told.items

abbrev pub decreases-loop-line : goal.decreases-loop-line
decreases-loop-line g l = length l.left.items
