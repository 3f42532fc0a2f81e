use Rattle.std.proofs.Common.{length}
use Rattle.vg_call_lines.specs.Tables.{labels_in}
use Rattle.vg_script.proofs.LabelLemmas.{IsReading}
use Rattle.vg_script.proofs.labels.labels.Given as goal

abbrev pub invariant-loop-rest : goal.invariant-loop-rest
invariant-loop-rest l = IsReading l.bytes l.rest (labels_in l.labels) l.count

abbrev pub decreases-loop-rest : goal.decreases-loop-rest
decreases-loop-rest l = length l.rest
