use Rattle.std.proofs.Common.{◌≡◌, ◌+◌, ◌≤◌, length}
use Rattle.vg_script.specs.Lines.{lines_of}
use Rattle.vg_script.specs.Labels.{start_of}
use Rattle.vg_script.specs.Grammar.{scan}
use Rattle.vg_script.specs.ReadingWithin.{seen}
use Rattle.vg_script.proofs.text.read_lines.Given as goal

abbrev pub invariant-loop-rest : goal.invariant-loop-rest
invariant-loop-rest l = record {
  same : scan (seen l.reader) (lines_of l.rest) ≡ scan (start_of (lines_of l.bytes)) (lines_of l.bytes);
  counted : l.reader.lines + length l.rest ≤ length l.bytes;
}

abbrev pub decreases-loop-rest : goal.decreases-loop-rest
decreases-loop-rest l = length l.rest
