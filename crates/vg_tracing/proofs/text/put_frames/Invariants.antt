use Rattle.std.proofs.Common.{◌≡◌, ◌++◌, take}
use Rattle.vg_text.specs.Text.{numbered}
use Rattle.vg_tracing.specs.Text.{frame_line}
use Rattle.vg_tracing.proofs.text.put_frames.Given as goal

abbrev pub invariant-loop-at : goal.invariant-loop-at
invariant-loop-at l = l.out.items ≡ l.initial.out.items ++ numbered frame_line 1 (take l.at l.frames)
