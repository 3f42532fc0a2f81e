use Rattle.std.proofs.Common.{Some, get_or}
use Rattle.vg_cursor.specs.Look.{cursor_like}
use Rattle.vg_drawn.specs.Frames.{GoesOn, row_by}
use Rattle.vg_drawn.specs.Words.{word_of}
use Rattle.vg_drawn.proofs.frame.covered.Given as goal

abbrev pub invariant-loop-c : goal.invariant-loop-c
invariant-loop-c l = GoesOn l.all l.c (row_by (Some l.j) (cursor_like l.look) (λ c. word_of (get_or l.bytes c 0))) l.sum
