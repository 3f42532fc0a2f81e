use Rattle.std.proofs.Common.{◌≡◌}
use Rattle.vg_cursor.proofs.RowLemmas.{row_front}
use Rattle.vg_cursor.proofs.blend.blend_row.Given as goal

abbrev pub invariant-loop-i : goal.invariant-loop-i
invariant-loop-i l = l.screen ≡ row_front l.image l.i l.initial.screen
