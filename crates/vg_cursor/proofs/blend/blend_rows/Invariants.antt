use Rattle.std.proofs.Common.{◌≡◌, ◌+◌, ◌*◌}
use Rattle.vg_cursor.specs.RowsWithin.{rows_over}
use Rattle.vg_cursor.proofs.blend.blend_rows.Given as goal

abbrev pub invariant-loop-i : goal.invariant-loop-i
invariant-loop-i l = record {
  to : l.to ≡ (l.area.row + l.i) * l.row_length + l.area.column;
  screen : l.screen ≡ rows_over (record l.area { height = l.i }) l.row_length l.image l.from l.initial.screen;
}
