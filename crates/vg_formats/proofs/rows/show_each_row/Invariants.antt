use Rattle.std.proofs.Common.{◌≡◌, ◌+◌, ◌*◌}
use Rattle.vg_formats.specs.Shown.{shown_rows}
use Rattle.vg_formats.proofs.rows.show_each_row.Given as goal

abbrev pub invariant-loop-i : goal.invariant-loop-i
invariant-loop-i l = record {
  to : l.to ≡ (l.area.row + l.i) * l.row_length + l.area.column;
  screen : l.screen ≡ shown_rows l.format (record l.area { height = l.i }) l.row_length l.pixels l.stride l.offset l.initial.screen;
}
