use Rattle.std.proofs.Common.{◌≡◌, replicate}
use Rattle.vg_cursor.specs.Cursor.{unset}
use Rattle.vg_cursor.proofs.cursor.Cursors.new.Given as goal

abbrev pub invariant-loop-cursor : goal.invariant-loop-cursor
invariant-loop-cursor l = l.cursors.items ≡ replicate l._cursor unset
