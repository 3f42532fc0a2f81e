use Rattle.std.proofs.Common.{◌≡◌, ◌*◌}
use Rattle.vg_cursor.specs.Look.{cursor_like}
use Rattle.vg_drawn.specs.Frames.{frame_word}
use Rattle.vg_drawn.specs.Words.{union_below}
use Rattle.vg_drawn.proofs.frame.with_image.Given as goal

abbrev pub invariant-loop-y : goal.invariant-loop-y
invariant-loop-y l = record {
  from : l.from ≡ 4 * l.width * l.y;
  all : l.all ≡ union_below (frame_word (cursor_like l.look) l.width l.screen) l.from;
}
