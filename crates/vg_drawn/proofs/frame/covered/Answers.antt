use Rattle.std.proofs.Common.{ℕ, Some, get_or, ◌∙◌, ap, ◌/◌, ◌%◌}
use Rattle.vg_cursor.specs.Blended.{image_place}
use Rattle.vg_cursor.specs.Look.{cursor_like}
use Rattle.vg_drawn.specs.Frames.{image_word, on_image, over_by, row_by}
use Rattle.vg_drawn.specs.Words.{word_of}
use Rattle.vg_drawn.proofs.FrameLemmas.{goes-more}
use Rattle.vg_drawn.proofs.frame.covered.Goals as goal

pub loop-c-preserved : goal.loop-c-preserved
loop-c-preserved c =
    let k = c.loop-c.c in
    let cursor = cursor_like c.args.look.now in
    let word = λ (n : ℕ). word_of (get_or c.args.bytes.now n 0) in
    goes-more c.args.all k (row_by (Some c.args.j) cursor word) c.loop-c.sum c.over-sum.result c.loop-c.invariant
    (c.over-sum.ensures ∙ ap (λ column. over_by column c.args.j (k % 4) (image_word cursor) c.word_of.result) c.column_over.ensures.value
    ∙ ap (over_by (on_image (image_place cursor.x cursor.hot_x (k / 4))) c.args.j (k % 4) (image_word cursor)) c.word_of.ensures)
