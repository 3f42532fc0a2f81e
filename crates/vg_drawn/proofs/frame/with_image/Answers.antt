-- One row more of the frame.
use Rattle.std.proofs.Common.{◌≡◌, ◌+◌, ◌-◌, ◌*◌, ◌≤◌, length, take, drop, ap, sym, ◌∙◌, arith}
use Rattle.std.proofs.lemmas.List.{length-take, length-drop}
use Rattle.std.proofs.lemmas.Nat.{row_fits}
use Rattle.vg_cursor.specs.Look.{cursor_like}
use Rattle.vg_drawn.specs.Frames.{frame_word}
use Rattle.vg_drawn.specs.Words.{union_below}
use Rattle.vg_drawn.proofs.FrameLemmas.{row-is}
use Rattle.vg_drawn.proofs.frame.with_image.Goals as goal

pub loop-y-preserved : goal.loop-y-preserved
loop-y-preserved c =
    let width = c.args.width in
    let screen = c.args.screen.now in
    let cursor = cursor_like c.args.look.now in
    let y = c.loop-y.y in
    let from = c.loop-y.from in
    let was = c.loop-y.invariant in
    let m = from + 4 * width - from in
    let size : m ≡ 4 * width = omega arith in
    let rows : y * (4 * width) + 4 * width ≤ c.args.height * (4 * width) = row_fits y (4 * width) c.args.height (4 * width) c.loop-y-test.true (omega arith) in
    let long : length (take m (drop from screen)) ≡ 4 * width =
    omega (arith, length-take m (drop from screen), length-drop from screen, size, was.from, rows, c.requires.whole)
    in
    record {
      from = omega (arith, was.from);
      all =
          c.row-all.ensures (frame_word cursor width screen) from was.all
          (λ k below. row-is cursor width y from m k screen c.requires.shown was.from size (omega (arith, below, long, size)))
          ∙ ap (λ n. union_below (frame_word cursor width screen) (from + n)) long;
    }

pub returns : goal.returns
returns c =
    let y : c.loop-y.y ≡ c.args.height = omega (arith, c.loop-y-test.false, c.loop-y.auto.y-end) in
    let end : c.loop-y.from ≡ length c.args.screen.now = c.loop-y.invariant.from ∙ ap (λ n. 4 * c.args.width * n) y ∙ sym c.requires.whole in
    c.loop-y.invariant.all ∙ ap (union_below (frame_word (cursor_like c.args.look.now) c.args.width c.args.screen.now)) end
