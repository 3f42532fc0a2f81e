use Rattle.std.proofs.Common.{◌≡◌, ◌+◌, length, refl, ap, ◌∙◌, arith}
use Rattle.vg_cursor.specs.Look.{cursor_like}
use Rattle.vg_drawn.specs.Frames.{frame_word}
use Rattle.vg_drawn.specs.Words.{union_below}
use Rattle.vg_drawn.proofs.FrameLemmas.{hidden-is}
use Rattle.vg_drawn.proofs.frame.frame_clients.Goals as goal

pub returns-then-not-look : goal.returns-then-not-look
returns-then-not-look c =
    let cursor = cursor_like c.args.look.now in
    let at = frame_word cursor c.args.width c.args.screen.now in
    let all : 0 + length c.args.screen.now ≡ length c.args.screen.now = omega arith in
    c.union.ensures at 0 refl
    (λ k below.
    let place : 0 + k ≡ k = omega arith in
    ap at place ∙ hidden-is cursor c.args.width c.args.screen.now k c.if-not-look.true)
    ∙ ap (union_below at) all
