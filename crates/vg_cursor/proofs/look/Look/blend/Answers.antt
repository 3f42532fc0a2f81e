-- The rows that the spans have are all that the cursor covers.
use Rattle.std.proofs.Common.{rules, ◌≡◌, ◌∙◌, subst, true, false, w32, arith}
use Rattle.std.proofs.lemmas.Int.{to_z-of_z}
use mir.Val.{SFits}
use Rattle.vg_cursor.specs.SpanWithin.{IsSpan}
use Rattle.vg_cursor.proofs.BlendLemmas.{rows-blended, hidden-blended, rows-on-screen}
use Rattle.vg_cursor.specs.Look.{cursor_like}
use Rattle.vg_cursor.proofs.look.Look.blend.Goals as goal

pub returns-then-not-self : goal.returns-then-not-self
returns-then-not-self c =
    let hidden : c.args.self.now.visible ≡ false = search rules in
    hidden-blended (cursor_like c.args.self.now) c.args.width c.args.pixels.now hidden

pub blend_rows-requires-clause-columns : goal.blend_rows-requires-clause-columns
blend_rows-requires-clause-columns c = omega (arith, c.span_of-across.ensures.on_screen)

pub blend_rows-requires-clause-rows : goal.blend_rows-requires-clause-rows
blend_rows-requires-clause-rows c =
    let down = c.span_of-down.result in
    rows-on-screen down.first down.count c.args.width c.args.height _ c.span_of-down.ensures.on_screen c.requires.length

pub blend_rows-requires-clause-source : goal.blend_rows-requires-clause-source
blend_rows-requires-clause-source c = omega (arith, c.span_of-across.ensures.in_image, c.span_of-down.ensures.in_image)

pub returns : goal.returns
returns c =
    let cursor = cursor_like c.args.self.now in
    let old = c.args.pixels.now in
    let across = c.span_of-across.result in
    let down = c.span_of-down.result in
    let shown : cursor.visible ≡ true = search rules in
    let x : SFits w32 cursor.x = search rules in
    let y : SFits w32 cursor.y = search rules in
    let columns = subst (λ position. IsSpan position cursor.hot_x c.args.width across) (to_z-of_z w32 cursor.x x) c.span_of-across.ensures in
    let rows = subst (λ position. IsSpan position cursor.hot_y c.args.height down) (to_z-of_z w32 cursor.y y) c.span_of-down.ensures in
    c.blend_rows.ensures
    ∙ rows-blended cursor c.args.width c.args.height old across down shown columns rows c.requires.length
