-- The span of the rows is that of the rows which the cursor lies over.
use Rattle.std.proofs.Common.{rules, ◌≡◌, ◌<◌, ◌+◌, subst, w32, pos, ◌-ℤ◌, ap, ◌∙◌, sym, arith}
use Rattle.std.proofs.lemmas.Int.{to_z-of_z, ints}
use mir.Val.{SFits, to_z, of_z}
use Rattle.vg_cursor.specs.Blended.{image_place}
use Rattle.vg_cursor.specs.SpanWithin.{IsSpan}
use Rattle.vg_cursor.specs.Look.{cursor_like}
use Rattle.vg_cursor.proofs.BlendLemmas.{hidden-blended}
use Rattle.vg_cursor.proofs.RowsLemmas.{covers-rows, none-blended}
use Rattle.vg_cursor.proofs.look.Look.rows.Goals as goal
use Rattle.vg_cursor.proofs.look.Look.rows.Goals.{then-not-self-via-then-not-self, then-not-self-via-else-not-self+then-down-eq0}

pub returns-then-not-self-clause-none : goal.returns-then-not-self-clause-none
returns-then-not-self-clause-none c = λ width old size.
    let cursor = cursor_like c.args.self.now in
    let y : SFits w32 cursor.y = search rules in
    let rows = subst (λ position. IsSpan position cursor.hot_y c.args.height c.span_of-down.result) (to_z-of_z w32 cursor.y y) c.span_of-down.ensures in
    elim c.then-not-self.branch [
      | then-not-self-via-then-not-self w ↦ sym (hidden-blended cursor width old (search rules))
      | then-not-self-via-else-not-self+then-down-eq0 w ↦ none-blended cursor width c.args.height old c.span_of-down.result rows w.if-down-eq0.true size (search rules)
    ]

pub returns-clause-covers : goal.returns-clause-covers
returns-clause-covers c =
    let cursor = cursor_like c.args.self.now in
    let y : SFits w32 cursor.y = search rules in
    let rows = subst (λ position. IsSpan position cursor.hot_y c.args.height c.span_of-down.result) (to_z-of_z w32 cursor.y y) c.span_of-down.ensures in
    covers-rows cursor c.args.height c.span_of-down.result (search rules) rows (omega (arith, c.if-down-eq0.false))

pub returns-clause-look : goal.returns-clause-look
returns-clause-look c =
    let look = c.args.self.now in
    let cursor = cursor_like look in
    let down = c.span_of-down.result in
    let x : SFits w32 cursor.x = search rules in
    let y : SFits w32 cursor.y = search rules in
    let rows = subst (λ position. IsSpan position cursor.hot_y c.args.height down) (to_z-of_z w32 cursor.y y) c.span_of-down.ensures in
    let first : image_place cursor.y cursor.hot_y (down.first + 0) ≡ pos (down.from + 0) = rows.inside 0 (omega (arith, c.if-down-eq0.false)) in
    let hot : cursor.hot_y < 64 = c.requires.whole.2 in
    let from : down.from < 64 = omega (arith, rows.in_image, c.if-down-eq0.false) in
    let lower : to_z w32 (of_z w32 (to_z w32 cursor.hot_y -ℤ to_z w32 down.from)) ≡ cursor.y -ℤ pos down.first = omega (arith, ints, first, hot, from) in
    ap (λ p. cursor_like (record { visible = look.visible; image = look.image; x = p; y = to_z w32 (of_z w32 (to_z w32 cursor.hot_y -ℤ to_z w32 down.from)); hot_x = look.hot_x; hot_y = look.hot_y })) (to_z-of_z w32 cursor.x x)
    ∙ ap (λ p. cursor_like (record { visible = look.visible; image = look.image; x = cursor.x; y = p; hot_x = look.hot_x; hot_y = look.hot_y })) lower
