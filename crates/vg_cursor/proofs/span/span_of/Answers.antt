use Rattle.std.proofs.Common.{◌∙◌, ap, w32, arith}
use Rattle.std.proofs.lemmas.Int.{to_z-of_z}
use Rattle.vg_cursor.specs.SpanWithin.{sides}
use Rattle.vg_cursor.proofs.SpanLemmas.{span-is}
use Rattle.vg_cursor.proofs.span.span_of.Goals as goal

pub returns : goal.returns
returns c =
    span-is c.args.position c.args.hot c.args.size c.sides-right.result c.min-first.result c.min-from.result c.min.result
    (c.sides-right.ensures ∙ ap sides (to_z-of_z w32 c.args.position c.ranges.position))
    (omega (arith, c.saturating_sub.ensures, c.min-first.ensures))
    (omega (arith, c.saturating_sub-2.ensures, c.min-from.ensures))
    (omega (arith, c.min.ensures))
