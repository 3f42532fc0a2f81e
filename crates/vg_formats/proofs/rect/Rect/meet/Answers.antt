-- The first pixel of what both runs of columns and both runs of rows have lies in both rectangles.
use Rattle.std.proofs.Common.{arith}
use Rattle.vg_formats.specs.Pixels.{Covers}
use Rattle.vg_formats.proofs.rect.Rect.meet.Goals as goal

pub returns-clause-none : goal.returns-clause-none
returns-clause-none c =
    let x = c.in_ok-x.x in
    let y = c.in_ok-y.y in
    let columns = c.in_ok-x.ensures in
    let rows = c.in_ok-y.ensures in
    let here : Covers c.args.self.now x y = (omega (arith, columns.start), omega (arith, columns.some, columns.end), omega (arith, rows.start), omega (arith, rows.some, rows.end)) in
    let there : Covers c.args.other.now x y = (omega (arith, columns.start), omega (arith, columns.some, columns.end), omega (arith, rows.start), omega (arith, rows.some, rows.end)) in
    (λ e. absurd cc, λ apart. absurd (apart x y here there))
