-- An empty rectangle changes nothing; of one that isn't, each row of pixels ends no later than the last.
use Rattle.std.proofs.Common.{ℕ, ◌+◌, ◌*◌, length, drop, inl, inr, arith}
use Rattle.vg_places.proofs.Filled.{filled_empty, row-ends}
use Rattle.vg_formats.specs.Shown.{shown_byte}
use Rattle.vg_formats.proofs.rows.show_rows.Goals as goal
use Rattle.vg_formats.proofs.rows.show_rows.Goals.{then-area-eq0-via-then-area-eq0, then-area-eq0-via-else-area-eq0+then-area-eq0-2}

pub returns-then-area-eq0 : goal.returns-then-area-eq0
returns-then-area-eq0 c =
    let value : ℕ → ℕ → ℕ = λ i j. shown_byte c.args.format (drop (c.args.offset + c.args.stride * i) c.args.pixels.now) j in
    let none = filled_empty c.args.area.now c.args.row_length value c.args.screen.now in
    elim c.then-area-eq0.branch [
      | then-area-eq0-via-then-area-eq0 w ↦ none (inl (omega (arith, w.if-area-eq0)))
      | then-area-eq0-via-else-area-eq0+then-area-eq0-2 w ↦ none (inr (omega (arith, w.if-area-eq0-2)))
    ]

pub show_each_row-requires-clause-source : goal.show_each_row-requires-clause-source
show_each_row-requires-clause-source c i below =
    let area = c.args.area.now in
    let last = c.requires.source (omega (arith, c.if-area-eq0.false)) (omega (arith, below)) in
    omega (arith, row-ends c.args.offset c.args.stride area.height area.width (length c.args.pixels.now) i last (omega (arith, below)))
