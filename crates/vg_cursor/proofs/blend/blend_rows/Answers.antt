-- One row more of the rectangle is blended.
use Rattle.std.proofs.Common.{◌≡◌, ℕ, ◌≤◌, ◌+◌, ◌*◌, ◌-◌, length, slice_index, refl, inr, arith}
use Rattle.vg_places.specs.declared.rectangles.Area.{Area}
use Rattle.vg_places.specs.Rectangles.{place_of}
use Rattle.vg_places.proofs.Filled.{filled_empty, row-fits}
use Rattle.vg_cursor.specs.RowsWithin.{byte_over}
use Rattle.vg_cursor.proofs.BlendLemmas.{rows-more}
use Rattle.vg_cursor.proofs.blend.blend_rows.Goals as goal

pub loop-i-init : goal.loop-i-init
loop-i-init c =
    let none : Area = record c.args.area.now { height = 0 } in
    let value : ℕ → ℕ → ℕ = λ i j. byte_over c.args.image.now (c.args.from + 256 * i) j (slice_index c.args.screen.now (place_of none c.args.row_length i j)) in
    record { to = omega arith; screen = filled_empty none c.args.row_length value c.args.screen.now (inr refl) }

pub loop-i-preserved : goal.loop-i-preserved
loop-i-preserved c =
    let area = c.args.area.now in
    let i = c.loop-i.i in
    let to = c.loop-i.to in
    let start = c.args.from + 256 * i in
    let was = c.loop-i.invariant in
    let size : to + area.width - to ≡ area.width = omega arith in
    let fits : to + (to + area.width - to) ≤ length c.args.screen.now =
    omega (arith, size, row-fits area.row i area.height c.args.row_length area.column area.width (length c.args.screen.now) to was.to c.requires.columns c.loop-i-test.true c.requires.rows)
    in
    record {
      to = omega (arith, was.to);
      screen =
          rows-more c.args.image.now area c.args.row_length c.args.from c.args.screen.now c.loop-i.screen c.blend_row.new.screen i to (to + area.width - to) start (start + area.width - start)
          was.to c.requires.columns fits size refl (omega arith) c.requires.whole was.screen c.blend_row.ensures;
    }
