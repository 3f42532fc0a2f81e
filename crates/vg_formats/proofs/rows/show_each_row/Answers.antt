-- One row more of the rectangle shows its row of pixels.
use Rattle.std.proofs.Common.{◌≡◌, ℕ, ◌≤◌, ◌+◌, ◌*◌, ◌-◌, length, drop, refl, ap, ◌∙◌, inr, arith}
use borrow.Rule.Slice.PartMut.{put_mid}
use Rattle.vg_places.specs.declared.rectangles.Area.{Area}
use Rattle.vg_places.proofs.Filled.{filled_empty, row-fits}
use Rattle.vg_formats.specs.Shown.{shown_byte}
use Rattle.vg_formats.proofs.ShownLemmas.{shown_rows-more}
use Rattle.vg_formats.proofs.rows.show_each_row.Goals as goal

pub loop-i-init : goal.loop-i-init
loop-i-init c =
    let area = c.args.area.now in
    let none : Area = record area { height = 0 } in
    let value : ℕ → ℕ → ℕ = λ i j. shown_byte c.args.format (drop (c.args.offset + c.args.stride * i) c.args.pixels.now) j in
    record { to = omega arith; screen = filled_empty none c.args.row_length value c.args.screen.now (inr refl) }

pub loop-i-preserved : goal.loop-i-preserved
loop-i-preserved c =
    let area = c.args.area.now in
    let i = c.loop-i.i in
    let to = c.loop-i.to in
    let from = c.args.offset + c.args.stride * i in
    let was = c.loop-i.invariant in
    let size : to + area.width - to ≡ area.width = omega arith in
    let fits : to + (to + area.width - to) ≤ length c.args.screen.now =
    omega (arith, size, row-fits area.row i area.height c.args.row_length area.column area.width (length c.args.screen.now) to was.to c.requires.columns c.loop-i-test.true c.requires.rows)
    in
    let count : from + area.width - from ≡ area.width = omega arith in
    let inside : from + (from + area.width - from) ≤ length c.args.pixels.now = omega (arith, count, c.requires.source i c.loop-i-test.true) in
    record {
      to = omega (arith, was.to);
      screen =
          ap (λ screen. put_mid to (to + area.width - to) screen c.show_row.new.shown) was.screen
          ∙ shown_rows-more c.args.format area c.args.row_length c.args.stride c.args.offset c.args.pixels.now c.args.screen.now c.show_row.new.shown i to (to + area.width - to) from (from + area.width - from)
          was.to c.requires.columns fits size refl inside count c.requires.whole c.show_row.ensures;
    }
