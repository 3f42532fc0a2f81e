-- One row more of the rectangle has its bytes.
use Rattle.std.proofs.Common.{◌≡◌, ℕ, ◌≤◌, ◌+◌, ◌*◌, ◌-◌, length, take, drop, slice_index, refl, ap, ◌∙◌, inr, arith}
use Rattle.std.proofs.lemmas.List.{drop-drop, length-take, length-drop}
use borrow.Rule.Slice.PartMut.{put_mid}
use Rattle.vg_places.specs.declared.rectangles.Area.{Area}
use Rattle.vg_places.specs.Rectangles.{copied}
use Rattle.vg_places.proofs.Filled.{filled_empty, copied_more, row-fits, row-ends}
use Rattle.vg_transfer.specs.Backings.{bytes_of_rect}
use Rattle.vg_transfer.proofs.backings.place_rows.Goals as goal

pub loop-row-init : goal.loop-row-init
loop-row-init c =
    let rect = c.args.rect.now in
    let none : Area = bytes_of_rect (record rect { height = 0 }) in
    let bytes = c.args.bytes.now.bytes in
    let value : ℕ → ℕ → ℕ = λ i j. slice_index bytes (0 + 4 * c.args.width * i + j) in
    let start : 0 ≡ 4 * c.args.width * 0 - 0 = omega arith in
    record {
      to = omega arith;
      gap = omega arith;
      bytes = ap (λ n. drop n bytes) start;
      pages = refl;
      pixels = filled_empty none (4 * c.args.width) value c.args.pixels.now (inr refl);
    }

pub loop-row-preserved : goal.loop-row-preserved
loop-row-preserved c =
    let rect = c.args.rect.now in
    let area = bytes_of_rect rect in
    let row_length = 4 * c.args.width in
    let bytes = c.args.bytes.now.bytes in
    let old = c.args.pixels.now in
    let part = c.read.new.out in
    let i = c.loop-row._row in
    let to = c.loop-row.to in
    let gap = c.loop-row.gap in
    let m = to + 4 * rect.width - to in
    let from = row_length * i in
    let was = c.loop-row.invariant in
    let size : m ≡ 4 * rect.width = omega arith in
    let columns : 4 * rect.x + 4 * rect.width ≤ row_length = omega (arith, c.requires.columns) in
    let rows : (rect.y + rect.height) * row_length ≤ length old = omega (arith, c.requires.rows) in
    let fits : to + m ≤ length old =
    omega (arith, size, row-fits rect.y i rect.height row_length (4 * rect.x) (4 * rect.width) (length old) to was.to columns c.loop-row-test.true rows)
    in
    let inside : from + m ≤ length bytes = omega (arith, size, row-ends 0 row_length rect.height (4 * rect.width) (length bytes) i (omega (arith, c.requires.long)) c.loop-row-test.true) in
    let long : length (take m (drop to c.loop-row.pixels)) ≡ m =
    omega (arith, length-take m (drop to c.loop-row.pixels), length-drop to c.loop-row.pixels, fits, c.loop-row.auto.pixels)
    in
    let skipped : row_length * i - gap + gap ≡ from = omega (arith, was.gap) in
    let rest : c.skip.new.self.bytes ≡ drop from bytes =
    ap (λ v. v.bytes) c.skip.ensures ∙ ap (drop gap) was.bytes ∙ drop-drop gap (row_length * i - gap) bytes ∙ ap (λ n. drop n bytes) skipped
    in
    let read : part ≡ take m (drop from bytes) = c.read.ensures.out ∙ ap (λ n. take n c.skip.new.self.bytes) long ∙ ap (take m) rest in
    let next : row_length * i + m ≡ row_length * (i + 1) - (row_length - 4 * rect.width) = omega (arith, size, columns) in
    record {
      to = omega (arith, was.to);
      gap = omega arith;
      bytes =
          ap (λ v. v.bytes) c.read.ensures.rest ∙ ap (λ n. drop n c.skip.new.self.bytes) long ∙ ap (drop m) rest ∙ drop-drop m from bytes
          ∙ ap (λ n. drop n bytes) next;
      pages = ap (λ v. v.pages) c.read.ensures.rest ∙ ap (λ v. v.pages) c.skip.ensures ∙ was.pages;
      pixels =
          ap (λ list. put_mid to m list part) was.pixels
          ∙ ap (λ ys. put_mid to m (copied (record area { height = i }) row_length bytes row_length 0 old) ys) read
          ∙ copied_more area row_length row_length 0 bytes old i to m from m was.to columns fits size (omega arith) inside size;
    }
