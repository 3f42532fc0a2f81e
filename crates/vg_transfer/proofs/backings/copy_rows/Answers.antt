-- One row more of the rectangle has its bytes of the backing.
use Rattle.std.proofs.Common.{◌≡◌, ℕ, ◌<◌, ◌≤◌, ◌+◌, ◌*◌, ◌-◌, ◌^◌, length, take, drop, slice_index, refl, ap, ◌∙◌, inr, arith}
use Rattle.std.proofs.lemmas.List.{length-take, length-drop}
use borrow.Rule.Slice.PartMut.{put_mid}
use Rattle.vg_places.specs.declared.rectangles.Area.{Area}
use Rattle.vg_places.specs.Rectangles.{copied}
use Rattle.vg_places.proofs.Filled.{filled_empty, copied_more, row-fits, row-ends}
use Rattle.vg_backing.specs.Backing.{backing_bytes, total}
use Rattle.vg_transfer.specs.Backings.{bytes_of_rect}
use Rattle.vg_backing.proofs.BackingLemmas.{length-backing_bytes}
use Rattle.vg_transfer.proofs.backings.copy_rows.Goals as goal

pub loop-i-init : goal.loop-i-init
loop-i-init c =
    let rect = c.args.rect.now in
    let none : Area = bytes_of_rect (record rect { height = 0 }) in
    let bytes = backing_bytes c.args.pages.now c.args.backing.now in
    let value : ℕ → ℕ → ℕ = λ i j. slice_index bytes (c.args.offset + 4 * c.args.width * i + j) in
    record { to = ap (λ w. 4 * w * rect.y + 4 * rect.x) c.from-stride.ensures ∙ omega arith; pixels = filled_empty none (4 * c.args.width) value c.args.pixels.now (inr refl) }

pub overflow_add-from : goal.overflow_add-from
overflow_add-from c =
    let rect = c.args.rect.now in
    let i = c.loop-i.i in
    let small : total c.args.backing.now < 2 ^ 64 = omega (arith, c.length-end.ensures) in
    let ends = row-ends c.args.offset (4 * c.args.width) rect.height (4 * rect.width) (total c.args.backing.now) i c.requires.source c.loop-i-test.true in
    let same : 4 * c.from-stride.result * c.from.result ≡ 4 * c.args.width * i =
    ap (λ w. 4 * w * c.from.result) c.from-stride.ensures ∙ ap (λ k. 4 * c.args.width * k) c.from.ensures
    in
    omega (arith, small, ends, same)

pub loop-i-preserved : goal.loop-i-preserved
loop-i-preserved c =
    let rect = c.args.rect.now in
    let area = bytes_of_rect rect in
    let row_length = 4 * c.args.width in
    let bytes = backing_bytes c.args.pages.now c.args.backing.now in
    let old = c.args.pixels.now in
    let part = c.read.new.out in
    let i = c.loop-i.i in
    let to = c.loop-i.to in
    let m = to + 4 * rect.width - to in
    let from = c.args.offset + row_length * i in
    let was = c.loop-i.invariant in
    let size : m ≡ 4 * rect.width = omega arith in
    let columns : 4 * rect.x + 4 * rect.width ≤ row_length = omega (arith, c.requires.columns) in
    let rows : (rect.y + rect.height) * row_length ≤ length old = omega (arith, c.requires.rows) in
    let fits : to + m ≤ length old =
    omega (arith, size, row-fits rect.y i rect.height row_length (4 * rect.x) (4 * rect.width) (length old) to was.to columns c.loop-i-test.true rows)
    in
    let inside : from + m ≤ length bytes =
    omega (arith, size, row-ends c.args.offset row_length rect.height (4 * rect.width) (total c.args.backing.now) i c.requires.source c.loop-i-test.true, length-backing_bytes c.args.pages.now c.args.backing.now c.requires.held)
    in
    let same : c.args.offset + 4 * c.from-stride.result * c.from.result ≡ from =
    ap (λ w. c.args.offset + 4 * w * c.from.result) c.from-stride.ensures ∙ ap (λ k. c.args.offset + row_length * k) c.from.ensures
    in
    let long : length (take m (drop to c.loop-i.pixels)) ≡ m =
    omega (arith, length-take m (drop to c.loop-i.pixels), length-drop to c.loop-i.pixels, fits, c.loop-i.auto.pixels)
    in
    let read : part ≡ take m (drop from bytes) = c.read.ensures ∙ ap (λ n. take n (drop (c.args.offset + 4 * c.from-stride.result * c.from.result) bytes)) long ∙ ap (λ k. take m (drop k bytes)) same in
    let step = copied_more area row_length row_length c.args.offset bytes old i to m from m was.to columns fits size refl inside size in
    record {
      to = omega (arith, was.to, c.from-stride.ensures);
      pixels =
          ap (λ list. put_mid to m list part) was.pixels
          ∙ ap (λ ys. put_mid to m (copied (record area { height = i }) row_length bytes row_length c.args.offset old) ys) read
          ∙ step;
    }
