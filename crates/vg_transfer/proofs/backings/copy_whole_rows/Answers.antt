-- The rows are one piece of the backing, and one of the resource.
use Rattle.std.proofs.Common.{◌≡◌, ◌+◌, ◌*◌, ◌-◌, ◌≤◌, length, take, drop, ap, ◌∙◌, refl, arith}
use Rattle.std.proofs.lemmas.List.{length-take, length-drop}
use Rattle.vg_backing.specs.Backing.{backing_bytes}
use Rattle.vg_backing.proofs.BackingLemmas.{length-backing_bytes}
use Rattle.vg_transfer.specs.Backings.{bytes_of_rect, transfer_end}
use Rattle.vg_transfer.proofs.CopyLemmas.{copied-whole, whole-end}
use Rattle.vg_transfer.proofs.backings.copy_whole_rows.Goals as goal

pub returns : goal.returns
returns c =
    let rect = c.args.rect.now in
    let old = c.args.pixels.now in
    let row_bytes = 4 * rect.width in
    let to = row_bytes * rect.y in
    let m = to + row_bytes * rect.height - to in
    let bytes = backing_bytes c.args.pages.now c.args.backing.now in
    let size : m ≡ rect.height * row_bytes = omega arith in
    let room : row_bytes * rect.y + row_bytes * rect.height ≤ length old = omega (arith, c.requires.rows) in
    let fits : to + m ≤ length old = omega (arith, size, room) in
    let long : length (take m (drop to old)) ≡ m = omega (arith, length-take m (drop to old), length-drop to old, fits) in
    let end : transfer_end rect c.args.offset rect.width ≡ c.args.offset + rect.height * row_bytes = whole-end rect c.args.offset c.requires.some.1 in
    let inside : c.args.offset + m ≤ length bytes = omega (arith, size, end, c.requires.source, length-backing_bytes c.args.pages.now c.args.backing.now c.requires.held) in
    copied-whole (bytes_of_rect rect) row_bytes c.args.offset bytes old c.read.new.out to m
    (omega (arith, c.requires.some)) (omega (arith, c.requires.left)) refl (omega arith) size fits inside
    (c.read.ensures ∙ ap (λ n. take n (drop c.args.offset bytes)) long)
