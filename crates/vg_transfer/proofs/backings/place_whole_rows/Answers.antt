-- The rows are one piece of the bytes, and one of the resource.
use Rattle.std.proofs.Common.{◌≡◌, ◌+◌, ◌*◌, ◌-◌, ◌≤◌, length, take, drop, ap, ◌∙◌, refl, arith}
use Rattle.std.proofs.lemmas.List.{length-take, length-drop}
use Rattle.vg_transfer.specs.Backings.{bytes_of_rect, transfer_end}
use Rattle.vg_transfer.proofs.CopyLemmas.{copied-whole, whole-end}
use Rattle.vg_transfer.proofs.backings.place_whole_rows.Goals as goal

pub returns-clause-pixels : goal.returns-clause-pixels
returns-clause-pixels c =
    let rect = c.args.rect.now in
    let old = c.args.pixels.now in
    let bytes = c.args.bytes.now.bytes in
    let row_bytes = 4 * rect.width in
    let to = row_bytes * rect.y in
    let m = to + row_bytes * rect.height - to in
    let size : m ≡ rect.height * row_bytes = omega arith in
    let room : row_bytes * rect.y + row_bytes * rect.height ≤ length old = omega (arith, c.requires.rows) in
    let fits : to + m ≤ length old = omega (arith, size, room) in
    let long : length (take m (drop to old)) ≡ m = omega (arith, length-take m (drop to old), length-drop to old, fits) in
    let end : transfer_end rect 0 rect.width ≡ 0 + rect.height * row_bytes = whole-end rect 0 c.requires.some.1 in
    let inside : 0 + m ≤ length bytes = omega (arith, size, end, c.requires.long) in
    copied-whole (bytes_of_rect rect) row_bytes 0 bytes old c.read.new.out to m
    (omega (arith, c.requires.some)) (omega (arith, c.requires.left)) refl (omega arith) size fits inside
    (c.read.ensures.out ∙ ap (λ n. take n bytes) long)
