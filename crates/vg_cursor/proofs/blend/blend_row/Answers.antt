-- One pixel more of the row is blended.
use Rattle.std.proofs.Common.{◌≡◌, ◌+◌, ◌-◌, ◌*◌, ◌/◌, ◌≤◌, length, ap, ◌∙◌, arith}
use Rattle.std.proofs.lemmas.Nat.{div-add-mod'}
use Rattle.vg_cursor.proofs.RowLemmas.{row_front, row-none, row-more, row-all}
use Rattle.vg_cursor.proofs.blend.blend_row.Goals as goal

pub loop-i-init : goal.loop-i-init
loop-i-init c = row-none c.args.image.now c.args.screen.now

pub loop-i-preserved : goal.loop-i-preserved
loop-i-preserved c =
    let image = c.args.image.now in
    let old = c.args.screen.now in
    let i = c.loop-i.i in
    let to = 4 * i in
    let whole : length image ≡ 4 * (length image / 4) = omega (arith, c.requires.whole, div-add-mod' (length image) 4) in
    let fits : to + 4 ≤ length old = omega (arith, whole, c.requires.length, c.loop-i-test.true) in
    row-more image old c.loop-i.screen c.copy_from_slice.new.self i (to + 4 - to) c.mixed.result c.mixed-in-loop-i.result c.mixed-in-loop-i-2.result (omega arith) fits
    c.loop-i.invariant c.mixed.ensures c.mixed-in-loop-i.ensures c.mixed-in-loop-i-2.ensures c.copy_from_slice.ensures.after

pub returns : goal.returns
returns c =
    let image = c.args.image.now in
    let end : c.loop-i.i ≡ length image / 4 = omega (arith, c.loop-i-test.false, c.loop-i.auto.i-end) in
    c.loop-i.invariant
    ∙ ap (λ n. row_front image n c.args.screen.now) end
    ∙ row-all image c.args.screen.now c.requires.length c.requires.whole
