-- One pixel more of the row is shown.
use Rattle.std.proofs.Common.{◌≡◌, ◌+◌, ◌-◌, ◌*◌, ◌/◌, ◌≤◌, length, ap, ◌∙◌, refl, arith}
use Rattle.std.proofs.lemmas.Nat.{div-add-mod'}
use borrow.Rule.Slice.PartMut.{put_mid}
use Rattle.vg_formats.proofs.ShownLemmas.{shown_front, shown-none, shown-more, shown-all, length-shown_bytes}
use Rattle.vg_formats.proofs.rows.show_each.Goals as goal

pub loop-i-init : goal.loop-i-init
loop-i-init g c = shown-none g.O.Order.format c.args.pixels.now c.args.shown.now

pub loop-i-preserved : goal.loop-i-preserved
loop-i-preserved g c =
    let format = g.O.Order.format in
    let pixels = c.args.pixels.now in
    let old = c.args.shown.now in
    let i = c.loop-i.i in
    let to = 4 * i in
    let whole : length pixels ≡ 4 * (length pixels / 4) = omega (arith, c.requires.whole, div-add-mod' (length pixels) 4) in
    let fits : to + 4 ≤ length old = omega (arith, whole, c.requires.length, c.loop-i-test.true) in
    let pixel = c.copy_from_slice.ensures.after ∙ c.shown-pixel.ensures in
    let long = ap length pixel ∙ length-shown_bytes format _ in
    ap (λ xs. put_mid to (to + 4 - to) xs c.copy_from_slice.new.self) c.loop-i.invariant
    ∙ shown-more format pixels old c.copy_from_slice.new.self i to (to + 4 - to) refl (omega arith) fits c.requires.length pixel long

pub returns : goal.returns
returns g c =
    let pixels = c.args.pixels.now in
    let end : c.loop-i.i ≡ length pixels / 4 = omega (arith, c.loop-i-test.false, c.loop-i.auto.i-end) in
    c.loop-i.invariant
    ∙ ap (λ n. shown_front g.O.Order.format pixels n c.args.shown.now) end
    ∙ shown-all g.O.Order.format pixels c.args.shown.now c.requires.length c.requires.whole
