use Rattle.std.proofs.Common.{◌≡◌, ℕ, ◌+◌, ◌*◌, List, sym, ap, subst, ◌∙◌, arith, length, None}
use Rattle.std.proofs.lemmas.List.{length-replicate}
use Rattle.std.proofs.Math.ListN.{replicate}
use Rattle.atomic_table.specs.Table.{opening, Splits}
use Rattle.vg_split.specs.declared.views.View.{View}
use Rattle.vg_split.specs.declared.views.View.TheVariants.{Start, Driver, Device}
use Rattle.vg_split.specs.Plays.{queue_of}
use Rattle.vg_split.specs.Rule.{Ring, new_driver, new_device}
use Rattle.vg_split.proofs.RightSteps.{opens, splits_start}
use Rattle.vg_split.proofs.made.make_line.Goals as goal

pub vacant-requires : goal.vacant-requires
vacant-requires g c =
    let words : c.as_slice.result.now ≡ replicate (2 + 4 * c.args.count) 0 = c.as_slice.ensures.value ∙ c.in_ok-words.ensures in
    subst (λ (ws : List ℕ). Ring g.P.Tagged.is_wanted c.args.queue c.args.count (opening ws (replicate c.args.count None) (Start c.args.queue))) (sym words) (opens g.P.Tagged.is_wanted c.args.queue c.args.count)

pub split_seat-device-requires : goal.split_seat-device-requires
split_seat-device-requires g c =
    let key = c.in_ok-line.line.shared.key in
    let made = c.in_ok-line.ensures in
    let view : c.in_ok-line.driver.me.0 ≡ Start key.queue = ap (λ m. m.0) made.4 ∙ ap (λ k. Start k.queue) (sym made.5) in
    let words : c.as_slice.result.now ≡ replicate (2 + 4 * c.args.count) 0 = c.as_slice.ensures.value ∙ c.in_ok-words.ensures in
    let long : length c.as_slice.result.now ≡ 2 + 4 * c.args.count = ap length words ∙ length-replicate (2 + 4 * c.args.count) 0 in
    (made.2, omega (arith, made.0, long), subst (λ (v : View). Splits (Ring g.P.Tagged.is_wanted key.queue key.count) c.in_ok-line.driver.id v (Driver new_driver) (Device (new_device (queue_of v)))) (sym view) (splits_start g.P.Tagged.is_wanted key.queue key.count c.in_ok-line.driver.id))
