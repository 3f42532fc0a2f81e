use Rattle.std.proofs.Common.{◌∙◌, [], refl, ap, subst}
use Rattle.vg_split.specs.declared.views.View.TheVariants.{Device}
use Rattle.vg_split.specs.declared.views.DeviceStage.TheVariants.{Resting}
use Rattle.vg_cargo.specs.Entries.{Has}
use Rattle.vg_split.specs.Rule.{set_stage, returned_after}
use Rattle.vg_split.specs.Plays.{device_of, right_of}
use Rattle.vg_cargo.specs.DeviceEnds.{TakesIn}
use Rattle.vg_ring.specs.Tended.{device_lists}
use Rattle.vg_ring.proofs.TendedLemmas.{tended_returned, takes_in_is, device_ok}
use Rattle.vg_ring.proofs.device_end.DeviceEnd.take_in.Goals as goal

pub invariant_of-self : goal.invariant_of-self
invariant_of-self g c =
    let t = c.self.inside in
    let v = device_of t.pass.me.0 in
    let k = c.self.invariant.2 in
    let on = c.self.invariant.0 in
    let r = c.args.right.entry in
    let join = c.join_right in
    let entry = ap (λ m. right_of m.0) c.into_seat.ensures.seat in
    let now = join.ensures.view ∙ ap (λ e. (Device (set_stage (returned_after v e) Resting), [])) entry in
    device_ok g.N.Naming.ring t.line.value.shared.table_id t.pass.table_id join.new.pass.table_id t.line.value.shared.key v.queue t.size join.new.pass.me (returned_after v r) t.fetched t.completed t.tags.items on join.ensures.line.0 now refl (tended_returned t.size v t.fetched t.completed t.tags.items k r)

pub returns : goal.returns
returns g c =
    let t = c.self.inside in
    let v = device_of t.pass.me.0 in
    let k = c.self.invariant.2 in
    let on = c.self.invariant.0 in
    let r = c.args.right.entry in
    let join = c.join_right in
    let entry = ap (λ m. right_of m.0) c.into_seat.ensures.seat in
    let now = join.ensures.view ∙ ap (λ e. (Device (set_stage (returned_after v e) Resting), [])) entry in
    let lent = subst (λ e. Has e v.lent) entry join.ensures.lent in
    subst (λ o. TakesIn o c.args.right (device_lists t.size (device_of join.new.pass.me.0))) c.self.view_is
    (takes_in_is t.size v t.fetched t.completed t.tags.items k c.args.right (device_lists t.size (device_of join.new.pass.me.0)) lent (ap (λ m. device_lists t.size (device_of m.0)) now))
