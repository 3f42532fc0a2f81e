use Rattle.std.proofs.Common.{◌∙◌, ◌+◌, ◌%◌, slice_set, refl, sym, ap, subst}
use Rattle.vg_split.specs.declared.views.DeviceStage.TheVariants.{Newer}
use Rattle.vg_split.specs.Rule.{fetched_after}
use Rattle.vg_split.specs.Plays.{device_of}
use Rattle.vg_split.specs.Tells.{HasTaken}
use Rattle.vg_cargo.specs.DeviceEnds.{Fetches}
use Rattle.vg_ring.specs.Tended.{device_lists}
use Rattle.vg_cargo.specs.Cargo.{IsLane}
use Rattle.vg_ring.proofs.TendedLemmas.{look_newer_device, look_none_device, tended_looked, tended_taken, fetches_is, device_ok, tag_is}
use Rattle.vg_ring.proofs.device_end.DeviceEnd.fetch.Goals as goal

pub invariant_of-self : goal.invariant_of-self
invariant_of-self g c =
    let t = c.self.inside in
    let v = device_of t.pass.me.0 in
    let k = c.self.invariant.2 in
    let on = c.self.invariant.0 in
    let look = c.look_at_available-found in
    let none_new = look_none_device look.new.pass.me v look.result look.ensures.view (c.if-found-self.true ∙ ap (λ n. n % 65536) k.fetched_is) in
    device_ok g.N.Naming.ring t.line.value.shared.table_id t.pass.table_id look.new.pass.table_id t.line.value.shared.key v.queue t.size look.new.pass.me (record v { looks = v.looks + 1; seen = look.result }) t.fetched t.completed t.tags.items on look.ensures.line.0 none_new refl (tended_looked t.size v t.fetched t.completed t.tags.items k (v.looks + 1) look.result)

pub invariant_of-self-2 : goal.invariant_of-self-2
invariant_of-self-2 g c =
    let t = c.self.inside in
    let v = device_of t.pass.me.0 in
    let k = c.self.invariant.2 in
    let on = c.self.invariant.0 in
    let found = c.look_at_available-found.result in
    let got = c.take_entry-head.result in
    let me = c.take_entry-head.new.pass.me in
    let newer = look_newer_device c.look_at_available-found.new.pass.me v found c.look_at_available-found.ensures.view (λ e. c.if-found-self.false (e ∙ ap (λ n. n % 65536) (sym k.fetched_is))) in
    let r = subst (λ w. HasTaken g.P.Tagged.is_wanted t.size w got.0 got.1 me) (ap (λ m. device_of m.0) newer) c.take_entry-head.ensures.taken in
    let tag = tag_is c.tag.result r.entry got.1 c.tag.ensures.tag.0 c.tag.ensures.tag.1 r.fresh.entry in
    device_ok g.N.Naming.ring t.line.value.shared.table_id t.pass.table_id c.take_entry-head.new.pass.table_id t.line.value.shared.key v.queue t.size me (fetched_after (record v { looks = v.looks + 1; seen = found; stage = Newer }) r.entry) (t.fetched + 1) t.completed (slice_set t.tags.items got.0 c.tag.result) on (c.take_entry-head.ensures.line.0 ∙ c.look_at_available-found.ensures.line.0) r.after refl (tended_taken t.size v t.fetched t.completed t.tags.items k g.P.Tagged.is_wanted (v.looks + 1) found got.0 got.1 me r c.tag.result tag)

pub returns : goal.returns
returns g c =
    let t = c.self.inside in
    let v = device_of t.pass.me.0 in
    let k = c.self.invariant.2 in
    let on = c.self.invariant.0 in
    let found = c.look_at_available-found.result in
    let got = c.take_entry-head.result in
    let me = c.take_entry-head.new.pass.me in
    let newer = look_newer_device c.look_at_available-found.new.pass.me v found c.look_at_available-found.ensures.view (λ e. c.if-found-self.false (e ∙ ap (λ n. n % 65536) (sym k.fetched_is))) in
    let r = subst (λ w. HasTaken g.P.Tagged.is_wanted t.size w got.0 got.1 me) (ap (λ m. device_of m.0) newer) c.take_entry-head.ensures.taken in
    let lane = subst (λ n. IsLane got.1.parcel.queue n) c.tag.ensures.tag.0 c.tag.ensures.lane in
    subst (λ o. Fetches g.P.Tagged.is_wanted o got.0 got.1 (device_lists t.size (device_of me.0))) c.self.view_is
    (fetches_is t.size v t.fetched t.completed t.tags.items k g.P.Tagged.is_wanted (v.looks + 1) found got.0 got.1 me r (device_lists t.size (device_of me.0)) refl lane (ap (λ m. device_lists t.size (device_of m.0)) r.after))
