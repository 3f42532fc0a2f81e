use Rattle.std.proofs.Common.{◌≡◌, ◌+◌, refl, sym, ap, subst, arith}
use Rattle.vg_cargo.specs.Entries.{heads, held_at, answer_with, without}
use Rattle.vg_split.specs.Rule.{completed_after}
use Rattle.vg_split.specs.Plays.{device_of}
use Rattle.vg_cargo.specs.DeviceEnds.{HasAt, completing}
use Rattle.vg_ring.specs.Tended.{device_lists}
use Rattle.vg_cargo.proofs.Heads.{has_one}
use Rattle.vg_ring.proofs.TendedLemmas.{last_completed, tended_completed, completes_is, device_ok, done_is}
use Rattle.vg_ring.proofs.device_end.DeviceEnd.complete.Goals as goal

pub give_back-requires-clause-last : goal.give_back-requires-clause-last
give_back-requires-clause-last g c =
    let t = c.self.inside in
    let v = device_of t.pass.me.0 in
    let k = c.self.invariant.2 in
    let on = c.self.invariant.0 in
    let e = c.requires.entry.0 in
    let has = subst (λ l. HasAt e c.args.head l.held) (sym c.self.view_is) c.requires.entry.1 in
    let unlent = subst (λ l. heads c.args.head l.lent ≡ 0) (sym c.self.view_is) c.requires.unlent in
    let few = k.few in
    let last = last_completed t.size v t.fetched t.completed t.tags.items k e c.args.head has in
    omega (arith, few, last)

pub give_back-requires-clause-held : goal.give_back-requires-clause-held
give_back-requires-clause-held g c =
    let t = c.self.inside in
    let v = device_of t.pass.me.0 in
    let k = c.self.invariant.2 in
    let on = c.self.invariant.0 in
    let e = c.requires.entry.0 in
    let has = subst (λ l. HasAt e c.args.head l.held) (sym c.self.view_is) c.requires.entry.1 in
    let unlent = subst (λ l. heads c.args.head l.lent ≡ 0) (sym c.self.view_is) c.requires.unlent in
    let few = k.few in
    let last = last_completed t.size v t.fetched t.completed t.tags.items k e c.args.head has in
    (has_one e c.args.head v.held has (k.once c.args.head)).0

pub give_back-requires-clause-cargo : goal.give_back-requires-clause-cargo
give_back-requires-clause-cargo g c =
    let t = c.self.inside in
    let v = device_of t.pass.me.0 in
    let k = c.self.invariant.2 in
    let on = c.self.invariant.0 in
    let e = c.requires.entry.0 in
    let has = subst (λ l. HasAt e c.args.head l.held) (sym c.self.view_is) c.requires.entry.1 in
    let unlent = subst (λ l. heads c.args.head l.lent ≡ 0) (sym c.self.view_is) c.requires.unlent in
    let few = k.few in
    let last = last_completed t.size v t.fetched t.completed t.tags.items k e c.args.head has in
    done_is g.P.Tagged.is_wanted v c.args.head c.args.len c.args.cargo e (k.once c.args.head) has c.requires.entry.2 c.requires.len c.requires.done

pub overflow_add-self : goal.overflow_add-self
overflow_add-self g c =
    let t = c.self.inside in
    let v = device_of t.pass.me.0 in
    let k = c.self.invariant.2 in
    let on = c.self.invariant.0 in
    let e = c.requires.entry.0 in
    let has = subst (λ l. HasAt e c.args.head l.held) (sym c.self.view_is) c.requires.entry.1 in
    let unlent = subst (λ l. heads c.args.head l.lent ≡ 0) (sym c.self.view_is) c.requires.unlent in
    let few = k.few in
    let last = last_completed t.size v t.fetched t.completed t.tags.items k e c.args.head has in
    record { fits = omega (arith, few, last) }

pub invariant_of-self : goal.invariant_of-self
invariant_of-self g c =
    let t = c.self.inside in
    let v = device_of t.pass.me.0 in
    let k = c.self.invariant.2 in
    let on = c.self.invariant.0 in
    let e = c.requires.entry.0 in
    let has = subst (λ l. HasAt e c.args.head l.held) (sym c.self.view_is) c.requires.entry.1 in
    let unlent = subst (λ l. heads c.args.head l.lent ≡ 0) (sym c.self.view_is) c.requires.unlent in
    let few = k.few in
    let last = last_completed t.size v t.fetched t.completed t.tags.items k e c.args.head has in
    device_ok g.N.Naming.ring t.line.value.shared.table_id t.pass.table_id c.give_back.new.pass.table_id t.line.value.shared.key v.queue t.size c.give_back.new.pass.me (completed_after v (answer_with (held_at c.args.head v.held) c.args.len c.args.cargo) (without c.args.head v.held)) t.fetched (t.completed + 1) t.tags.items on c.give_back.ensures.line.0 c.give_back.ensures.view refl
    (tended_completed t.size v t.fetched t.completed t.tags.items k c.args.head c.args.len c.args.cargo e has unlent)

pub returns : goal.returns
returns g c =
    let t = c.self.inside in
    let v = device_of t.pass.me.0 in
    let k = c.self.invariant.2 in
    let on = c.self.invariant.0 in
    let e = c.requires.entry.0 in
    let has = subst (λ l. HasAt e c.args.head l.held) (sym c.self.view_is) c.requires.entry.1 in
    let unlent = subst (λ l. heads c.args.head l.lent ≡ 0) (sym c.self.view_is) c.requires.unlent in
    let few = k.few in
    let last = last_completed t.size v t.fetched t.completed t.tags.items k e c.args.head has in
    let now = device_lists t.size (device_of c.give_back.new.pass.me.0) in
    subst (λ o. (f : _) → HasAt f c.args.head o.held → now ≡ completing o f c.args.len c.args.cargo) c.self.view_is
    (completes_is t.size v t.fetched t.completed t.tags.items k c.args.head c.args.len c.args.cargo now (ap (λ m. device_lists t.size (device_of m.0)) c.give_back.ensures.view))
