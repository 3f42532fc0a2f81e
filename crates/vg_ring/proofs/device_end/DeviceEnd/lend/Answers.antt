use Rattle.std.proofs.Common.{◌≡◌, ◌∙◌, ◌<◌, length, refl, sym, ap, subst, arith}
use Rattle.vg_cargo.specs.Entries.{heads, held_at}
use Rattle.vg_split.specs.Rule.{lent_after}
use Rattle.vg_split.specs.Plays.{device_of, right_of}
use Rattle.vg_cargo.specs.DeviceEnds.{HasAt}
use Rattle.std.proofs.lemmas.Option.{slice_get_read}
use Rattle.vg_cargo.proofs.Heads.{has_one}
use Rattle.vg_ring.proofs.TendedLemmas.{tended_lent, device_ok, right_ok}
use Rattle.vg_ring.proofs.device_end.DeviceEnd.lend.Goals as goal

pub cut_right-seat-requires-clause-held : goal.cut_right-seat-requires-clause-held
cut_right-seat-requires-clause-held g c =
    let t = c.self.inside in
    let v = device_of t.pass.me.0 in
    let k = c.self.invariant.2 in
    let on = c.self.invariant.0 in
    let e = c.requires.held.0 in
    let has = subst (λ l. HasAt e c.args.head l.held) (sym c.self.view_is) c.requires.held.1 in
    let unlent = subst (λ l. heads c.args.head l.lent ≡ 0) (sym c.self.view_is) c.requires.unlent in
    let one = has_one e c.args.head v.held has (k.once c.args.head) in
    one.0

pub of-requires-clause-right : goal.of-requires-clause-right
of-requires-clause-right g c =
    let t = c.self.inside in
    let v = device_of t.pass.me.0 in
    let k = c.self.invariant.2 in
    let on = c.self.invariant.0 in
    let e = c.requires.held.0 in
    let has = subst (λ l. HasAt e c.args.head l.held) (sym c.self.view_is) c.requires.held.1 in
    let unlent = subst (λ l. heads c.args.head l.lent ≡ 0) (sym c.self.view_is) c.requires.unlent in
    let one = has_one e c.args.head v.held has (k.once c.args.head) in
    let small : c.args.head < length t.tags.items = (let less = k.below e has.0 in let long = k.tags_size in omega (arith, less, long, has.1)) in
    let there = slice_get_read t.tags.items (length t.tags.items) c.args.head c.index.result.now refl small c.index.ensures in
    let r = right_ok g.N.Naming.ring t.line.value.shared.table_id t.pass.table_id t.line.value.shared.key v.queue t.size v t.fetched t.completed t.tags.items c.cut_right-seat.result.me c.args.head c.index.result.now e on k has c.cut_right-seat.ensures.right there in
    record { table_is = c.cut_right-seat.ensures.line.2 ∙ r.table_is; seat = r.seat; head_is = r.head_is; lane = r.lane; ordinal = r.ordinal }

pub invariant_of-self : goal.invariant_of-self
invariant_of-self g c =
    let t = c.self.inside in
    let v = device_of t.pass.me.0 in
    let k = c.self.invariant.2 in
    let on = c.self.invariant.0 in
    let e = c.requires.held.0 in
    let has = subst (λ l. HasAt e c.args.head l.held) (sym c.self.view_is) c.requires.held.1 in
    let unlent = subst (λ l. heads c.args.head l.lent ≡ 0) (sym c.self.view_is) c.requires.unlent in
    let one = has_one e c.args.head v.held has (k.once c.args.head) in
    device_ok g.N.Naming.ring t.line.value.shared.table_id t.pass.table_id c.cut_right-seat.new.pass.table_id t.line.value.shared.key v.queue t.size c.cut_right-seat.new.pass.me (lent_after v (held_at c.args.head v.held)) t.fetched t.completed t.tags.items on c.cut_right-seat.ensures.line.0 c.cut_right-seat.ensures.view refl (tended_lent t.size v t.fetched t.completed t.tags.items k c.args.head e has unlent)

pub returns-clause-entry : goal.returns-clause-entry
returns-clause-entry g c =
    let t = c.self.inside in
    let v = device_of t.pass.me.0 in
    let k = c.self.invariant.2 in
    let on = c.self.invariant.0 in
    let e = c.requires.held.0 in
    let has = subst (λ l. HasAt e c.args.head l.held) (sym c.self.view_is) c.requires.held.1 in
    let unlent = subst (λ l. heads c.args.head l.lent ≡ 0) (sym c.self.view_is) c.requires.unlent in
    let one = has_one e c.args.head v.held has (k.once c.args.head) in
    let entry = ap (λ r. r.entry) c.of.ensures ∙ (ap (λ m. right_of m.0) c.cut_right-seat.ensures.right ∙ one.1) in
    subst (λ f. HasAt f c.args.head c.args.self.now.held) (sym entry) c.requires.held.1

pub returns-clause-only : goal.returns-clause-only
returns-clause-only g c =
    let t = c.self.inside in
    let v = device_of t.pass.me.0 in
    let k = c.self.invariant.2 in
    let on = c.self.invariant.0 in
    let e = c.requires.held.0 in
    let has = subst (λ l. HasAt e c.args.head l.held) (sym c.self.view_is) c.requires.held.1 in
    let unlent = subst (λ l. heads c.args.head l.lent ≡ 0) (sym c.self.view_is) c.requires.unlent in
    let one = has_one e c.args.head v.held has (k.once c.args.head) in
    λ f at. (let there = subst (λ l. HasAt f c.args.head l.held) (sym c.self.view_is) at in ap (λ r. r.entry) c.of.ensures ∙ (ap (λ m. right_of m.0) c.cut_right-seat.ensures.right ∙ (has_one f c.args.head v.held there (k.once c.args.head)).1))
