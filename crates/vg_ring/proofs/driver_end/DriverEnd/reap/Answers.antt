use Rattle.std.proofs.Common.{◌∙◌, ◌+◌, ◌%◌, refl, sym, ap, subst}
use Rattle.vg_ring.specs.Kept.{IsKept, driver_lists}
use Rattle.vg_cargo.specs.Ends.{Reaps}
use Rattle.vg_split.specs.Plays.{driver_of}
use Rattle.vg_split.specs.Rule.{reaped_after, staged}
use Rattle.vg_split.specs.declared.views.DriverStage.TheVariants.{Newer, Resting}
use Rattle.vg_split.specs.Tells.{HasReaped}
use Rattle.vg_ring.proofs.KeptLemmas.{look_newer, given_is, kept_reaped, reaps_is, rests}
use Rattle.std.specs.Prelude.{slice_index}
use Rattle.vg_ring.proofs.driver_end.DriverEnd.reap.Goals as goal

pub give-requires : goal.give-requires
give-requires g c =
    let t = c.self.inside in
    let d = driver_of t.pass.me.0 in
    let k = c.self.invariant.2 in
    let found = c.look_at_used-found.result in
    let got = c.take_answer-head.result in
    let me = c.take_answer-head.new.pass.me in
    let newer = look_newer c.look_at_used-found.new.pass.me d found c.look_at_used-found.ensures.view (λ e. c.if-found-self.false (e ∙ ap (λ n. n % 65536) (sym k.reaped_is))) in
    let r = subst (λ v. HasReaped g.P.Tagged.is_wanted t.size v got.0 got.1 got.2 me) (ap (λ m. driver_of m.0) newer) c.take_answer-head.ensures.reaped in
    (r.answer.entry.places, given_is g.P.Tagged.is_wanted t.size d t.published t.reaped t.places.free.items t.places.links.items t.places.at t.counts.items k (d.looks + 1) found got.0 got.1 got.2 me r)

pub invariant_of-self-2 : goal.invariant_of-self-2
invariant_of-self-2 g c =
    let t = c.self.inside in
    let d = driver_of t.pass.me.0 in
    let k = c.self.invariant.2 in
    let found = c.look_at_used-found.result in
    let got = c.take_answer-head.result in
    let me = c.take_answer-head.new.pass.me in
    let newer = look_newer c.look_at_used-found.new.pass.me d found c.look_at_used-found.ensures.view (λ e. c.if-found-self.false (e ∙ ap (λ n. n % 65536) (sym k.reaped_is))) in
    let r = subst (λ v. HasReaped g.P.Tagged.is_wanted t.size v got.0 got.1 got.2 me) (ap (λ m. driver_of m.0) newer) c.take_answer-head.ensures.reaped in
    let on = c.self.invariant.0 in
    let given = given_is g.P.Tagged.is_wanted t.size d t.published t.reaped t.places.free.items t.places.links.items t.places.at t.counts.items k (d.looks + 1) found got.0 got.1 got.2 me r in
    let gave = c.give.ensures in
    let kept = kept_reaped g.P.Tagged.is_wanted t.size d t.published t.reaped t.places.free.items t.places.links.items t.places.at t.counts.items k (d.looks + 1) found got.0 got.1 got.2 me r c.give.new.self.free.items c.give.new.self.at gave.length.1 (gave.given r.answer.entry.places given) in (
      record { table_is = on.table_is; seat_is = c.take_answer-head.ensures.line.0 ∙ (c.look_at_used-found.ensures.line.0 ∙ on.seat_is); words = on.words; slots = on.slots; queue_is = on.queue_is; size_is = on.size_is; some = on.some; least = on.least; small = on.small },
      rests me (reaped_after (record d { looks = d.looks + 1; seen = found; stage = Newer }) r.answer) r.after,
      subst (λ v. IsKept t.size v t.published (t.reaped + 1) c.give.new.self.free.items c.give.new.self.links.items c.give.new.self.at t.counts.items) (sym (ap (λ m. driver_of m.0) r.after))
          (subst (λ xs. IsKept t.size (staged (reaped_after (record d { looks = d.looks + 1; seen = found; stage = Newer }) r.answer) Resting) t.published (t.reaped + 1) c.give.new.self.free.items xs c.give.new.self.at t.counts.items) (sym gave.length.0) kept),
    )

pub returns : goal.returns
returns g c =
    let t = c.self.inside in
    let d = driver_of t.pass.me.0 in
    let k = c.self.invariant.2 in
    let found = c.look_at_used-found.result in
    let got = c.take_answer-head.result in
    let me = c.take_answer-head.new.pass.me in
    let newer = look_newer c.look_at_used-found.new.pass.me d found c.look_at_used-found.ensures.view (λ e. c.if-found-self.false (e ∙ ap (λ n. n % 65536) (sym k.reaped_is))) in
    let r = subst (λ v. HasReaped g.P.Tagged.is_wanted t.size v got.0 got.1 got.2 me) (ap (λ m. driver_of m.0) newer) c.take_answer-head.ensures.reaped in
    let next' = slice_index c.give.new.self.free.items c.give.new.self.at in
    subst (λ o. Reaps g.P.Tagged.is_wanted o got.0 got.1 got.2 (driver_lists t.queue t.size next' (driver_of me.0))) c.self.view_is
    (reaps_is g.P.Tagged.is_wanted t.size d t.published t.reaped t.places.free.items t.places.links.items t.places.at t.counts.items k (d.looks + 1) found got.0 got.1 got.2 me r t.queue (slice_index t.places.free.items t.places.at) next' (driver_lists t.queue t.size next' (driver_of me.0)) refl (ap (λ m. driver_lists t.queue t.size next' (driver_of m.0)) r.after))
