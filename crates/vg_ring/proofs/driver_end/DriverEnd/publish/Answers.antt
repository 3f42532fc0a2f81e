use Rattle.std.proofs.Common.{◌≡◌, ◌∙◌, ◌+◌, ◌-◌, ◌^◌, ◌<◌, length, take, drop, slice_index, slice_set, [], refl, sym, ap, subst, arith}
use Rattle.std.proofs.lemmas.List.{get_or_read}
use Rattle.vg_split.specs.declared.views.View.TheVariants.{Driver}
use Rattle.vg_cargo.specs.Entries.{lane_count, published_as}
use Rattle.vg_split.specs.Rule.{published_after}
use Rattle.vg_ring.specs.Kept.{IsKept, driver_lists}
use Rattle.vg_cargo.specs.Ends.{Publishes}
use Rattle.vg_split.specs.Plays.{driver_of}
use Rattle.vg_ring.proofs.KeptLemmas.{needed_is, count_fits, sendable, kept_published, published_is, lane_small, rests}
use Rattle.vg_cargo.proofs.Counts.{lane_few}
use Rattle.vg_ring.proofs.driver_end.DriverEnd.publish.Goals as goal

pub first-head-requires : goal.first-head-requires
first-head-requires g c =
    let t = c.self.inside in
    let d = driver_of t.pass.me.0 in
    let free = t.places.free.items in
    let links = t.places.links.items in
    let at = t.places.at in
    let k = c.self.invariant.2 in
    let p = c.args.cargo.parcel in
    let x = c.extent-extent in
    let count = c.needed-count.result in
    let needed = needed_is p c.args.shape x.result.base x.result.request x.result.room count x.ensures c.needed-count.ensures in
    let fits = count_fits t.size d t.published t.reaped free links at t.counts.items t.queue (slice_index free at) c.args.self.now c.args.shape (length p.request) p.room count c.requires.room.0 k c.self.view_is needed c.requires.room.1 c.requires.room.2 in
    let size_is = k.places.free_size in
    omega (arith, fits.0, fits.1, size_is)

pub front-requires : goal.front-requires
front-requires g c =
    let t = c.self.inside in
    let d = driver_of t.pass.me.0 in
    let free = t.places.free.items in
    let links = t.places.links.items in
    let at = t.places.at in
    let k = c.self.invariant.2 in
    let p = c.args.cargo.parcel in
    let x = c.extent-extent in
    let count = c.needed-count.result in
    let needed = needed_is p c.args.shape x.result.base x.result.request x.result.room count x.ensures c.needed-count.ensures in
    let fits = count_fits t.size d t.published t.reaped free links at t.counts.items t.queue (slice_index free at) c.args.self.now c.args.shape (length p.request) p.room count c.requires.room.0 k c.self.view_is needed c.requires.room.1 c.requires.room.2 in
    let size_is = k.places.free_size in
    omega (arith, fits.0, size_is)

pub send-requires-clause-cargo : goal.send-requires-clause-cargo
send-requires-clause-cargo g c =
    let t = c.self.inside in
    let d = driver_of t.pass.me.0 in
    let free = t.places.free.items in
    let links = t.places.links.items in
    let at = t.places.at in
    let k = c.self.invariant.2 in
    let p = c.args.cargo.parcel in
    let x = c.extent-extent in
    let count = c.needed-count.result in
    let needed = needed_is p c.args.shape x.result.base x.result.request x.result.room count x.ensures c.needed-count.ensures in
    let fits = count_fits t.size d t.published t.reaped free links at t.counts.items t.queue (slice_index free at) c.args.self.now c.args.shape (length p.request) p.room count c.requires.room.0 k c.self.view_is needed c.requires.room.1 c.requires.room.2 in
    let size_is = k.places.free_size in
    let on = c.self.invariant.0 in
    let head = ap (λ l. l.next) c.self.view_is ∙ sym c.requires.head in
    let ordinal = subst (λ l. p.ordinal ≡ lane_count p.lane l.published + 1) (sym c.self.view_is) c.requires.ordinal in
    let last = subst (λ l. length l.published < 2 ^ 63 - 1) (sym c.self.view_is) c.requires.last in
    let queue_is = c.requires.queue ∙ sym (ap (λ l. l.queue) c.self.view_is) in
    let key = queue_is ∙ (sym on.queue_is ∙ sym (ap (λ l. l.shared.key.queue) c.deref.ensures)) in
    sendable t.size d t.published t.reaped free links at t.counts.items k g.P.Tagged.is_wanted (c.deref.result.now.shared.key.queue) c.args.shape count c.args.cargo (c.front.result.now) c.front.ensures c.requires.count c.requires.shape needed fits.0 head ordinal key c.requires.wanted last

pub take-requires-clause-room : goal.take-requires-clause-room
take-requires-clause-room g c =
    let t = c.self.inside in
    let d = driver_of t.pass.me.0 in
    let free = t.places.free.items in
    let links = t.places.links.items in
    let at = t.places.at in
    let k = c.self.invariant.2 in
    let p = c.args.cargo.parcel in
    let x = c.extent-extent in
    let count = c.needed-count.result in
    let needed = needed_is p c.args.shape x.result.base x.result.request x.result.room count x.ensures c.needed-count.ensures in
    let fits = count_fits t.size d t.published t.reaped free links at t.counts.items t.queue (slice_index free at) c.args.self.now c.args.shape (length p.request) p.room count c.requires.room.0 k c.self.view_is needed c.requires.room.1 c.requires.room.2 in
    let size_is = k.places.free_size in
    omega (arith, fits.0, size_is)

pub take-requires-clause-below : goal.take-requires-clause-below
take-requires-clause-below g c =
    let t = c.self.inside in
    let d = driver_of t.pass.me.0 in
    let free = t.places.free.items in
    let links = t.places.links.items in
    let at = t.places.at in
    let k = c.self.invariant.2 in
    let p = c.args.cargo.parcel in
    let x = c.extent-extent in
    let count = c.needed-count.result in
    let needed = needed_is p c.args.shape x.result.base x.result.request x.result.room count x.ensures c.needed-count.ensures in
    let fits = count_fits t.size d t.published t.reaped free links at t.counts.items t.queue (slice_index free at) c.args.self.now c.args.shape (length p.request) p.room count c.requires.room.0 k c.self.view_is needed c.requires.room.1 c.requires.room.2 in
    let size_is = k.places.free_size in
    let on = c.self.invariant.0 in
    let head = ap (λ l. l.next) c.self.view_is ∙ sym c.requires.head in
    let ordinal = subst (λ l. p.ordinal ≡ lane_count p.lane l.published + 1) (sym c.self.view_is) c.requires.ordinal in
    let last = subst (λ l. length l.published < 2 ^ 63 - 1) (sym c.self.view_is) c.requires.last in
    let queue_is = c.requires.queue ∙ sym (ap (λ l. l.queue) c.self.view_is) in
    let s = sendable t.size d t.published t.reaped free links at t.counts.items k g.P.Tagged.is_wanted (t.queue) c.args.shape count c.args.cargo (take count (drop at free)) refl c.requires.count c.requires.shape needed fits.0 head ordinal queue_is c.requires.wanted last in
    let same = k.places.links_size in
    λ q some. (let less = s.below q some in omega (arith, less, same))

pub take-requires-clause-apart : goal.take-requires-clause-apart
take-requires-clause-apart g c =
    let t = c.self.inside in
    let d = driver_of t.pass.me.0 in
    let free = t.places.free.items in
    let links = t.places.links.items in
    let at = t.places.at in
    let k = c.self.invariant.2 in
    let p = c.args.cargo.parcel in
    let x = c.extent-extent in
    let count = c.needed-count.result in
    let needed = needed_is p c.args.shape x.result.base x.result.request x.result.room count x.ensures c.needed-count.ensures in
    let fits = count_fits t.size d t.published t.reaped free links at t.counts.items t.queue (slice_index free at) c.args.self.now c.args.shape (length p.request) p.room count c.requires.room.0 k c.self.view_is needed c.requires.room.1 c.requires.room.2 in
    let size_is = k.places.free_size in
    let on = c.self.invariant.0 in
    let head = ap (λ l. l.next) c.self.view_is ∙ sym c.requires.head in
    let ordinal = subst (λ l. p.ordinal ≡ lane_count p.lane l.published + 1) (sym c.self.view_is) c.requires.ordinal in
    let last = subst (λ l. length l.published < 2 ^ 63 - 1) (sym c.self.view_is) c.requires.last in
    let queue_is = c.requires.queue ∙ sym (ap (λ l. l.queue) c.self.view_is) in
    let s = sendable t.size d t.published t.reaped free links at t.counts.items k g.P.Tagged.is_wanted (t.queue) c.args.shape count c.args.cargo (take count (drop at free)) refl c.requires.count c.requires.shape needed fits.0 head ordinal queue_is c.requires.wanted last in
    λ q. (let once = s.free q in omega (arith, once))

pub overflow_add-index_mut : goal.overflow_add-index_mut
overflow_add-index_mut g c =
    let t = c.self.inside in
    let d = driver_of t.pass.me.0 in
    let k = c.self.invariant.2 in
    let lane = c.tag-lane.result.lane in
    let small = lane_small c.args.cargo.parcel.queue lane c.tag-lane.ensures.lane in
    let lanes = k.lanes in
    let read = get_or_read t.counts.items lane c.index_mut.result.now (omega (arith, lanes, small)) c.index_mut.ensures.value 0 in
    let is = k.counts_are lane small in
    let few = lane_few lane d.published in
    let last = k.few in
    record { fits = omega (arith, read, is, few, last) }

pub invariant_of-self : goal.invariant_of-self
invariant_of-self g c =
    let t = c.self.inside in
    let d = driver_of t.pass.me.0 in
    let free = t.places.free.items in
    let links = t.places.links.items in
    let at = t.places.at in
    let k = c.self.invariant.2 in
    let p = c.args.cargo.parcel in
    let x = c.extent-extent in
    let count = c.needed-count.result in
    let needed = needed_is p c.args.shape x.result.base x.result.request x.result.room count x.ensures c.needed-count.ensures in
    let fits = count_fits t.size d t.published t.reaped free links at t.counts.items t.queue (slice_index free at) c.args.self.now c.args.shape (length p.request) p.room count c.requires.room.0 k c.self.view_is needed c.requires.room.1 c.requires.room.2 in
    let size_is = k.places.free_size in
    let on = c.self.invariant.0 in
    let head = ap (λ l. l.next) c.self.view_is ∙ sym c.requires.head in
    let ordinal = subst (λ l. p.ordinal ≡ lane_count p.lane l.published + 1) (sym c.self.view_is) c.requires.ordinal in
    let last = subst (λ l. length l.published < 2 ^ 63 - 1) (sym c.self.view_is) c.requires.last in
    let queue_is = c.requires.queue ∙ sym (ap (λ l. l.queue) c.self.view_is) in
    let lane = c.tag-lane.result.lane in
    let small = lane_small p.queue lane c.tag-lane.ensures.lane in
    let lanes = k.lanes in
    let read = get_or_read t.counts.items lane c.index_mut.result.now (omega (arith, lanes, small)) c.index_mut.ensures.value 0 in
    let places = take count (drop at free) in
    let now = c.send.ensures.view ∙ ap (λ ps. (Driver (published_after d (published_as ps c.args.cargo)), [])) c.front.ensures in
    let taken = c.take.ensures in
    let kept = kept_published t.size d t.published t.reaped free links at t.counts.items k g.P.Tagged.is_wanted t.queue c.args.shape count c.args.cargo places c.take.new.self.links.items lane c.index_mut.result.now refl fits.0 taken.length taken.linked taken.others last c.tag-lane.ensures.tag.0 small read in (
      record { table_is = on.table_is; seat_is = c.send.ensures.line.0 ∙ on.seat_is; words = on.words; slots = on.slots; queue_is = on.queue_is; size_is = on.size_is; some = on.some; least = on.least; small = on.small },
      rests c.send.new.pass.me (published_after d (published_as places c.args.cargo)) now,
      subst (λ v. IsKept t.size v (t.published + 1) t.reaped c.take.new.self.free.items c.take.new.self.links.items c.take.new.self.at (slice_set t.counts.items lane (c.index_mut.result.now + 1))) (sym (ap (λ m. driver_of m.0) now))
          (subst (λ xs. IsKept t.size (published_after d (published_as places c.args.cargo)) (t.published + 1) t.reaped xs c.take.new.self.links.items c.take.new.self.at (slice_set t.counts.items lane (c.index_mut.result.now + 1))) (sym taken.free.0)
          (subst (λ i. IsKept t.size (published_after d (published_as places c.args.cargo)) (t.published + 1) t.reaped free c.take.new.self.links.items i (slice_set t.counts.items lane (c.index_mut.result.now + 1))) (sym taken.free.1) kept)),
    )

pub returns-clause-published : goal.returns-clause-published
returns-clause-published g c =
    let t = c.self.inside in
    let d = driver_of t.pass.me.0 in
    let free = t.places.free.items in
    let links = t.places.links.items in
    let at = t.places.at in
    let k = c.self.invariant.2 in
    let p = c.args.cargo.parcel in
    let x = c.extent-extent in
    let count = c.needed-count.result in
    let needed = needed_is p c.args.shape x.result.base x.result.request x.result.room count x.ensures c.needed-count.ensures in
    let fits = count_fits t.size d t.published t.reaped free links at t.counts.items t.queue (slice_index free at) c.args.self.now c.args.shape (length p.request) p.room count c.requires.room.0 k c.self.view_is needed c.requires.room.1 c.requires.room.2 in
    let size_is = k.places.free_size in
    let on = c.self.invariant.0 in
    let head = ap (λ l. l.next) c.self.view_is ∙ sym c.requires.head in
    let ordinal = subst (λ l. p.ordinal ≡ lane_count p.lane l.published + 1) (sym c.self.view_is) c.requires.ordinal in
    let last = subst (λ l. length l.published < 2 ^ 63 - 1) (sym c.self.view_is) c.requires.last in
    let queue_is = c.requires.queue ∙ sym (ap (λ l. l.queue) c.self.view_is) in
    let s = sendable t.size d t.published t.reaped free links at t.counts.items k g.P.Tagged.is_wanted (t.queue) c.args.shape count c.args.cargo (c.front.result.now) c.front.ensures c.requires.count c.requires.shape needed fits.0 head ordinal queue_is c.requires.wanted last in
    let next' = slice_index c.take.new.self.free.items c.take.new.self.at in
    let is = ap (λ m. driver_lists t.queue t.size next' (driver_of m.0)) c.send.ensures.view in
    let start = head ∙ sym s.head_is in
    subst (λ o. Publishes o c.args.shape c.args.cargo (driver_lists t.queue t.size next' (driver_of c.send.new.pass.me.0))) c.self.view_is
    (published_is t.size d t.published t.reaped free links at t.counts.items k g.P.Tagged.is_wanted t.queue c.args.shape count c.args.cargo c.front.result.now (driver_lists t.queue t.size next' (driver_of c.send.new.pass.me.0)) (slice_index free at) next' s start is)
