use Rattle.std.proofs.Common.{◌≡◌, ◌/◌, ◌<◌, true, false, None, Some, length, sym, ap, ◌∙◌, arith}
use Rattle.std.proofs.lemmas.Option.{slice_get_within}
use Rattle.vg_chain.specs.Memory.{memory}
use Rattle.vg_chain.specs.Descriptor.{is_indirect, has_next}
use Rattle.vg_chain.specs.TourWithin.{places_left}
use Rattle.vg_chain.specs.Walk.{there, fault_at}
use Rattle.vg_chain.proofs.TourLemmas.{visit_now, tour_starts, tour_passes, tour_enters, sound_of, none_of, tour_ends, left_passes, left_enters, fits_queue, free}
use Rattle.vg_chain.proofs.tour.walk.Goals as goal

pub loop-descriptor-init : goal.loop-descriptor-init
loop-descriptor-init c =
    let begins = tour_starts (memory c.args.parts.now.form c.args.parts.now.base c.args.parts.now.request c.args.parts.now.room c.args.parts.now.tables.now) c.args.table.now c.in_ok-tour.tour.inner.items c.args.head in
    rw (c.in_ok-tour.ensures.place.0, c.in_ok-tour.ensures.place.1, c.in_ok-tour.ensures.marks, c.in_ok-tour.ensures.segments.0, c.in_ok-tour.ensures.segments.1) begins

pub loop-descriptor-preserved-in-Continue-branch-2 :
    goal.loop-descriptor-preserved-in-Continue-branch-2
loop-descriptor-preserved-in-Continue-branch-2 c =
    let t = c.loop-descriptor.tour in
    let d = c.in-Some.descriptor in
    let here : there (visit_now c.args.table.now t.inner.items t.inside t.at) ≡ Some d = sym c.in-Some.ensures in
    let sound : fault_at (memory c.args.parts.now.form c.args.parts.now.base c.args.parts.now.request c.args.parts.now.room c.args.parts.now.tables.now) (length c.args.table.now) c.loop-descriptor.invariant.before (visit_now c.args.table.now t.inner.items t.inside t.at) ≡ None =
    sound_of _ c.args.table.now _ t.inner.items t.inside t.at t.marks.items t.readable.items t.writable.items d c.is_met-met.result c.has_read-read.result c.has_written-wrote.result c.fault_of.result c.loop-descriptor.invariant here c.is_met-met.ensures c.has_read-read.ensures c.has_written-wrote.ensures c.fault_of.ensures c.in_default-fault_of.not-Some in
    let e = c.in_ok-enter.ensures in
    let parts = free (memory c.args.parts.now.form c.args.parts.now.base c.args.parts.now.request c.args.parts.now.room c.args.parts.now.tables.now) (length c.args.table.now) t.inside c.is_met-met.result c.has_read-read.result c.has_written-wrote.result d (sym c.fault_of.ensures ∙ none_of _ c.in_default-fault_of.not-Some) in
    let refers : is_indirect d ≡ true = sym c.if-is_indirect.ensures in
    rw (e.place.0, e.place.1, e.marks, e.segments.0, e.segments.1, e.table) (tour_enters _ c.args.table.now _ t.inner.items t.inside t.at t.marks.items t.readable.items t.writable.items d c.loop-descriptor.invariant here sound refers (parts.outer refers) (ap length (sym e.table) ∙ e.count))

pub pass-requires : goal.pass-requires
pass-requires c =
    let small = slice_get_within _ c.loop-descriptor.tour.at c.in-Some.descriptor (sym c.in-Some.ensures) in
    omega (arith, small, c.loop-descriptor.invariant.long)

pub loop-descriptor-preserved : goal.loop-descriptor-preserved
loop-descriptor-preserved c =
    let t = c.loop-descriptor.tour in
    let d = c.in-Some.descriptor in
    let here : there (visit_now c.args.table.now t.inner.items t.inside t.at) ≡ Some d = sym c.in-Some.ensures in
    let sound : fault_at (memory c.args.parts.now.form c.args.parts.now.base c.args.parts.now.request c.args.parts.now.room c.args.parts.now.tables.now) (length c.args.table.now) c.loop-descriptor.invariant.before (visit_now c.args.table.now t.inner.items t.inside t.at) ≡ None =
    sound_of _ c.args.table.now _ t.inner.items t.inside t.at t.marks.items t.readable.items t.writable.items d c.is_met-met.result c.has_read-read.result c.has_written-wrote.result c.fault_of.result c.loop-descriptor.invariant here c.is_met-met.ensures c.has_read-read.ensures c.has_written-wrote.ensures c.fault_of.ensures c.in_default-fault_of.not-Some in
    let e = c.in_ok-pass.ensures in
    let plain : is_indirect d ≡ false = sym c.if-is_indirect.ensures in
    let more : has_next d ≡ true = sym c.if-has_next.ensures in
    rw (e.place.0, e.place.1, e.place.2, e.marks, e.readable, e.writable) (tour_passes _ c.args.table.now _ t.inner.items t.inside t.at t.marks.items t.readable.items t.writable.items d c.loop-descriptor.invariant here sound plain more)

pub loop-descriptor-smaller : goal.loop-descriptor-smaller
loop-descriptor-smaller c =
    let t = c.loop-descriptor.tour in
    let e = c.in_ok-pass.ensures in
    let small : t.at < length t.marks.items = (let w = slice_get_within _ t.at c.in-Some.descriptor (sym c.in-Some.ensures) in omega (arith, w, c.loop-descriptor.invariant.long)) in
    let parts = free (memory c.args.parts.now.form c.args.parts.now.base c.args.parts.now.request c.args.parts.now.room c.args.parts.now.tables.now) (length c.args.table.now) t.inside c.is_met-met.result c.has_read-read.result c.has_written-wrote.result c.in-Some.descriptor (sym c.fault_of.ensures ∙ none_of _ c.in_default-fault_of.not-Some) in
    let fewer : places_left c.args.table.now c.pass.new.self.inside c.pass.new.self.marks.items < places_left c.args.table.now t.inside t.marks.items =
    rw (e.place.0, e.marks) (left_passes c.args.table.now t.inside t.marks.items t.at small (sym c.is_met-met.ensures ∙ parts.unmet)) in
    fewer

pub loop-descriptor-smaller-in-Continue-branch-2 :
    goal.loop-descriptor-smaller-in-Continue-branch-2
loop-descriptor-smaller-in-Continue-branch-2 c =
    let t = c.loop-descriptor.tour in
    let d = c.in-Some.descriptor in
    let e = c.in_ok-enter.ensures in
    let parts = free (memory c.args.parts.now.form c.args.parts.now.base c.args.parts.now.request c.args.parts.now.room c.args.parts.now.tables.now) (length c.args.table.now) t.inside c.is_met-met.result c.has_read-read.result c.has_written-wrote.result d (sym c.fault_of.ensures ∙ none_of _ c.in_default-fault_of.not-Some) in
    let refers : is_indirect d ≡ true = sym c.if-is_indirect.ensures in
    let few = fits_queue (length c.args.table.now) d (parts.good refers) in
    let fewer : places_left c.args.table.now c.enter.new.self.inside c.enter.new.self.marks.items < places_left c.args.table.now t.inside t.marks.items =
    rw (e.place.0, e.marks, parts.outer refers) (left_enters c.args.table.now t.marks.items (d.len / 16) few) in
    fewer

pub returns-else-has_next : goal.returns-else-has_next
returns-else-has_next c =
    let t = c.loop-descriptor.tour in
    let d = c.in-Some.descriptor in
    let here : there (visit_now c.args.table.now t.inner.items t.inside t.at) ≡ Some d = sym c.in-Some.ensures in
    let sound : fault_at (memory c.args.parts.now.form c.args.parts.now.base c.args.parts.now.request c.args.parts.now.room c.args.parts.now.tables.now) (length c.args.table.now) c.loop-descriptor.invariant.before (visit_now c.args.table.now t.inner.items t.inside t.at) ≡ None =
    sound_of _ c.args.table.now _ t.inner.items t.inside t.at t.marks.items t.readable.items t.writable.items d c.is_met-met.result c.has_read-read.result c.has_written-wrote.result c.fault_of.result c.loop-descriptor.invariant here c.is_met-met.ensures c.has_read-read.ensures c.has_written-wrote.ensures c.fault_of.ensures c.in_default-fault_of.not-Some in
    let e = c.in_ok-add.ensures in
    let plain : is_indirect d ≡ false = sym c.if-is_indirect.ensures in
    let last : has_next d ≡ false = sym c.if-has_next.ensures in
    tour_ends _ c.args.table.now _ t.inner.items t.inside t.at t.marks.items t.readable.items t.writable.items d c.into_chain.result c.loop-descriptor.invariant here sound plain last (c.into_chain.ensures.readable ∙ e.readable) (c.into_chain.ensures.writable ∙ e.writable)
