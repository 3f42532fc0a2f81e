use Rattle.vg_chain.specs.Memory.{memory}
use Rattle.vg_chain.specs.TourWithin.{places_left}
use Rattle.vg_chain.proofs.TourLemmas.{IsTour}
use Rattle.vg_chain.proofs.tour.walk.Given as goal

abbrev pub invariant-loop-descriptor : goal.invariant-loop-descriptor
invariant-loop-descriptor l =
    IsTour (memory l.parts.form l.parts.base l.parts.request l.parts.room l.parts.tables.now) l.table l.head l.tour.inner.items l.tour.inside l.tour.at l.tour.marks.items l.tour.readable.items l.tour.writable.items

abbrev pub decreases-loop-descriptor : goal.decreases-loop-descriptor
decreases-loop-descriptor l = places_left l.table l.tour.inside l.tour.marks.items
