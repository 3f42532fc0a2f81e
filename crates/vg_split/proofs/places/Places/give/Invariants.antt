use Rattle.std.proofs.Common.{◌≡◌}
use Rattle.vg_split.proofs.PlaceLemmas.{IsGiving}
use Rattle.vg_split.proofs.places.Places.give.Given as goal

abbrev pub invariant-loop-place : goal.invariant-loop-place
invariant-loop-place l = (l.self.links.items ≡ l.initial.self.links.items) × IsGiving l.initial.self.links.items l.initial.self.free.items l.initial.self.at l.initial.place l.self.free.items l.self.at l.place

abbrev pub decreases-loop-place : goal.decreases-loop-place
decreases-loop-place l = l.self.at
