use Rattle.std.proofs.Common.{◌≡◌, ℕ, ◌≤◌, length, drop, slice_index}
use Rattle.vg_cargo.specs.Entries.{times}
use Rattle.vg_split.specs.Places.{wrong}
use Rattle.vg_split.proofs.places.link.Given as goal

abbrev pub invariant-loop-at : goal.invariant-loop-at
invariant-loop-at l = (l.at ≤ length l.places) × (wrong l.links (drop l.at l.places) ≡ 0) × ((p : ℕ) → times p l.places ≡ 0 → slice_index l.links p ≡ slice_index l.initial.links p)

abbrev pub decreases-loop-at : goal.decreases-loop-at
decreases-loop-at l = l.at
