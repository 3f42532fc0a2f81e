use Rattle.std.proofs.Common.{◌≡◌}
use Rattle.vg_book.specs.Opening.{first_lanes, with_lanes}
use Rattle.vg_book.proofs.root.Root.make_lanes.Given as goal

abbrev pub invariant-loop-lane : goal.invariant-loop-lane
invariant-loop-lane g l = (l.self ≡ with_lanes l._lane l.fn.self) × (l.tokens.items ≡ first_lanes l.fn.self.start l._lane)
