use Rattle.std.proofs.Common.{◌∙◌}
use Rattle.vg_book.proofs.RootLemmas.{lane_ok, made_lane_sits, lane_root, lane_token}
use Rattle.vg_book.proofs.root.Root.lane.Goals as goal

pub make_lane-seat-requires-clause-root : goal.make_lane-seat-requires-clause-root
make_lane-seat-requires-clause-root g c = c.self.invariant.1.seat.root_is

pub of-requires : goal.of-requires
of-requires g c = (c.make_lane-seat.ensures.id.1 ∙ c.self.invariant.0, made_lane_sits g.M.Machine c.self.inside.given c.self.inside.lanes_made c.self.inside.seat.me c.make_lane-seat.result.me c.self.invariant.1 c.make_lane-seat.ensures.right)

pub invariant_of-self : goal.invariant_of-self
invariant_of-self g c = (c.make_lane-seat.ensures.id.0 ∙ c.self.invariant.0, lane_ok g.M.Machine c.self.inside.given c.self.inside.lanes_made c.self.inside.seat.me c.make_lane-seat.new.seat.me c.self.invariant.1 c.make_lane-seat.ensures.left)

pub returns-clause-root : goal.returns-clause-root
returns-clause-root g c = rw (← c.self.view_is) (lane_root g.M.Machine c.self.inside.given c.self.inside.lanes_made c.self.inside.seat.me c.make_lane-seat.new.seat.me c.make_lane-seat.ensures.left)

pub returns-clause-lane : goal.returns-clause-lane
returns-clause-lane g c = rw (← c.self.view_is) (c.of.ensures ∙ lane_token g.M.Machine c.self.inside.given c.self.inside.lanes_made c.self.inside.seat.me c.make_lane-seat.result.me c.make_lane-seat.ensures.right)
