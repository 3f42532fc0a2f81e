use Rattle.std.proofs.Common.{◌∙◌}
use Rattle.vg_book.proofs.RootLemmas.{makes_ok, made_client_ok, makes_told}
use Rattle.vg_book.proofs.root.Root.client.Goals as goal

pub make_client-seat-requires-clause-root : goal.make_client-seat-requires-clause-root
make_client-seat-requires-clause-root g c = c.self.invariant.1.seat.root_is

pub of-requires : goal.of-requires
of-requires g c = (c.make_client-seat.ensures.id.1 ∙ c.self.invariant.0, made_client_ok g.M.Machine c.self.inside.given c.self.inside.lanes_made c.self.inside.seat.me c.make_client-seat.new.seat.me c.make_client-seat.result.me c.args.holds c.self.invariant.1 c.make_client-seat.ensures.made)

pub invariant_of-self : goal.invariant_of-self
invariant_of-self g c = (c.make_client-seat.ensures.id.0 ∙ c.self.invariant.0, makes_ok g.M.Machine c.self.inside.given c.self.inside.lanes_made c.self.inside.seat.me c.make_client-seat.new.seat.me c.make_client-seat.result.me c.args.holds c.self.invariant.1 c.make_client-seat.ensures.made)

pub returns : goal.returns
returns g c = rw (← c.self.view_is) (makes_told g.M.Machine c.self.inside.given c.self.inside.lanes_made c.self.inside.seat.me c.make_client-seat.new.seat.me c.make_client-seat.result.me c.args.holds c.self.invariant.1 c.make_client-seat.ensures.made c.of.result c.of.ensures)
