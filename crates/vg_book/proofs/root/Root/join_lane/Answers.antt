use Rattle.std.proofs.Common.{◌∙◌, [], ◌∷◌}
use Rattle.std.proofs.lemmas.List.{append-nil}
use Rattle.vg_book.specs.Turns.{counted}
use Rattle.vg_book.proofs.RootLemmas.{takes_ok, takes_told, takes_accounts, takes_lanes}
use Rattle.vg_book.proofs.root.Root.join_lane.Goals as goal

pub invariant_of-self : goal.invariant_of-self
invariant_of-self g c = (c.look.ensures.id ∙ (c.join.ensures.id ∙ c.self.invariant.0), takes_ok g.M.Machine c.self.inside.given c.self.inside.lanes_made c.self.inside.seat.me c.into_seat.result.me c.join.new.seat.me c.look.new.seat.me [] (counted g.M.Machine c.args.token.lane c.args.token.count ∷ []) c.self.invariant.1 c.into_seat.ensures.ok.1 (λ a h. absurd h) c.join.ensures.both c.look.ensures.looked)

pub returns-clause-told : goal.returns-clause-told
returns-clause-told g c = rw (← c.self.view_is) (takes_told g.M.Machine c.self.inside.given c.self.inside.lanes_made c.self.inside.seat.me c.into_seat.result.me c.join.new.seat.me c.look.new.seat.me _ c.join.ensures.both c.into_seat.ensures.value c.look.ensures.looked)

pub returns-clause-accounts : goal.returns-clause-accounts
returns-clause-accounts g c = rw (← c.self.view_is) (takes_accounts g.M.Machine c.self.inside.seat.me c.into_seat.result.me c.join.new.seat.me c.look.new.seat.me [] c.into_seat.ensures.ok.1.accounts c.join.ensures.both c.look.ensures.looked ∙ append-nil c.self.inside.seat.me.0.accounts)

pub returns-clause-lanes : goal.returns-clause-lanes
returns-clause-lanes g c = rw (← c.self.view_is) (takes_lanes g.M.Machine c.self.inside.seat.me c.into_seat.result.me c.join.new.seat.me c.look.new.seat.me (counted g.M.Machine c.args.token.lane c.args.token.count ∷ []) c.into_seat.ensures.ok.1.lanes c.join.ensures.both c.look.ensures.looked)
