use Rattle.std.proofs.Common.{◌++◌, ◌∷◌, [], refl, sym, subst, arith}
use Rattle.vg_cargo.specs.DeviceEnds.{Fetches, FetchesNone}
use Rattle.vg_front.specs.Lanes.{IsDesk}
use Rattle.vg_front.specs.Desks.{DeskData, HasFetched}
use Rattle.vg_front.proofs.DeskLemmas.{desk_fetched, desk_none, has_fetched, room_is}
use Rattle.vg_front.proofs.desk.Desk.fetch.Goals as goal

pub unwrap-requires : goal.unwrap-requires
unwrap-requires g c =
    let k = c.self.invariant.0 in
    let d = c.self.inside in
    let room = room_is g.P.Tagged.is_wanted g.T.Turn.lane_of g.T.Turn.count_of d.end d.first d.homes.items d.waiting.items d.halted k.0 k.1 c.in-Some.field-0.head c.in-Some.field-0.cargo c.fetch.new.self c.in-Some.ensures in
    let f : Fetches g.P.Tagged.is_wanted d.end c.in-Some.field-0.head c.in-Some.field-0.cargo c.fetch.new.self = c.in-Some.ensures in
    let big = c.self.invariant.1 in
    let same = f.same.1 in
    c.push.ensures.succeeds (omega (arith, room, big, same))

pub invariant_of-self : goal.invariant_of-self
invariant_of-self g c =
    let k = c.self.invariant.0 in
    let d = c.self.inside in
    let n : FetchesNone d.end c.fetch.new.self = c.in-None.ensures in
    ((k.0, desk_none g.P.Tagged.is_wanted g.T.Turn.lane_of g.T.Turn.count_of d.end d.first d.homes.items d.waiting.items d.halted k.0 k.1 c.fetch.new.self n), (let big = c.self.invariant.1 in let same = n.same.1 in omega (arith, big, same)))

pub invariant_of-self-in-Some : goal.invariant_of-self-in-Some
invariant_of-self-in-Some g c =
    let k = c.self.invariant.0 in
    let d = c.self.inside in
    let f : Fetches g.P.Tagged.is_wanted d.end c.in-Some.field-0.head c.in-Some.field-0.cargo c.fetch.new.self = c.in-Some.ensures in
    let pushed = rw c.unwrap.ensures at c.push.ensures.items in
    let kept = desk_fetched g.P.Tagged.is_wanted g.T.Turn.lane_of g.T.Turn.count_of d.end d.first d.homes.items d.waiting.items d.halted k.0 k.1 c.in-Some.field-0.head c.in-Some.field-0.cargo c.fetch.new.self f in
    ((k.0 ++ f.entry ∷ [], subst (λ xs. IsDesk g.P.Tagged.is_wanted g.T.Turn.lane_of g.T.Turn.count_of c.fetch.new.self d.first d.homes.items xs d.halted (k.0 ++ f.entry ∷ [])) (sym pushed) kept), (let big = c.self.invariant.1 in let more = c.push.ensures.capacity in let same = f.same.1 in omega (arith, big, more, same)))

pub returns-in-Some : goal.returns-in-Some
returns-in-Some g c =
    let d = c.self.inside in
    let f : Fetches g.P.Tagged.is_wanted d.end c.in-Some.field-0.head c.in-Some.field-0.cargo c.fetch.new.self = c.in-Some.ensures in
    let pushed = rw c.unwrap.ensures at c.push.ensures.items in
    let old : DeskData g.row.P.Denot g.row.T.Denot = record { lists = d.end; first = d.first; homes = d.homes.items; waiting = d.waiting.items; halted = d.halted } in
    let new : DeskData g.row.P.Denot g.row.T.Denot = record { lists = c.fetch.new.self; first = d.first; homes = d.homes.items; waiting = c.push.new.self.items; halted = d.halted } in
    subst (λ o. HasFetched g.P.Tagged.is_wanted o new) c.self.view_is (has_fetched g.P.Tagged.is_wanted old new c.in-Some.field-0.head c.in-Some.field-0.cargo f pushed refl refl refl)
