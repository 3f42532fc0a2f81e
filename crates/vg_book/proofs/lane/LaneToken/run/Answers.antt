use Rattle.std.proofs.Common.{ap, subst, sym, arith, ◌≡◌, ◌∙◌, ◌+◌, [], ◌∷◌, false}
use Rattle.vg_book.specs.Turns.{Sits, counted, order}
use Rattle.vg_book.proofs.LaneLemmas.{lane_joined, count_fits, runs_ok, done_ok, runs_told, lane_looked, right_sits, stays_told}
use Rattle.vg_book.proofs.lane.LaneToken.run.Goals as goal

pub answer-requires-clause-lane : goal.answer-requires-clause-lane
answer-requires-clause-lane g c = lane_joined g.M.Machine c.self.inside.seat.me c.into_parts-client.result.3.me c.join.new.seat.me (counted g.M.Machine c.self.inside.lane c.self.inside.count) (order g.M.Machine c.into_parts-client.result.0 c.into_parts-client.result.1 c.into_parts-client.result.2) c.self.invariant.1 c.join.ensures.both c.into_parts-client.ensures.ok.1

pub answer-requires-clause-tag : goal.answer-requires-clause-tag
answer-requires-clause-tag g c = subst (λ v. g.M.Machine.tagged v.order.request ≡ (c.self.inside.lane, c.self.inside.count + 1)) c.into_parts-client.ensures.value (subst (λ v. g.M.Machine.tagged c.args.pass.order.request ≡ (v.lane, v.count + 1)) (sym c.self.view_is) c.requires.tag)

pub overflow_add-self : goal.overflow_add-self
overflow_add-self g c = let s = lane_joined g.M.Machine c.self.inside.seat.me c.into_parts-client.result.3.me c.join.new.seat.me (counted g.M.Machine c.self.inside.lane c.self.inside.count) (order g.M.Machine c.into_parts-client.result.0 c.into_parts-client.result.1 c.into_parts-client.result.2) c.self.invariant.1 c.join.ensures.both c.into_parts-client.ensures.ok.1 in omega (arith, count_fits g.M.Machine _ _ _ _ _ _ s c.in-Ok.ensures.ok)

pub of-done-requires : goal.of-done-requires
of-done-requires g c = let s = lane_joined g.M.Machine c.self.inside.seat.me c.into_parts-client.result.3.me c.join.new.seat.me (counted g.M.Machine c.self.inside.lane c.self.inside.count) (order g.M.Machine c.into_parts-client.result.0 c.into_parts-client.result.1 c.into_parts-client.result.2) c.self.invariant.1 c.join.ensures.both c.into_parts-client.ensures.ok.1 in (
  c.hand-seat.ensures.id.1 ∙ (c.answer.ensures.id ∙ (c.join.ensures.id ∙ c.self.invariant.0)),
  done_ok g.M.Machine g.met.M.Machine.reads c.join.new.seat.me c.answer.new.seat.me c.hand-seat.result.me (counted g.M.Machine c.self.inside.lane c.self.inside.count) c.into_parts-client.result.0 c.into_parts-client.result.1 c.into_parts-client.result.2 c.of-asked.result.value c.in-Ok.place c.tag-tag.result.0 c.tag-tag.result.1 c.in-Ok.reply
      s c.in-Ok.ensures.ok c.hand-seat.ensures.right c.of-asked.ensures (sym c.tag-tag.ensures),
)

pub of-requires-clause-seat : goal.of-requires-clause-seat
of-requires-clause-seat g c = let s = lane_joined g.M.Machine c.self.inside.seat.me c.into_parts-client.result.3.me c.join.new.seat.me (counted g.M.Machine c.self.inside.lane c.self.inside.count) (order g.M.Machine c.into_parts-client.result.0 c.into_parts-client.result.1 c.into_parts-client.result.2) c.self.invariant.1 c.join.ensures.both c.into_parts-client.ensures.ok.1 in let e = c.in-Err.ensures.err in (
  c.hand-seat-in-Err.ensures.id.1 ∙ (c.answer.ensures.id ∙ (c.join.ensures.id ∙ c.self.invariant.0)),
  subst (λ q. Sits c.hand-seat-in-Err.result.me [] [] (order g.M.Machine c.into_parts-client.result.0 c.into_parts-client.result.1 q ∷ []) [] false) (sym c.of-asked.ensures)
      (right_sits g.M.Machine c.answer.new.seat.me c.hand-seat-in-Err.result.me _ _ _ (lane_looked g.M.Machine c.join.new.seat.me c.answer.new.seat.me (counted g.M.Machine c.self.inside.lane c.self.inside.count) (order g.M.Machine c.into_parts-client.result.0 c.into_parts-client.result.1 c.into_parts-client.result.2) s e.1) c.hand-seat-in-Err.ensures.right),
)

pub invariant_of-self : goal.invariant_of-self
invariant_of-self g c = let s = lane_joined g.M.Machine c.self.inside.seat.me c.into_parts-client.result.3.me c.join.new.seat.me (counted g.M.Machine c.self.inside.lane c.self.inside.count) (order g.M.Machine c.into_parts-client.result.0 c.into_parts-client.result.1 c.into_parts-client.result.2) c.self.invariant.1 c.join.ensures.both c.into_parts-client.ensures.ok.1 in
    (c.hand-seat.ensures.id.0 ∙ (c.answer.ensures.id ∙ (c.join.ensures.id ∙ c.self.invariant.0)), runs_ok g.M.Machine c.join.new.seat.me c.answer.new.seat.me c.hand-seat.new.seat.me (counted g.M.Machine c.self.inside.lane c.self.inside.count) (order g.M.Machine c.into_parts-client.result.0 c.into_parts-client.result.1 c.into_parts-client.result.2) c.in-Ok.place c.in-Ok.reply s c.in-Ok.ensures.ok c.hand-seat.ensures.left)

pub returns-in-Ok : goal.returns-in-Ok
returns-in-Ok g c = let s = lane_joined g.M.Machine c.self.inside.seat.me c.into_parts-client.result.3.me c.join.new.seat.me (counted g.M.Machine c.self.inside.lane c.self.inside.count) (order g.M.Machine c.into_parts-client.result.0 c.into_parts-client.result.1 c.into_parts-client.result.2) c.self.invariant.1 c.join.ensures.both c.into_parts-client.ensures.ok.1 in (
  rw (← c.self.view_is) (runs_told g.M.Machine c.self.inside.seat.me c.into_parts-client.result.3.me c.join.new.seat.me c.answer.new.seat.me c.hand-seat.new.seat.me c.hand-seat.result.me c.self.inside.lane c.self.inside.count c.args.pass c.into_parts-client.result.0 c.into_parts-client.result.1 c.into_parts-client.result.2 c.of-asked.result.value c.in-Ok.place c.in-Ok.reply
      c.join.ensures.both c.into_parts-client.ensures.value s c.in-Ok.ensures.ok c.hand-seat.ensures.left c.hand-seat.ensures.right c.of-asked.ensures c.of-done.result c.of-done.ensures),
  sym (ap (λ f. f.reply) c.of-done.ensures),
)

pub returns-in-Err : goal.returns-in-Err
returns-in-Err g c = let s = lane_joined g.M.Machine c.self.inside.seat.me c.into_parts-client.result.3.me c.join.new.seat.me (counted g.M.Machine c.self.inside.lane c.self.inside.count) (order g.M.Machine c.into_parts-client.result.0 c.into_parts-client.result.1 c.into_parts-client.result.2) c.self.invariant.1 c.join.ensures.both c.into_parts-client.ensures.ok.1 in let e = c.in-Err.ensures.err in
    rw (← c.self.view_is) (stays_told g.M.Machine c.self.inside.seat.me c.into_parts-client.result.3.me c.join.new.seat.me c.answer.new.seat.me c.hand-seat-in-Err.new.seat.me c.hand-seat-in-Err.result.me c.self.inside.lane c.self.inside.count c.args.pass c.into_parts-client.result.0 c.into_parts-client.result.1 c.into_parts-client.result.2 c.of-asked.result.value
    c.join.ensures.both c.into_parts-client.ensures.value s e.1 c.hand-seat-in-Err.ensures.left c.hand-seat-in-Err.ensures.right c.of-asked.ensures c.of.result c.of.ensures)
