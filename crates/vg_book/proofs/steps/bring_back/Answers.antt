use Rattle.std.proofs.Common.{arith, ap, ◌∙◌}
use Rattle.vg_book.proofs.StepLemmas.{lane_may, back_hand, back_room, leaves_back, answers_of, answered_of}
use Rattle.vg_book.proofs.steps.bring_back.Goals as goal

pub take_turn_back-requires-clause-seat : goal.take_turn_back-requires-clause-seat
take_turn_back-requires-clause-seat g c = lane_may g.M.Machine c.args.seat.now.me _ _ _ c.requires.lane.1

pub end_in_hand-done-requires-clause-hand : goal.end_in_hand-done-requires-clause-hand
end_in_hand-done-requires-clause-hand g c = let u = c.requires.lane in
    back_hand g.M.Machine c.args.seat.now.me c.take_turn_back.new.seat.me c.args.lane c.args.order u.0 c.args.job u.1 c.take_turn_back.ensures.taken u.2 u.3 c.requires.tag

pub end_in_hand-done-requires-clause-asked : goal.end_in_hand-done-requires-clause-asked
end_in_hand-done-requires-clause-asked g c = let u = c.requires.lane in ap g.M.Machine.asked u.2 ∙ (g.met.M.Machine.work_asks u.0 ∙ u.3)

pub store-requires : goal.store-requires
store-requires g c = let u = c.requires.lane in let t = c.take_turn_back.ensures.taken in let m = c.args.seat.now.me in let n = c.take_turn_back.new.seat.me in
    let l = c.args.lane in let o = c.args.order in
    let k = c.end_in_hand-done.ensures.ends t.core (ap (λ x. x.1) t.after) in (
      c.end_in_hand-done.ensures.id ∙ (c.take_turn_back.ensures.id ∙ c.requires.table.0),
      omega (arith, c.requires.table.1),
      answers_of g.M.Machine g.met.M.Machine.requests_count _ _ _ m n c.end_in_hand-done.new.seat.me l o _ k.0 c.end_in_hand-done.result.0 c.end_in_hand-done.result.1
          u.1 t c.end_in_hand-done.ensures.view k.1 k.2.runs (leaves_back g.M.Machine m n l o u.0 k.0 c.end_in_hand-done.result.0 c.end_in_hand-done.result.1 u.1 t u.3 c.requires.tag k.2) c.requires.tag,
    )

pub returns : goal.returns
returns g c = let u = c.requires.lane in let t = c.take_turn_back.ensures.taken in let m = c.args.seat.now.me in let n = c.take_turn_back.new.seat.me in
    let l = c.args.lane in let o = c.args.order in
    let k = c.end_in_hand-done.ensures.ends t.core (ap (λ x. x.1) t.after) in record {
      id = c.store.ensures.0 ∙ (c.end_in_hand-done.ensures.id ∙ c.take_turn_back.ensures.id);
      runs = answered_of g.M.Machine m n c.end_in_hand-done.new.seat.me c.store.new.seat.me l o _ k.0 c.end_in_hand-done.result.0 c.end_in_hand-done.result.1
          u.1 t c.end_in_hand-done.ensures.view k.1 k.2.runs (back_room g.M.Machine m n o k.0 c.end_in_hand-done.result.0 c.end_in_hand-done.result.1 t k.2) c.store.ensures.2;
    }
