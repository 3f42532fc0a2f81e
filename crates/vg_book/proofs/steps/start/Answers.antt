use Rattle.std.proofs.Common.{arith, refl, ◌∙◌}
use Rattle.vg_book.proofs.StepLemmas.{lane_may, turn_hand, turn_room, lane_clear, leaves_whole, answers_of, answered_of, lends_of, begun_of, back_taken, looked_of}
use Rattle.vg_book.proofs.HandLemmas.{whole_of, lent_of}
use Rattle.vg_book.proofs.TurnLemmas.{gives_of}
use Rattle.vg_book.proofs.steps.start.Goals as goal

pub take_turn_for-requires-clause-seat : goal.take_turn_for-requires-clause-seat
take_turn_for-requires-clause-seat g c = lane_may g.M.Machine c.args.seat.now.me _ _ _ c.requires.lane

pub take_turn_for-requires-clause-clear : goal.take_turn_for-requires-clause-clear
take_turn_for-requires-clause-clear g c = c.requires.lane.clear

pub begin_in_hand-requires-clause-hand : goal.begin_in_hand-requires-clause-hand
begin_in_hand-requires-clause-hand g c = let t = c.take_turn_for.ensures.ready in let m = c.args.seat.now.me in let n = c.take_turn_for.new.seat.me in
    (t.turn.taken.core, turn_hand g.M.Machine m n t.turn, turn_room g.M.Machine m n t.turn, t.unblocked, lane_clear g.M.Machine m n c.args.lane c.args.order c.requires.lane t.turn.taken c.requires.tag)

pub store-requires : goal.store-requires
store-requires g c = let t = c.take_turn_for.ensures.ready in let m = c.args.seat.now.me in let n = c.take_turn_for.new.seat.me in
    let l = c.args.lane in let o = c.args.order in
    let k = whole_of _ _ _ c.in-Ok-Whole.field-0-is c.in-Ok-Whole.ensures.whole t.turn.taken.core (turn_hand g.M.Machine m n t.turn) in (
      c.begin_in_hand.ensures.id ∙ (c.take_turn_for.ensures.id ∙ c.requires.table.0),
      omega (arith, c.requires.table.1),
      answers_of g.M.Machine g.met.M.Machine.requests_count _ _ _ m n c.begin_in_hand.new.seat.me l o _ k.0 c.in-Ok-Whole.done.0 c.in-Ok-Whole.done.1
          c.requires.lane t.turn.taken c.begin_in_hand.ensures.view k.1 k.2.runs (leaves_whole g.M.Machine m n l o k.0 c.in-Ok-Whole.done.0 c.in-Ok-Whole.done.1 c.requires.lane t.turn.taken k.2) c.requires.tag,
    )

pub store-requires-in-Ok-Lent : goal.store-requires-in-Ok-Lent
store-requires-in-Ok-Lent g c = let t = c.take_turn_for.ensures.ready in let m = c.args.seat.now.me in let n = c.take_turn_for.new.seat.me in
    let l = c.args.lane in let o = c.args.order in
    let u = lent_of _ _ _ c.in-Ok-Lent.field-0-is c.in-Ok-Lent.ensures.lent in let k = u.1 t.turn.taken.core (turn_hand g.M.Machine m n t.turn) in (
      c.begin_in_hand.ensures.id ∙ (c.take_turn_for.ensures.id ∙ c.requires.table.0),
      omega (arith, c.requires.table.1),
      lends_of g.M.Machine _ _ _ m n c.begin_in_hand.new.seat.me l o k.0 c.in-Ok-Lent.lent.0 c.requires.lane t.turn.taken c.begin_in_hand.ensures.view k.1 k.2 c.requires.tag,
    )

pub store-requires-in-Err : goal.store-requires-in-Err
store-requires-in-Err g c = let t = c.take_turn_for.ensures.ready in let m = c.args.seat.now.me in let n = c.take_turn_for.new.seat.me in
    let k = c.in-Err.ensures.err.1 t.turn.taken.core (turn_hand g.M.Machine m n t.turn) in (
      c.begin_in_hand.ensures.id ∙ (c.take_turn_for.ensures.id ∙ c.requires.table.0),
      omega (arith, c.requires.table.1),
      gives_of g.M.Machine _ _ _ m c.begin_in_hand.new.seat.me c.begin_in_hand.new.seat.me (lane_may g.M.Machine m _ _ _ c.requires.lane) c.requires.lane.clear (back_taken g.M.Machine m n c.begin_in_hand.new.seat.me t.turn.taken k.0 c.begin_in_hand.ensures.view k.1 k.2) refl,
    )

pub returns-in-Ok-Whole : goal.returns-in-Ok-Whole
returns-in-Ok-Whole g c = let t = c.take_turn_for.ensures.ready in let m = c.args.seat.now.me in let n = c.take_turn_for.new.seat.me in
    let l = c.args.lane in let o = c.args.order in
    let k = whole_of _ _ _ c.in-Ok-Whole.field-0-is c.in-Ok-Whole.ensures.whole t.turn.taken.core (turn_hand g.M.Machine m n t.turn) in record {
      id = c.store.ensures.0 ∙ (c.begin_in_hand.ensures.id ∙ c.take_turn_for.ensures.id);
      whole = answered_of g.M.Machine m n c.begin_in_hand.new.seat.me c.store.new.seat.me l o _ k.0 c.in-Ok-Whole.done.0 c.in-Ok-Whole.done.1
          c.requires.lane t.turn.taken c.begin_in_hand.ensures.view k.1 k.2.runs t.turn.room c.store.ensures.2;
      lent = tt;
      err = tt;
    }

pub returns-in-Ok-Lent : goal.returns-in-Ok-Lent
returns-in-Ok-Lent g c = let t = c.take_turn_for.ensures.ready in let m = c.args.seat.now.me in let n = c.take_turn_for.new.seat.me in
    let l = c.args.lane in let o = c.args.order in
    let u = lent_of _ _ _ c.in-Ok-Lent.field-0-is c.in-Ok-Lent.ensures.lent in let k = u.1 t.turn.taken.core (turn_hand g.M.Machine m n t.turn) in record {
      id = c.store-in-Ok-Lent.ensures.0 ∙ (c.begin_in_hand.ensures.id ∙ c.take_turn_for.ensures.id);
      whole = tt;
      lent = (u.0, k.2.asked, begun_of g.M.Machine m n c.begin_in_hand.new.seat.me c.store-in-Ok-Lent.new.seat.me l o k.0 c.in-Ok-Lent.lent.0 c.requires.lane t.turn.taken c.begin_in_hand.ensures.view k.1 k.2 c.store-in-Ok-Lent.ensures.2);
      err = tt;
    }

pub returns-in-Err : goal.returns-in-Err
returns-in-Err g c = let t = c.take_turn_for.ensures.ready in let m = c.args.seat.now.me in let n = c.take_turn_for.new.seat.me in
    let k = c.in-Err.ensures.err.1 t.turn.taken.core (turn_hand g.M.Machine m n t.turn) in record {
      id = c.store-in-Err.ensures.0 ∙ (c.begin_in_hand.ensures.id ∙ c.take_turn_for.ensures.id);
      whole = tt;
      lent = tt;
      err = (
        c.in-Err.ensures.err.0,
        looked_of g.M.Machine m c.begin_in_hand.new.seat.me c.store-in-Err.new.seat.me (lane_may g.M.Machine m _ _ _ c.requires.lane) c.requires.lane.clear (back_taken g.M.Machine m n c.begin_in_hand.new.seat.me t.turn.taken k.0 c.begin_in_hand.ensures.view k.1 k.2) c.store-in-Err.ensures.2,
      );
    }
