use Rattle.std.proofs.Common.{arith, refl, ◌∙◌}
use Rattle.vg_book.proofs.StepLemmas.{client_may, turn_hand, turn_room, enters_of, entered_of, back_taken, looked_of}
use Rattle.vg_book.proofs.TurnLemmas.{gives_of}
use Rattle.vg_book.proofs.steps.enter.Goals as goal

pub take_turn_to-requires-clause-seat : goal.take_turn_to-requires-clause-seat
take_turn_to-requires-clause-seat g c = client_may g.M.Machine c.args.seat.now.me _ c.requires.client.sits

pub take_turn_to-requires-clause-clear : goal.take_turn_to-requires-clause-clear
take_turn_to-requires-clause-clear g c = c.requires.client.sits.clear

pub act_in_hand-requires-clause-hand : goal.act_in_hand-requires-clause-hand
act_in_hand-requires-clause-hand g c = let t = c.take_turn_to.ensures.ready in (t.turn.taken.core, turn_hand g.M.Machine c.args.seat.now.me c.take_turn_to.new.seat.me t.turn, turn_room g.M.Machine c.args.seat.now.me c.take_turn_to.new.seat.me t.turn, t.unblocked)

pub store-requires : goal.store-requires
store-requires g c = let t = c.take_turn_to.ensures.ready in let m = c.args.seat.now.me in let n = c.take_turn_to.new.seat.me in
    let k = c.in-Ok.ensures.ok t.turn.taken.core (turn_hand g.M.Machine m n t.turn) in (
      c.act_in_hand.ensures.id ∙ (c.take_turn_to.ensures.id ∙ c.requires.table.0),
      omega (arith, c.requires.table.1),
      enters_of g.M.Machine g.met.M.Machine.keeps_holds g.met.M.Machine.acts_count _ _ _ m n c.act_in_hand.new.seat.me c.args.caller.number c.args.caller.used c.args.holds.now c.args.act k.0 c.act_in_hand.new.holds c.in-Ok.done.0 c.in-Ok.done.1
          c.requires.client t.turn.taken c.act_in_hand.ensures.view k.1 k.2 c.requires.gives,
    )

pub store-requires-in-Err : goal.store-requires-in-Err
store-requires-in-Err g c = let t = c.take_turn_to.ensures.ready in let m = c.args.seat.now.me in let n = c.take_turn_to.new.seat.me in
    let k = c.in-Err.ensures.err t.turn.taken.core (turn_hand g.M.Machine m n t.turn) in (
      c.act_in_hand.ensures.id ∙ (c.take_turn_to.ensures.id ∙ c.requires.table.0),
      omega (arith, c.requires.table.1),
      gives_of g.M.Machine _ _ _ m c.act_in_hand.new.seat.me c.act_in_hand.new.seat.me (client_may g.M.Machine m _ c.requires.client.sits) c.requires.client.sits.clear (back_taken g.M.Machine m n c.act_in_hand.new.seat.me t.turn.taken k.0 c.act_in_hand.ensures.view k.1 k.2) refl,
    )

pub returns-in-Ok : goal.returns-in-Ok
returns-in-Ok g c = let t = c.take_turn_to.ensures.ready in let m = c.args.seat.now.me in let n = c.take_turn_to.new.seat.me in
    let k = c.in-Ok.ensures.ok t.turn.taken.core (turn_hand g.M.Machine m n t.turn) in record {
      id = c.store.ensures.0 ∙ (c.act_in_hand.ensures.id ∙ c.take_turn_to.ensures.id);
      ok = entered_of g.M.Machine m n c.act_in_hand.new.seat.me c.store.new.seat.me c.args.caller.number c.args.caller.used c.args.holds.now c.args.act k.0 c.act_in_hand.new.holds c.in-Ok.done.0 c.in-Ok.done.1
          c.requires.client t.turn.taken c.act_in_hand.ensures.view k.1 k.2 c.store.ensures.2;
      err = tt;
    }

pub returns-in-Err : goal.returns-in-Err
returns-in-Err g c = let t = c.take_turn_to.ensures.ready in let m = c.args.seat.now.me in let n = c.take_turn_to.new.seat.me in
    let k = c.in-Err.ensures.err t.turn.taken.core (turn_hand g.M.Machine m n t.turn) in record {
      id = c.store-in-Err.ensures.0 ∙ (c.act_in_hand.ensures.id ∙ c.take_turn_to.ensures.id);
      ok = tt;
      err = (looked_of g.M.Machine m c.act_in_hand.new.seat.me c.store-in-Err.new.seat.me (client_may g.M.Machine m _ c.requires.client.sits) c.requires.client.sits.clear (back_taken g.M.Machine m n c.act_in_hand.new.seat.me t.turn.taken k.0 c.act_in_hand.ensures.view k.1 k.2) c.store-in-Err.ensures.2, k.3);
    }
