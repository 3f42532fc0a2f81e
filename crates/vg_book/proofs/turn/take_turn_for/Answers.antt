use Rattle.std.proofs.Common.{arith, refl, sym, subst, ◌∙◌}
use Rattle.vg_book.specs.Turns.{IsReady}
use Rattle.vg_book.proofs.StepLemmas.{turn_hand}
use Rattle.vg_book.proofs.TurnLemmas.{may_watch, clear_watch, watch_none, ready_watched, gives_of, closed_again}
use Rattle.vg_book.proofs.turn.take_turn_for.Goals as goal

pub loop-init : goal.loop-init
loop-init g c = (refl, watch_none g.M.Machine _)

pub take_turn-requires-clause-seat : goal.take_turn-requires-clause-seat
take_turn-requires-clause-seat g c = may_watch g.M.Machine c.args.seat.now.me c.loop.seat.me c.requires.seat c.loop.invariant.1

pub take_turn-requires-clause-clear : goal.take_turn-requires-clause-clear
take_turn-requires-clause-clear g c = clear_watch g.M.Machine c.args.seat.now.me c.loop.seat.me c.requires.clear c.loop.invariant.1

pub is_open-requires-clause-hand : goal.is_open-requires-clause-hand
is_open-requires-clause-hand g c = let t = c.take_turn.ensures.taken in (t.taken.core, turn_hand g.M.Machine c.loop.seat.me c.take_turn.new.seat.me t)

pub returns-then-is_open-clause-ready : goal.returns-then-is_open-clause-ready
returns-then-is_open-clause-ready g c = let t = c.take_turn.ensures.taken in
    subst (λ m. IsReady g.M.Machine c.args.request.now c.args.seat.now.me m) (sym c.is_open.ensures.same)
    (ready_watched g.M.Machine c.args.request.now c.args.seat.now.me c.loop.seat.me c.take_turn.new.seat.me c.loop.invariant.1
    (record { turn = t; unblocked = c.is_open.ensures.unblocked t.taken.core (turn_hand g.M.Machine c.loop.seat.me c.take_turn.new.seat.me t) c.if-is_open.true }))

pub store-requires : goal.store-requires
store-requires g c = let t = c.take_turn.ensures.taken in let table = c.requires.table in (
  c.is_open.ensures.id ∙ (c.take_turn.ensures.id ∙ (c.loop.invariant.0 ∙ table.0)),
  omega (arith, table.1),
  gives_of g.M.Machine _ _ _ c.loop.seat.me c.take_turn.new.seat.me c.is_open.new.seat.me (may_watch g.M.Machine c.args.seat.now.me c.loop.seat.me c.requires.seat c.loop.invariant.1) (clear_watch g.M.Machine c.args.seat.now.me c.loop.seat.me c.requires.clear c.loop.invariant.1) t.taken c.is_open.ensures.same,
)

pub loop-preserved : goal.loop-preserved
loop-preserved g c = let t = c.take_turn.ensures.taken in (
  c.store.ensures.0 ∙ (c.is_open.ensures.id ∙ (c.take_turn.ensures.id ∙ c.loop.invariant.0)),
  closed_again g.M.Machine c.args.seat.now.me c.loop.seat.me c.take_turn.new.seat.me c.is_open.new.seat.me c.store.new.seat.me c.requires.seat c.requires.clear c.loop.invariant.1 t.taken c.is_open.ensures.same c.store.ensures.2,
)
