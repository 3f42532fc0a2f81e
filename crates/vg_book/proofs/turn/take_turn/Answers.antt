use Rattle.std.proofs.Common.{refl, ◌∙◌, subst, MatchBool}
use Rattle.vg_book.specs.Turns.{Watches, HasTurn}
use Rattle.vg_book.proofs.TurnLemmas.{may_watch, clear_watch, watch_none, watch_more, turn_watched}
use Rattle.vg_book.proofs.turn.take_turn.Goals as goal

pub loop-init : goal.loop-init
loop-init g c = (refl, watch_none g.M.Machine _)

pub try_turn-requires-clause-seat : goal.try_turn-requires-clause-seat
try_turn-requires-clause-seat g c = may_watch g.M.Machine c.args.seat.now.me c.loop.seat.me c.requires.seat c.loop.invariant.1

pub try_turn-requires-clause-clear : goal.try_turn-requires-clause-clear
try_turn-requires-clause-clear g c = clear_watch g.M.Machine c.args.seat.now.me c.loop.seat.me c.requires.clear c.loop.invariant.1

pub returns-then-try_turn-clause-taken : goal.returns-then-try_turn-clause-taken
returns-then-try_turn-clause-taken g c = turn_watched g.M.Machine c.args.seat.now.me c.loop.seat.me c.try_turn.new.seat.me c.loop.invariant.1 (subst (λ b. MatchBool b (HasTurn g.M.Machine c.loop.seat.me c.try_turn.new.seat.me) (Watches c.loop.seat.me c.try_turn.new.seat.me)) c.if-try_turn.true c.try_turn.ensures.taken)

pub loop-preserved : goal.loop-preserved
loop-preserved g c = (c.try_turn.ensures.id ∙ c.loop.invariant.0, watch_more g.M.Machine c.args.seat.now.me c.loop.seat.me c.try_turn.new.seat.me c.loop.invariant.1 (subst (λ b. MatchBool b (HasTurn g.M.Machine c.loop.seat.me c.try_turn.new.seat.me) (Watches c.loop.seat.me c.try_turn.new.seat.me)) c.if-try_turn.false c.try_turn.ensures.taken))
