use Rattle.std.proofs.Common.{arith, sym, subst, ◌∙◌, inl}
use Rattle.vg_book.specs.Turns.{HasTurn}
use Rattle.vg_book.proofs.Turns.{takes_turn}
use Rattle.vg_book.proofs.TurnLemmas.{hand_taken, gives_of, missed, with_room}
use Rattle.vg_book.proofs.turn.try_turn.Goals as goal

pub compare_exchange-requires : goal.compare_exchange-requires
compare_exchange-requires g c = let t = c.requires.table in let may = c.requires.seat in (t.0, omega (arith, t.1), takes_turn g.M.Machine _ _ _ _ may.0 may.1 may.2)

pub has_room-requires-clause-hand : goal.has_room-requires-clause-hand
has_room-requires-clause-hand g c = let t = c.compare_exchange.ensures.2.0 c.if-compare_exchange-ne0.false in (t.core, hand_taken g.M.Machine c.args.seat.now.me c.compare_exchange.new.seat.me t)

pub returns-then-has_room-clause-taken : goal.returns-then-has_room-clause-taken
returns-then-has_room-clause-taken g c = let t = c.compare_exchange.ensures.2.0 c.if-compare_exchange-ne0.false in
    subst (λ m. HasTurn g.M.Machine c.args.seat.now.me m) (sym c.has_room.ensures.same)
    (with_room g.M.Machine c.args.seat.now.me c.compare_exchange.new.seat.me t (c.has_room.ensures.room t.core (hand_taken g.M.Machine c.args.seat.now.me c.compare_exchange.new.seat.me t) c.if-has_room.true))

pub store-requires : goal.store-requires
store-requires g c = let t = c.compare_exchange.ensures.2.0 c.if-compare_exchange-ne0.false in let table = c.requires.table in (
  c.has_room.ensures.id ∙ (c.compare_exchange.ensures.0 ∙ table.0),
  omega (arith, table.1),
  gives_of g.M.Machine _ _ _ c.args.seat.now.me c.compare_exchange.new.seat.me c.has_room.new.seat.me c.requires.seat c.requires.clear t c.has_room.ensures.same,
)

pub returns-clause-taken : goal.returns-clause-taken
returns-clause-taken g c = missed g.M.Machine c.args.seat.now.me c.compare_exchange.new.seat.me c.has_room.new.seat.me c.store.new.seat.me c.requires.seat c.requires.clear (c.compare_exchange.ensures.2.0 c.if-compare_exchange-ne0.false) c.has_room.ensures.same c.store.ensures.2

pub returns-then-compare_exchange-ne0-clause-taken : goal.returns-then-compare_exchange-ne0-clause-taken
returns-then-compare_exchange-ne0-clause-taken g c = inl (c.compare_exchange.ensures.2.1 c.if-compare_exchange-ne0.true)
