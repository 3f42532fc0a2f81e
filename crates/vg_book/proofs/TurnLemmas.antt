-- Seats that take the turn.
use Rattle.std.proofs.Common.{◌≡◌, inl, inr, ℕ, ◌-◌, ◌^◌, ◌<◌, true, List, [], ◌∷◌, length, refl, ap, sym, subst, ◌∙◌, Some}
use mathlib.Core.List.{IsPrefix}
use mathlib.Core.Option.{none}
use Rattle.atomic_table.specs.Table.{Me, Allows, step}
use Rattle.vg_history.specs.declared.machine.Machine.{Ghosts}
use Rattle.vg_history.specs.declared.entry.Entry.{Entry}
use Rattle.vg_history.specs.Lists.{Has}
use Rattle.vg_history.proofs.ListLemmas.{prefix_trans}
use Rattle.vg_book.specs.declared.board.Core.{Core}
use Rattle.vg_book.specs.declared.board.Counted.{Counted}
use Rattle.vg_book.specs.declared.board.Slot.{Slot}
use Rattle.vg_book.specs.declared.board.Slot.TheVariants.{Held}
use Rattle.vg_book.specs.declared.board.View.{View}
use Rattle.vg_book.specs.Views.{taking, looked, giving}
use Rattle.vg_book.specs.Kept.{Kept, IsCoreOf, Shown, lane_jobs}
use Rattle.vg_book.specs.Turns.{MayTake, Watches, HasTurn, IsReady, IsReadyTo}
use Rattle.vg_book.specs.Tells.{HasTaken, Gives}
use Rattle.vg_book.proofs.Turns.{gives_turn}

module _ {M S A R Q P H W : Type 0} (g : Ghosts M S A R Q P H W) where
  abbrev E : Type 0
  E = Entry M S A R Q P H W

  abbrev V : Type 0
  V = View M S A R Q P H W

  abbrev Sat : Type 0
  Sat = Me (Slot M S A R Q P H W) V

  -- a seat that has seen more may take the turn as before
  pub may_watch : (m n : Sat) → MayTake m → Watches m n → MayTake n
  may_watch m n may (inl e) = subst (λ (x : Sat). MayTake x) (sym e) may
  may_watch m n may (inr t) = subst (λ (x : Sat). MayTake x) (sym t.1) may

  pub watch_none : (m : Sat) → Watches m m
  watch_none m = inl refl

  pub watch_more : (m n o : Sat) → Watches m n → Watches n o → Watches m o
  watch_more m n o (inl e) w = subst (λ (x : Sat). Watches x o) e w
  watch_more m n o (inr t) (inl e) = inr (t.0, e ∙ t.1, t.2, t.3)
  watch_more m n o (inr t) (inr u) = inr (u.0, u.1 ∙ ap (λ (x : Sat). (looked x.0 u.0, x.1)) t.1, prefix_trans m.0.seen t.0 u.0 t.2 (subst (λ (x : Sat). IsPrefix x.0.seen u.0) t.1 u.2), prefix_trans m.0.heard t.0 u.0 t.3 (subst (λ (x : Sat). IsPrefix x.0.seen u.0) t.1 u.2))

  shown_earlier : (v : V) (l log : List E) → IsPrefix v.seen l → IsPrefix v.heard l → Shown g (looked v l) log → Shown g v log
  shown_earlier v l log a b s = record {
    seen = prefix_trans v.seen l log a s.seen;
    heard = prefix_trans v.heard l log b s.seen;
    told = s.told;
    clients = s.clients;
    accounts = s.accounts;
    lanes = s.lanes;
    passes = s.passes;
    dones = s.dones;
    outs = s.outs;
  }

  -- a seat that has seen more has as much out as before
  pub clear_watch : (m n : Sat) → m.0.outs ≡ [] → Watches m n → n.0.outs ≡ []
  clear_watch m n clear (inl e) = ap (λ (x : Sat). x.0.outs) e ∙ clear
  clear_watch m n clear (inr t) = ap (λ (x : Sat). x.0.outs) t.1 ∙ clear

  pub turn_watched : (m n o : Sat) → Watches m n → HasTurn g n o → HasTurn g m o
  turn_watched m n o (inl e) t = subst (λ (x : Sat). HasTurn g x o) e t
  turn_watched m n o (inr w) t =
      let u : HasTurn g (looked m.0 w.0, m.1) o = subst (λ (x : Sat). HasTurn g x o) w.1 t in let k = u.taken in record {
        taken = record { log = k.log; core = k.core; after = k.after; is = k.is; shown = shown_earlier m.0 w.0 k.log w.2 w.3 k.shown; outs = k.outs };
        room = u.room;
      }

  pub ready_watched : (q : Q) (m n o : Sat) → Watches m n → IsReady g q n o → IsReady g q m o
  ready_watched q m n o (inl e) t = subst (λ (x : Sat). IsReady g q x o) e t
  ready_watched q m n o (inr w) t =
      let u : IsReady g q (looked m.0 w.0, m.1) o = subst (λ (x : Sat). IsReady g q x o) w.1 t in let k = u.turn.taken in record {
        turn = record {
          taken = record { log = k.log; core = k.core; after = k.after; is = k.is; shown = shown_earlier m.0 w.0 k.log w.2 w.3 k.shown; outs = k.outs };
          room = u.turn.room;
        };
        unblocked = u.unblocked;
      }

  pub ready_to_watched : (a : A) (m n o : Sat) → Watches m n → IsReadyTo g a n o → IsReadyTo g a m o
  ready_to_watched a m n o (inl e) t = subst (λ (x : Sat). IsReadyTo g a x o) e t
  ready_to_watched a m n o (inr w) t =
      let u : IsReadyTo g a (looked m.0 w.0, m.1) o = subst (λ (x : Sat). IsReadyTo g a x o) w.1 t in let k = u.turn.taken in record {
        turn = record {
          taken = record { log = k.log; core = k.core; after = k.after; is = k.is; shown = shown_earlier m.0 w.0 k.log w.2 w.3 k.shown; outs = k.outs };
          room = u.turn.room;
        };
        unblocked = u.unblocked;
      }

  -- the hand of a seat that took the turn
  pub hand_taken : (m n : Sat) (t : HasTaken g m n) → n.1 ≡ (0, Held t.core) ∷ []
  hand_taken m n t = ap (λ (x : Sat). x.1) t.after

  -- the turn was given back without an entry
  pub watched_given : (m n o : Sat) → MayTake m → m.0.outs ≡ [] → HasTaken g m n → o ≡ (giving n.0, []) → Watches m o
  watched_given m n o may clear t e = let v = m.0 in
      let back : giving (taking v t.log (g.lent t.core.machine)) ≡ looked v t.log = (λ i. let z : V = record v { seen = t.log; heard = []; holding = (sym may.3) i; outs = (sym clear) i } in z) in
      inr (t.log, e ∙ (ap (λ (x : Sat). (giving x.0, [])) t.after ∙ (λ i. (back i, (sym may.2) i))), t.shown.seen, t.shown.heard)

  -- what is true of a seat that took the turn, and of what it has in hand
  pub record MayGive (n : Sat) (c : Core M S A R Q P H W) : Type 0 where
    pub holding : n.0.holding ≡ true
    pub begun : (s : S) × (n.0.start ≡ Some s)
    pub is : IsCoreOf g n.0.start n.0.seen c
    pub all : g.lent c.machine ≡ n.0.outs
    pub clear : (l : Counted) → Has n.0.lanes l → lane_jobs g l.lane n.0.outs ≡ []

  pub may_give : (m n : Sat) → MayTake m → m.0.outs ≡ [] → (t : HasTaken g m n) → MayGive n t.core
  may_give m n may clear t = subst (λ (x : Sat). MayGive x t.core) (sym t.after)
      (record { holding = refl; begun = may.0; is = t.is; all = refl; clear = λ l h. t.outs l h ∙ ap (lane_jobs g l.lane) clear })

  pub with_room : (m n : Sat) (t : HasTaken g m n) → length t.core.history.entries < 2 ^ 31 - 1 → HasTurn g m n
  with_room m n t room = record { taken = t; room = subst (λ (l : List E). length l < 2 ^ 31 - 1) t.is.entries room }

  -- who took the turn may give it back as it was
  pub gives_of : (first : S) (slots id : ℕ) (m n o : Sat) → MayTake m → m.0.outs ≡ [] → HasTaken g m n → o ≡ n → Allows (Kept g first) slots id o 0 (λ _. 0) (λ _. Gives g (step slots 0 0 0 none) o 0)
  gives_of first slots id m n o may clear t e = let x = may_give m n may clear t in
      subst (λ (y : Sat). Allows (Kept g first) slots id y 0 (λ _. 0) (λ _. Gives g (step slots 0 0 0 none) y 0)) (sym e) (gives_turn g first slots id n t.core (hand_taken m n t) x.holding x.begun x.is x.all x.clear)

  pub missed : (m n o p : Sat) → MayTake m → m.0.outs ≡ [] → HasTaken g m n → o ≡ n → p ≡ (giving o.0, []) → Watches m p
  missed m n o p may clear t e f = watched_given m n p may clear t (f ∙ ap (λ (x : Sat). (giving x.0, [])) e)

  -- the turn was taken for what is blocked, and given back
  pub closed_again : (l m n o p : Sat) → MayTake l → l.0.outs ≡ [] → Watches l m → HasTaken g m n → o ≡ n → p ≡ (giving o.0, []) → Watches l p
  closed_again l m n o p may clear w t e f = watch_more l m p w (missed m n o p (may_watch l m may w) (clear_watch l m clear w) t e f)
