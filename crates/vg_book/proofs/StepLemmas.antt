-- Acts and commands under the turn, run as a whole or lent and brought back.
use Rattle.std.proofs.Common.{◌≡◌, ◌≢◌, ◌⊎◌, inl, inr, ℕ, ◌+◌, ◌-◌, ◌^◌, ◌<◌, Bool, true, false, List, [], ◌∷◌, ◌++◌, map, length, refl, ap, sym, subst, ◌∙◌, arith, Option}
use mathlib.Core.Option.{none}
use Rattle.atomic_table.specs.Table.{Me, Allows, step}
use Rattle.vg_history.specs.declared.machine.Machine.{Ghosts}
use Rattle.vg_history.specs.declared.entry.Entry.{Entry}
use Rattle.vg_history.specs.Lists.{Has}
use Rattle.vg_book.specs.declared.board.Core.{Core}
use Rattle.vg_book.specs.declared.board.Slot.{Slot}
use Rattle.vg_book.specs.declared.board.Slot.TheVariants.{Held}
use Rattle.vg_book.specs.declared.board.View.{View}
use Rattle.vg_book.specs.Views.{taking, looked, giving, lending}
use Rattle.vg_book.specs.Kept.{Kept, IsCoreOf, Shown, lane_jobs}
use Rattle.vg_book.specs.Turns.{MayTake, HasTurn}
use Rattle.vg_book.specs.Tells.{HasTaken}
use Rattle.vg_history.specs.declared.entry.Entry.TheVariants.{Act, Command}
use Rattle.vg_history.specs.Growth.{Grown}
use Rattle.vg_history.specs.Jobs.{lane_by, but_lane}
use Rattle.vg_history.proofs.ListLemmas.{prefix_trans}
use Rattle.vg_history.proofs.HistoryLemmas.{replay_append}
use Rattle.vg_history.proofs.JobLemmas.{has_of_lane, of_lane_same, none_left, others_left, lane_and_left}
use Rattle.vg_book.specs.declared.board.Order.{Order}
use Rattle.vg_book.specs.declared.board.Account.{Account}
use Rattle.vg_book.specs.declared.board.Counted.{Counted}
use Rattle.vg_book.specs.Views.{wrote, ran, entered, counted_up, finished}
use Rattle.vg_book.specs.HandsWithin.{IsSameCore, IsLaneClear, ActsOn, RunsOn, RunsWhole, Lends, EndsOn}
use Rattle.vg_book.specs.Tells as tells
use Rattle.vg_book.specs.Turns.{Sits, SitsOut, IsClientSeat, EntersAct, RunsOrder, HasBegun, own}
use Rattle.vg_book.proofs.Updates.{last_same}
use Rattle.vg_book.proofs.Turns.{enters, IsNext}
use Rattle.vg_book.proofs.Answering.{answers}
use Rattle.vg_book.proofs.Lending.{lends_turn}

module _ {M S A R Q P H W : Type 0} (g : Ghosts M S A R Q P H W) where
  abbrev E : Type 0
  E = Entry M S A R Q P H W

  abbrev V : Type 0
  V = View M S A R Q P H W

  abbrev Acc : Type 0
  Acc = Account M S A R Q P H W

  abbrev Ord : Type 0
  Ord = Order M S A R Q P H W

  abbrev C : Type 0
  C = Core M S A R Q P H W

  abbrev Sl : Type 0
  Sl = Slot M S A R Q P H W

  abbrev Sat : Type 0
  Sat = Me Sl V

  abbrev Keeps : Type 0
  Keeps = (h : H) (a : A) (x : R) (q : Q) → g.ends_hold a ≡ false → g.allows h q ≡ true → g.allows (g.update h a x) q ≡ true

  abbrev CountsActs : Type 0
  CountsActs = (s : S) (c : ℕ) (a : A) → g.count (g.acted s c a) ≡ g.count s + 1

  abbrev CountsRequests : Type 0
  CountsRequests = (s : S) (q : Q) → g.count (g.requested s q) ≡ g.count s + 1

  abbrev lane_of : W → ℕ
  lane_of = lane_by g.asked g.tagged

  -- the lane of a job
  lane_is : (j : W) (x : Ord) (l : Counted) → g.asked j ≡ x.request → g.tagged x.request ≡ (l.lane, l.count + 1) → lane_of j ≡ l.lane
  lane_is j x l asked tag = ap (λ (q : Q). (g.tagged q).0) asked ∙ ap (λ (y : ℕ × ℕ). y.0) tag

  pub client_may : (m : Sat) (a : Acc) → Sits m (a ∷ []) [] [] [] false → MayTake m
  client_may m a s = (s.begun, inl (a, subst (λ (l : List Acc). Has l a) (sym s.accounts) (inl refl)), s.hand, s.idle)

  pub lane_may : (m : Sat) (l : Counted) (os : List Ord) (js : List W) → SitsOut m [] (l ∷ []) os [] false js → MayTake m
  lane_may m l os js s = (s.begun, inr (l, subst (λ (x : List Counted). Has x l) (sym s.lanes) (inl refl)), s.hand, s.idle)

  -- what the seat has in hand once it took the turn
  pub turn_hand : (m n : Sat) (t : HasTurn g m n) → n.1 ≡ (0, Held t.taken.core) ∷ []
  turn_hand m n t = ap (λ (x : Sat). x.1) t.taken.after

  pub turn_room : (m n : Sat) (t : HasTurn g m n) → g.count (g.state t.taken.core.machine) < 2 ^ 31 - 1
  turn_room m n t = omega (arith, t.taken.is.counted, t.room)

  -- the seat after the machine in hand has changed
  pub after_hand : (m n o : Sat) (t : HasTaken g m n) (d : C) → o.0 ≡ n.0 → o.1 ≡ (0, Held d) ∷ [] → o ≡ (taking m.0 t.log (g.lent t.core.machine), (0, Held d) ∷ [])
  after_hand m n o t d e f = λ i. ((e ∙ ap (λ (x : Sat). x.0) t.after) i, f i)

  next_act : CountsActs → (start : Option S) (log : List E) (c d : C) (a : Acc) (act : A) (held : H) (number : ℕ) (reply : R) → IsCoreOf g start log c → ActsOn g c a.number (a.used + 1) a.holds act d held number reply
      → (first : S) → IsNext g first start log (Act a.number (a.used + 1) act reply) d
  next_act counts start log c d a act held number reply core on first = record {
    entries = on.entries ∙ ap (λ (l : List E). l ++ Act a.number (a.used + 1) act reply ∷ []) core.entries;
    places = on.kept ∙ (core.places ∙ ap length (sym on.lent));
    reply = λ x e. on.reply_is ∙ ap (λ (s : S). g.replied s a.number act) (core.state x e);
    state = λ x e. on.state ∙ (ap (λ (s : S). g.acted s a.number act) (core.state x e) ∙ sym (replay_append g x log (Act a.number (a.used + 1) act reply ∷ [])));
    counted = ap g.count on.state ∙ (counts (g.state c.machine) a.number act ∙ ap (λ (n : ℕ). n + 1) core.counted);
  }

  -- the act as the account has its client, number and holds
  as_own : (m : Sat) (number used : ℕ) (holds : H) → IsClientSeat g m number used holds → (c d : C) (act : A) (held : H) (at : ℕ) (reply : R) → ActsOn g c number (used + 1) holds act d held at reply
      → ActsOn g c (own g number holds m).number ((own g number holds m).used + 1) (own g number holds m).holds act d held at reply
  as_own m number used holds is c d act held at reply on = subst (λ (x : ℕ × ℕ × H). ActsOn g c x.0 (x.1 + 1) x.2 act d held at reply) (λ i. ((sym is.number_is) i, (sym is.used_is) i, (sym is.holds_are) i)) on

  may_end : (act : A) (out : List Ord) → (g.ends_hold act ≡ true → out ≡ []) → (g.ends_hold act ≡ false) ⊎ (out ≡ [])
  may_end act out f = either_way (g.ends_hold act) refl
    where
      either_way : (b : Bool) → g.ends_hold act ≡ b → (g.ends_hold act ≡ false) ⊎ (out ≡ [])
      either_way true e = inr (f e)
      either_way false e = inl e

  pub enters_of : Keeps → CountsActs → (first : S) (slots id : ℕ) (m n o : Sat) (number used : ℕ) (holds : H) (act : A) (d : C) (held : H) (at : ℕ) (reply : R) → IsClientSeat g m number used holds → (t : HasTaken g m n) → o.0 ≡ n.0 → o.1 ≡ (0, Held d) ∷ []
      → ActsOn g t.core number (used + 1) holds act d held at reply → (g.ends_hold act ≡ true → (own g number holds m).out ≡ []) → Allows (Kept g first) slots id o 0 (λ _. 0) (λ _. tells.Enters g (step slots 0 0 0 none) o 0)
  enters_of laws counts first slots id m n o number used holds act d held at reply is t e f on may =
      let a = own g number holds m in let v = m.0 in let s = is.sits in let on' = as_own m number used holds is t.core d act held at reply on in
      subst (λ (x : Sat). Allows (Kept g first) slots id x 0 (λ _. 0) (λ _. tells.Enters g (step slots 0 0 0 none) x 0)) (sym (after_hand m n o t d e f))
      (enters g first laws slots id (taking v t.log (g.lent t.core.machine), (0, Held d) ∷ []) a act reply d refl refl s.begun s.accounts s.lanes s.passes s.dones s.root_is (may_end act a.out may) (next_act counts v.start t.log t.core d a act held at reply t.is on' first) on'.lent)

  pub entered_of : (m n o p : Sat) (number used : ℕ) (holds : H) (act : A) (d : C) (held : H) (at : ℕ) (reply : R) → IsClientSeat g m number used holds → (t : HasTaken g m n) → o.0 ≡ n.0 → o.1 ≡ (0, Held d) ∷ []
      → ActsOn g t.core number (used + 1) holds act d held at reply → tells.HasEntered g o p → EntersAct g (own g number holds m) act m p held at reply
  entered_of m n o p number used holds act d held at reply is t e f on has =
      let a = own g number holds m in let v = m.0 in let s = is.sits in let on' = as_own m number used holds is t.core d act held at reply on in
      let x : E = Act a.number (a.used + 1) act reply in
      let took : V = taking v t.log (g.lent t.core.machine) in
      let has' : tells.HasEntered g (took, (0, Held d) ∷ []) p = subst (λ (y : Sat). tells.HasEntered g y p) (after_hand m n o t d e f) has in
      let same : has'.0 ≡ x = last_same t.log has'.0 x (sym has'.1 ∙ (on'.entries ∙ ap (λ (l : List E). l ++ x ∷ []) t.is.entries)) in
      let view : wrote g.update took has'.0 ≡ record v { seen = t.log ++ x ∷ []; heard = []; accounts = entered g.update a x ∷ [] } =
      (λ i. let z : V = record v { seen = t.log ++ same i ∷ []; heard = []; holding = (sym s.idle) i; outs = (sym s.clear) i; accounts = map (λ (b : Acc). entered g.update b (same i)) (s.accounts i) } in z) in record {
        log = t.log;
        more = t.shown.seen;
        after = has'.2 ∙ ap (λ (y : V). (y, [])) view;
        shown = subst (λ (y : Sat). Shown g y.0 (t.log ++ x ∷ [])) (sym has'.2) (subst (λ (y : E). Shown g (wrote g.update took has'.0) (t.log ++ y ∷ [])) same has'.3);
        holds_are = on'.holds_are;
        number_is = on'.number_is ∙ ap (λ (l : List E). length l + 1) t.is.entries;
      }

  -- for want of memory the turn goes back with what was taken
  same_core : (start : Option S) (log : List E) (c d : C) → IsCoreOf g start log c → IsSameCore g c d → IsCoreOf g start log d
  same_core start log c d core same = record {
    entries = ap (λ (h : Grown M S A R Q P H W). h.entries) same.history ∙ core.entries;
    places = ap (λ (h : Grown M S A R Q P H W). h.kept) same.history ∙ (core.places ∙ ap length (sym same.lent));
    state = λ x e. same.state ∙ core.state x e;
    counted = ap g.count same.state ∙ core.counted;
  }

  pub back_taken : (m n o : Sat) (t : HasTaken g m n) (d : C) → o.0 ≡ n.0 → o.1 ≡ (0, Held d) ∷ [] → IsSameCore g t.core d → HasTaken g m o
  back_taken m n o t d e f same = record {
    log = t.log;
    core = d;
    after = after_hand m n o t d e f ∙ ap (λ (js : List W). (taking m.0 t.log js, (0, Held d) ∷ [])) (sym same.lent);
    is = same_core m.0.start t.log t.core d t.is same;
    shown = t.shown;
    outs = λ l h. ap (lane_jobs g l.lane) same.lent ∙ t.outs l h;
  }

  pub looked_of : (m n p : Sat) → MayTake m → m.0.outs ≡ [] → HasTaken g m n → p ≡ (giving n.0, []) → tells.HasLooked g m p
  looked_of m n p may clear t e = let v = m.0 in
      let back : giving (taking v t.log (g.lent t.core.machine)) ≡ looked v t.log = (λ i. let z : V = record v { seen = t.log; heard = []; holding = (sym may.3) i; outs = (sym clear) i } in z) in
      (t.log, e ∙ (ap (λ (x : Sat). (giving x.0, [])) t.after ∙ (λ i. (back i, (sym may.2) i))), t.shown)

  next_command : CountsRequests → (start : Option S) (log : List E) (c d : C) (o : Ord) (place : ℕ) (reply : P) → IsCoreOf g start log c → RunsOn g c o.client o.call o.request d place reply → d.history.kept ≡ length (g.lent d.machine)
      → (first : S) → IsNext g first start log (Command o.client o.call o.request reply) d
  next_command counts start log c d o place reply core on places first = record {
    entries = on.entries ∙ ap (λ (l : List E). l ++ Command o.client o.call o.request reply ∷ []) core.entries;
    places = places;
    reply = λ x e. on.reply_is ∙ ap (λ (s : S). g.answered s o.request) (core.state x e);
    state = λ x e. on.state ∙ (ap (λ (s : S). g.requested s o.request) (core.state x e) ∙ sym (replay_append g x log (Command o.client o.call o.request reply ∷ [])));
    counted = ap g.count on.state ∙ (counts (g.state c.machine) o.request ∙ ap (λ (n : ℕ). n + 1) core.counted);
  }

  -- the lane has nothing lent now, and the other lanes what they had; and a place is kept for each job that is lent
  pub record Leaves (l : ℕ) (c d : C) : Type 0 where
    pub none_own : lane_jobs g l (g.lent d.machine) ≡ []
    pub others : (k : ℕ) → k ≢ l → lane_jobs g k (g.lent d.machine) ≡ lane_jobs g k (g.lent c.machine)
    pub places : d.history.kept ≡ length (g.lent d.machine)

  -- what the seat's lane has lent is what the seat has out
  own_jobs : (m n : Sat) (l : Counted) (os : List Ord) (js : List W) → SitsOut m [] (l ∷ []) os [] false js → (t : HasTaken g m n) → lane_jobs g l.lane (g.lent t.core.machine) ≡ lane_jobs g l.lane js
  own_jobs m n l os js s t = t.outs l (subst (λ (x : List Counted). Has x l) (sym s.lanes) (inl refl)) ∙ ap (lane_jobs g l.lane) s.clear

  pub lane_clear : (m n : Sat) (l : Counted) (x : Ord) → Sits m [] (l ∷ []) (x ∷ []) [] false → (t : HasTaken g m n) → g.tagged x.request ≡ (l.lane, l.count + 1) → IsLaneClear g t.core x.request
  lane_clear m n l x s t tag = ap (λ (y : ℕ × ℕ). lane_jobs g y.0 (g.lent t.core.machine)) tag ∙ own_jobs m n l (x ∷ []) [] s t

  pub leaves_whole : (m n : Sat) (l : Counted) (x : Ord) (d : C) (place : ℕ) (reply : P) → Sits m [] (l ∷ []) (x ∷ []) [] false → (t : HasTaken g m n) → RunsWhole g t.core x.client x.call x.request d place reply → Leaves l.lane t.core d
  leaves_whole m n l x d place reply s t on = record {
    none_own = ap (lane_jobs g l.lane) on.lent ∙ own_jobs m n l (x ∷ []) [] s t;
    others = λ k ne. ap (lane_jobs g k) on.lent;
    places = on.kept ∙ (t.is.places ∙ ap length (sym on.lent));
  }

  pub leaves_back : (m n : Sat) (l : Counted) (x : Ord) (j : W) (d : C) (place : ℕ) (reply : P) → SitsOut m [] (l ∷ []) (x ∷ []) [] false (j ∷ []) → (t : HasTaken g m n) → g.asked j ≡ x.request → g.tagged x.request ≡ (l.lane, l.count + 1)
      → EndsOn g t.core x.client x.call x.request d place reply → Leaves l.lane t.core d
  leaves_back m n l x j d place reply s t asked tag on = let all : List W = g.lent t.core.machine in
      let left : g.lent d.machine ≡ but_lane lane_of l.lane all = on.lent ∙ ap (λ (y : ℕ × ℕ). but_lane lane_of y.0 all) tag in
      let one = ap length (own_jobs m n l (x ∷ []) (j ∷ []) s t ∙ of_lane_same lane_of l.lane j [] (lane_is j x l asked tag)) in
      let more = ap length left in record {
        none_own = ap (lane_jobs g l.lane) left ∙ none_left lane_of l.lane all;
        others = λ k ne. ap (lane_jobs g k) left ∙ others_left lane_of l.lane k all ne;
        places = omega (arith, on.kept, t.is.places, lane_and_left lane_of l.lane all, one, more);
      }

  pub answers_of : CountsRequests → (first : S) (slots id : ℕ) (m n o : Sat) (l : Counted) (x : Ord) (js : List W) (d : C) (place : ℕ) (reply : P) → SitsOut m [] (l ∷ []) (x ∷ []) [] false js → (t : HasTaken g m n) → o.0 ≡ n.0 → o.1 ≡ (0, Held d) ∷ []
      → RunsOn g t.core x.client x.call x.request d place reply → Leaves l.lane t.core d → g.tagged x.request ≡ (l.lane, l.count + 1) → Allows (Kept g first) slots id o 0 (λ _. 0) (λ _. tells.Answers g (step slots 0 0 0 none) o 0)
  answers_of counts first slots id m n o l x js d place reply s t e f on left tag = let v = m.0 in
      subst (λ (y : Sat). Allows (Kept g first) slots id y 0 (λ _. 0) (λ _. tells.Answers g (step slots 0 0 0 none) y 0)) (sym (after_hand m n o t d e f))
      (answers g first slots id (taking v t.log (g.lent t.core.machine), (0, Held d) ∷ []) l x reply d refl refl s.begun s.accounts s.lanes s.passes s.dones s.root_is tag (next_command counts v.start t.log t.core d x place reply t.is on left.places first) left.none_own left.others)

  pub answered_of : (m n o p : Sat) (l : Counted) (x : Ord) (js : List W) (d : C) (place : ℕ) (reply : P) → SitsOut m [] (l ∷ []) (x ∷ []) [] false js → (t : HasTaken g m n) → o.0 ≡ n.0 → o.1 ≡ (0, Held d) ∷ []
      → RunsOn g t.core x.client x.call x.request d place reply → length t.log < 2 ^ 31 - 1 → tells.HasAnswered g o p → RunsOrder g l x m p place reply
  answered_of m n o p l x js d place reply s t e f on room has = let v = m.0 in
      let y : E = Command x.client x.call x.request reply in
      let took : V = taking v t.log (g.lent t.core.machine) in
      let has' : tells.HasAnswered g (took, (0, Held d) ∷ []) p = subst (λ (z : Sat). tells.HasAnswered g z p) (after_hand m n o t d e f) has in
      let same : has'.0 ≡ y = last_same t.log has'.0 y (sym has'.1 ∙ (on.entries ∙ ap (λ (z : List E). z ++ y ∷ []) t.is.entries)) in
      let at : place ≡ length t.log = on.place_is ∙ ap length t.is.entries in
      let view : ran took has'.0 ≡ record v { seen = t.log ++ y ∷ []; heard = []; outs = []; lanes = counted_up l ∷ []; passes = []; dones = record { order = x; reply = reply; place = place } ∷ [] } =
      (λ i. let z : V = record v { seen = t.log ++ same i ∷ []; heard = []; holding = (sym s.idle) i; outs = []; lanes = map counted_up (s.lanes i); passes = []; dones = finished (s.passes i) (same i) ((sym at) i) } in z) in record {
        log = t.log;
        more = t.shown.seen;
        heard = t.shown.heard;
        after = has'.2 ∙ ap (λ (z : V). (z, [])) view;
        shown = subst (λ (z : Sat). Shown g z.0 (t.log ++ y ∷ [])) (sym has'.2) (subst (λ (z : E). Shown g (ran took has'.0) (t.log ++ z ∷ [])) same has'.3);
        place_is = at;
        room = room;
      }

  -- a job that was lent
  pub lends_of : (first : S) (slots id : ℕ) (m n o : Sat) (l : Counted) (x : Ord) (d : C) (j : W) → Sits m [] (l ∷ []) (x ∷ []) [] false → (t : HasTaken g m n) → o.0 ≡ n.0 → o.1 ≡ (0, Held d) ∷ []
      → Lends g t.core x.request d j → g.tagged x.request ≡ (l.lane, l.count + 1) → Allows (Kept g first) slots id o 0 (λ _. 0) (λ _. tells.Lends g (step slots 0 0 0 none) o 0)
  lends_of first slots id m n o l x d j s t e f on tag = let v = m.0 in let all : List W = g.lent t.core.machine in let more = ap length on.lent in
      subst (λ (y : Sat). Allows (Kept g first) slots id y 0 (λ _. 0) (λ _. tells.Lends g (step slots 0 0 0 none) y 0)) (sym (after_hand m n o t d e f))
      (lends_turn g first slots id (taking v t.log all, (0, Held d) ∷ []) l j d refl refl s.begun s.lanes
      (record { entries = on.entries ∙ t.is.entries; places = omega (arith, on.kept, t.is.places, more); state = λ y w. on.state ∙ t.is.state y w; counted = ap g.count on.state ∙ t.is.counted }) on.lent (lane_is j x l on.asked tag) (own_jobs m n l (x ∷ []) [] s t))

  same_head : (i j : W) (js : List W) → i ∷ js ≡ j ∷ js → i ≡ j
  same_head i j js e = cc e

  pub begun_of : (m n o p : Sat) (l : Counted) (x : Ord) (d : C) (j : W) → Sits m [] (l ∷ []) (x ∷ []) [] false → (t : HasTaken g m n) → o.0 ≡ n.0 → o.1 ≡ (0, Held d) ∷ [] → Lends g t.core x.request d j → tells.HasLent g o p → HasBegun g j m p
  begun_of m n o p l x d j s t e f on has = let v = m.0 in let all : List W = g.lent t.core.machine in
      let has' : tells.HasLent g (taking v t.log all, (0, Held d) ∷ []) p = subst (λ (z : Sat). tells.HasLent g z p) (after_hand m n o t d e f) has in
      let same : has'.0 ≡ j = same_head has'.0 j all (sym has'.1 ∙ on.lent) in
      let view : lending (taking v t.log all) has'.0 ≡ record v { seen = t.log; heard = []; outs = j ∷ [] } = (λ i. let z : V = record v { seen = t.log; heard = []; holding = (sym s.idle) i; outs = same i ∷ [] } in z) in
      (t.log, has'.2 ∙ ap (λ (z : V). (z, [])) view, t.shown.seen, t.shown.heard)

  -- the seat after its job was lent, and the whole of what is run so
  pub begun_sits : (m n : Sat) (l : Counted) (os : List Ord) (j : W) → Sits m [] (l ∷ []) os [] false → HasBegun g j m n → SitsOut n [] (l ∷ []) os [] false (j ∷ [])
  begun_sits m n l os j s t = subst (λ (x : Sat). SitsOut x [] (l ∷ []) os [] false (j ∷ [])) (sym t.1)
      (record { accounts = s.accounts; lanes = s.lanes; passes = s.passes; dones = s.dones; root_is = s.root_is; idle = s.idle; hand = refl; clear = refl; begun = s.begun })

  pub runs_after : (m n p : Sat) (l : Counted) (x : Ord) (j : W) (place : ℕ) (reply : P) → HasBegun g j m n → RunsOrder g l x n p place reply → RunsOrder g l x m p place reply
  runs_after m n p l x j place reply b t = let u : RunsOrder g l x (record m.0 { seen = b.0; heard = []; outs = j ∷ [] }, []) p place reply = subst (λ (y : Sat). RunsOrder g l x y p place reply) b.1 t in record {
    log = u.log;
    more = prefix_trans m.0.seen b.0 u.log b.2 u.more;
    heard = prefix_trans m.0.heard b.0 u.log b.3 u.more;
    after = u.after;
    shown = u.shown;
    place_is = u.place_is;
    room = u.room;
  }

  -- what the seat with a job out finds in the machine
  has_some : {X : Type 0} (xs : List X) (x : X) → Has xs x → 0 < length xs
  has_some [] x h = absurd h
  has_some (y ∷ xs) x h = omega arith

  job_lent : (m n : Sat) (l : Counted) (x : Ord) (j : W) → SitsOut m [] (l ∷ []) (x ∷ []) [] false (j ∷ []) → (t : HasTaken g m n) → g.asked j ≡ x.request → g.tagged x.request ≡ (l.lane, l.count + 1) → Has (g.lent t.core.machine) j
  job_lent m n l x j s t asked tag = has_of_lane lane_of l.lane (g.lent t.core.machine) j
      (subst (λ (w : List W). Has w j) (sym (own_jobs m n l (x ∷ []) (j ∷ []) s t ∙ of_lane_same lane_of l.lane j [] (lane_is j x l asked tag))) (inl refl))

  pub back_hand : (m n : Sat) (l : Counted) (x : Ord) (j job : W) → SitsOut m [] (l ∷ []) (x ∷ []) [] false (j ∷ []) → (t : HasTaken g m n) → job ≡ g.worked j → g.asked j ≡ x.request → g.tagged x.request ≡ (l.lane, l.count + 1)
      → (c : C) × (n.1 ≡ (0, Held c) ∷ []) × (g.count (g.state c.machine) ≡ length c.history.entries) × (0 < c.history.kept) × ((i : W) × Has (g.lent c.machine) i × (job ≡ g.worked i))
  back_hand m n l x j job s t worked asked tag = let here = job_lent m n l x j s t asked tag in
      (t.core, ap (λ (y : Sat). y.1) t.after, t.is.counted ∙ ap length (sym t.is.entries), omega (arith, t.is.places, has_some (g.lent t.core.machine) j here), (j, here, worked))

  pub back_room : (m n : Sat) (x : Ord) (d : C) (place : ℕ) (reply : P) → (t : HasTaken g m n) → EndsOn g t.core x.client x.call x.request d place reply → length t.log < 2 ^ 31 - 1
  back_room m n x d place reply t on = subst (λ (w : List E). length w < 2 ^ 31 - 1) t.is.entries on.room
