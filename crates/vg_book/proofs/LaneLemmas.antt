-- What a lane keeps, and what its calls tell.
use Rattle.std.proofs.Common.{◌≡◌, inl, ℕ, zero, suc, ◌+◌, ◌^◌, ◌<◌, ◌≤◌, ◌==◌, cond, Bool, true, false, List, [], ◌∷◌, ◌++◌, length, refl, ap, sym, subst, ◌∙◌, arith, Option, length-append}
use mathlib.Core.List.{IsPrefix}
use mathlib.Core.Option.{some}
use lib.ListN.{get_elem?}
use Rattle.atomic_table.specs.Table.{Me}
use Rattle.vg_history.specs.declared.machine.Machine.{Ghosts}
use Rattle.vg_history.specs.declared.entry.Entry.{Entry}
use Rattle.vg_history.specs.declared.entry.Entry.TheVariants.{Act, Command}
use Rattle.vg_history.specs.Lists.{Has, upto}
use Rattle.vg_history.specs.History.{after, AgreesFrom, ordinals, ordinal_in, HasFence}
use Rattle.vg_history.proofs.HistoryLemmas.{fence_of}
use Rattle.vg_book.specs.declared.board.Slot.{Slot}
use Rattle.vg_book.specs.declared.board.Order.{Order}
use Rattle.vg_book.specs.declared.board.Finished.{Finished}
use Rattle.vg_book.specs.declared.board.Account.{Account}
use Rattle.vg_book.specs.declared.board.Counted.{Counted}
use Rattle.vg_book.specs.declared.board.View.{View}
use Rattle.vg_book.specs.Views.{joined, emptied, handed, counted_up}
use Rattle.vg_book.specs.Kept.{IsHistory}
use Rattle.vg_book.specs.Tells.{HasLooked}
use Rattle.vg_book.specs.Turns.{Sits, RunsOrder, counted, order}
use Rattle.vg_book.specs.Tokens.{Done, Passed, Noted, client_value, lane_value, pass_value, done_value, note_value, ClientOk, DoneOk, Acted, Watched, Drawn, TakesBack, TakesUnrun, Meets, finished_of}
use Rattle.vg_book.specs.Tokens as tokens
use Rattle.vg_history.proofs.ListLemmas.{has_last}
use Rattle.atomic_table.proofs.Lists.{at_last}
use Rattle.vg_book.specs.Tokens.{Lane}
use Rattle.vg_book.proofs.TokenLemmas.{joined_sits}

length_upto : (n : ℕ) → length (upto n) ≡ n
length_upto zero = refl
length_upto (suc n) = omega (arith, length-append (upto n) (suc n ∷ []), length_upto n)

module _ {M S A R Q P H W : Type 0} (g : Ghosts M S A R Q P H W) where
  abbrev E : Type 0
  E = Entry M S A R Q P H W

  abbrev V : Type 0
  V = View M S A R Q P H W

  abbrev Acc : Type 0
  Acc = Account M S A R Q P H W

  abbrev Ord : Type 0
  Ord = Order M S A R Q P H W

  abbrev Fin : Type 0
  Fin = Finished M S A R Q P H W

  abbrev Sat : Type 0
  Sat = Me (Slot M S A R Q P H W) V

  has_one : {X : Type 0} (l : List X) (x : X) → l ≡ x ∷ [] → Has l x
  has_one {X} l x e = subst (λ (y : List X). Has y x) (sym e) (inl refl)

  one_ordinal : (l : ℕ) (e : E) → length (ordinal_in g l e) ≤ 1
  one_ordinal l (Act c n a r) = omega arith
  one_ordinal l (Command c n q p) = at_most_one ((g.tagged q).0 == l) (g.tagged q).1
    where
      at_most_one : (b : Bool) (k : ℕ) → length (cond b (k ∷ []) []) ≤ 1
      at_most_one true k = omega arith
      at_most_one false k = omega arith

  length_ordinals : (l : ℕ) (es : List E) → length (ordinals g l es) ≤ length es
  length_ordinals l [] = omega arith
  length_ordinals l (e ∷ es) = omega (arith, length-append (ordinal_in g l e) (ordinals g l es), one_ordinal l e, length_ordinals l es)

  pub lane_joined : (m w n : Sat) (l : Counted) (o : Ord) → Sits m [] (l ∷ []) [] [] false → n ≡ (joined m.0 w.0, m.1) → Sits w [] [] (o ∷ []) [] false → Sits n [] (l ∷ []) (o ∷ []) [] false
  lane_joined m w n l o s is t = subst (λ (x : Sat). Sits x [] (l ∷ []) (o ∷ []) [] false) (sym is) (joined_sits g m w [] [] (l ∷ []) [] [] (o ∷ []) [] [] false false s t)

  abbrev entry : Ord → P → E
  entry o reply = Command o.client o.call o.request reply

  abbrev fin : Ord → P → ℕ → Fin
  fin o reply place = record { order = o; reply = reply; place = place }

  ran_sits : (n p : Sat) (l : Counted) (o : Ord) (place : ℕ) (reply : P) → Sits n [] (l ∷ []) (o ∷ []) [] false → RunsOrder g l o n p place reply → Sits p [] (counted_up l ∷ []) [] (fin o reply place ∷ []) false
  ran_sits n p l o place reply s t = subst (λ (x : Sat). Sits x [] (counted_up l ∷ []) [] (fin o reply place ∷ []) false) (sym t.after)
      (record { accounts = s.accounts; lanes = refl; passes = refl; dones = refl; root_is = s.root_is; idle = s.idle; hand = refl; clear = refl; begun = s.begun })

  -- the last reply is the machine's, so what it writes is read as it
  readable_last : ((s : S) (q : Q) → g.read q (g.written q (g.answered s q)) ≡ g.answered s q) → (s : S) (xs : List E) (c n : ℕ) (q : Q) (p : P) → AgreesFrom g s (xs ++ Command c n q p ∷ []) → g.read q (g.written q p) ≡ p
  readable_last reads s [] c n q p a = subst (λ (y : P). g.read q (g.written q y) ≡ y) (sym a.0) (reads s q)
  readable_last reads s (x ∷ xs) c n q p a = readable_last reads (after g s x) xs c n q p a.1

  -- the lane's seat after what it carried was handed out
  pub left_sits : (p q : Sat) (ls : List Counted) (os : List Ord) (fs : List Fin) → Sits p [] ls os fs false → q ≡ (emptied p.0, p.1) → Sits q [] ls [] [] false
  left_sits p q ls os fs s e = subst (λ (x : Sat). Sits x [] ls [] [] false) (sym e) (record { accounts = s.accounts; lanes = s.lanes; passes = refl; dones = refl; root_is = s.root_is; idle = s.idle; hand = s.hand; clear = s.clear; begun = s.begun })

  pub right_sits : (p r : Sat) (ls : List Counted) (os : List Ord) (fs : List Fin) → Sits p [] ls os fs false → r ≡ (handed p.0, []) → Sits r [] [] os fs false
  right_sits p r ls os fs s e = subst (λ (x : Sat). Sits x [] [] os fs false) (sym e) (record { accounts = refl; lanes = refl; passes = s.passes; dones = s.dones; root_is = refl; idle = refl; hand = refl; clear = refl; begun = s.begun })

  pub count_fits : (n p : Sat) (l : Counted) (o : Ord) (place : ℕ) (reply : P) → Sits n [] (l ∷ []) (o ∷ []) [] false → RunsOrder g l o n p place reply → l.count < 2 ^ 31
  count_fits n p l o place reply s t = let e : E = entry o reply in
      let s' = ran_sits n p l o place reply s t in
      let counts = t.shown.lanes (counted_up l) (has_one p.0.lanes (counted_up l) s'.lanes) in
      let room = t.room in
      omega (arith, ap length counts, length_upto (l.count + 1), length_ordinals l.lane (t.log ++ e ∷ []), length-append t.log (e ∷ []), room)

  pub runs_ok : (n p q : Sat) (l : Counted) (o : Ord) (place : ℕ) (reply : P) → Sits n [] (l ∷ []) (o ∷ []) [] false → RunsOrder g l o n p place reply → q ≡ (emptied p.0, p.1) → Sits q [] (counted_up l ∷ []) [] [] false
  runs_ok n p q l o place reply s t e = left_sits p q (counted_up l ∷ []) [] (fin o reply place ∷ []) (ran_sits n p l o place reply s t) e

  seen_after : (n p : Sat) (l : Counted) (o : Ord) (place : ℕ) (reply : P) → RunsOrder g l o n p place reply → (t : RunsOrder g l o n p place reply) → p.0.seen ≡ t.log ++ entry o reply ∷ []
  seen_after n p l o place reply _ t = ap (λ (x : Sat). x.0.seen) t.after

  pub done_ok : ((s : S) (q : Q) → g.read q (g.written q (g.answered s q)) ≡ g.answered s q) → (n p r : Sat) (l : Counted) (client call : ℕ) (request value : Q) (place lane ordinal : ℕ) (reply : P) → Sits n [] (l ∷ []) (order g client call request ∷ []) [] false → RunsOrder g l (order g client call request) n p place reply → r ≡ (handed p.0, [])
      → value ≡ request → g.tagged request ≡ (lane, ordinal) → DoneOk g client call value reply place lane ordinal r
  done_ok reads n p r l client call request value place lane ordinal reply s t e same tag = let o : Ord = order g client call request in let x : E = entry o reply in
      let seen : r.0.seen ≡ t.log ++ x ∷ [] = ap (λ (y : Sat). y.0.seen) e ∙ ap (λ (y : Sat). y.0.seen) t.after in
      let all : DoneOk g client call request reply place lane ordinal r = record {
        seat = right_sits p r (counted_up l ∷ []) [] (fin o reply place ∷ []) (ran_sits n p l o place reply s t) e;
        tag = tag;
        stands = subst (λ (y : List E). get_elem? y place ≡ some x) (sym seen) (at_last t.log x place (sym t.place_is));
        fence = subst (λ (y : List E × (ℕ × ℕ)). HasFence g y.1.0 y.1.1 y.0) (λ i. ((sym seen) i, tag i)) (fence_of g (t.log ++ x ∷ []) client call request reply t.shown.told.ordered (has_last t.log x));
        room = let b = t.room in let c = t.place_is in omega arith;
        readable = readable_last reads s.begun.0 t.log client call request reply (t.shown.told.agrees s.begun.0 (ap (λ (y : Sat). y.0.start) t.after ∙ s.begun.1));
      } in subst (λ (y : Q). DoneOk g client call y reply place lane ordinal r) (sym same) all

  pub runs_told : (m w n p q r : Sat) (lane count : ℕ) (x : Passed M S A R Q P H W) (client call : ℕ) (request value : Q) (place : ℕ) (reply : P) → n ≡ (joined m.0 w.0, m.1) → x ≡ pass_value g client call request w
      → Sits n [] (counted g lane count ∷ []) (order g client call request ∷ []) [] false → RunsOrder g (counted g lane count) (order g client call request) n p place reply → q ≡ (emptied p.0, p.1) → r ≡ (handed p.0, []) → value ≡ request
      → (f : Done M S A R Q P H W) → f ≡ done_value g client call value reply place r
      → tokens.Ran g (lane_value g lane count m) x (lane_value g lane (count + 1) q) f
  runs_told m w n p q r lane count x client call request value place reply is xe s t left right same f fe =
      let o : Ord = order g client call request in let l : Counted = counted g lane count in let e : E = entry o reply in
      let f' : f ≡ done_value g client call request reply place r = fe ∙ ap (λ (y : Q). done_value g client call y reply place r) same in
      let after = t.after in
      let seen_q : q.0.seen ≡ t.log ++ e ∷ [] = ap (λ (y : Sat). y.0.seen) left ∙ ap (λ (y : Sat). y.0.seen) after in
      let seen_r : r.0.seen ≡ t.log ++ e ∷ [] = ap (λ (y : Sat). y.0.seen) right ∙ ap (λ (y : Sat). y.0.seen) after in
      let start_q : q.0.start ≡ p.0.start = ap (λ (y : Sat). y.0.start) left in
      let s' = ran_sits n p l o place reply s t in
      let main : tokens.Ran g (lane_value g lane count m) (pass_value g client call request w) (lane_value g lane (count + 1) q) (done_value g client call request reply place r) = record {
        log = t.log;
        more = subst (λ (y : List E). IsPrefix y t.log) (ap (λ (y : Sat). y.0.seen) is) t.more;
        more_pass = subst (λ (y : List E). IsPrefix y t.log) (ap (λ (y : Sat). y.0.heard) is) t.heard;
        seen = seen_q;
        lane = refl;
        count = refl;
        start = start_q ∙ (ap (λ (y : Sat). y.0.start) after ∙ ap (λ (y : Sat). y.0.start) is);
        order = refl;
        place = t.place_is;
        seen_done = seen_r ∙ sym seen_q;
        start_done = ap (λ (y : Sat). y.0.start) right ∙ (ap (λ (y : Sat). y.0.start) after ∙ ap (λ (y : Sat). y.0.start) is);
        history = subst (λ (y : Option S × List E). IsHistory g y.0 y.1) (λ i. ((sym start_q) i, (sym seen_q) i)) t.shown.told;
        ordinals_are = subst (λ (y : List E). ordinals g lane y ≡ upto (count + 1)) (sym seen_q) (t.shown.lanes (counted_up l) (has_one p.0.lanes (counted_up l) s'.lanes));
        fence = subst (λ (y : List E). HasFence g (g.tagged request).0 (g.tagged request).1 y) (sym seen_r) (fence_of g (t.log ++ e ∷ []) client call request reply t.shown.told.ordered (has_last t.log e));
      } in subst (λ (y : Passed M S A R Q P H W × Done M S A R Q P H W). tokens.Ran g (lane_value g lane count m) y.0 (lane_value g lane (count + 1) q) y.1) (λ i. ((sym xe) i, (sym f') i)) main

  pub lane_looked : (n p : Sat) (l : Counted) (o : Ord) → Sits n [] (l ∷ []) (o ∷ []) [] false → HasLooked g n p → Sits p [] (l ∷ []) (o ∷ []) [] false
  lane_looked n p l o s t = subst (λ (x : Sat). Sits x [] (l ∷ []) (o ∷ []) [] false) (sym t.1) (record { accounts = s.accounts; lanes = s.lanes; passes = s.passes; dones = s.dones; root_is = s.root_is; idle = s.idle; hand = s.hand; clear = s.clear; begun = s.begun })

  pub stays_told : (m w n p q r : Sat) (lane count : ℕ) (x : Passed M S A R Q P H W) (client call : ℕ) (request back : Q) → n ≡ (joined m.0 w.0, m.1) → x ≡ pass_value g client call request w
      → Sits n [] (counted g lane count ∷ []) (order g client call request ∷ []) [] false → HasLooked g n p → q ≡ (emptied p.0, p.1) → r ≡ (handed p.0, []) → back ≡ request
      → (f : Passed M S A R Q P H W) → f ≡ pass_value g client call back r
      → tokens.Stays g (lane_value g lane count m) x (lane_value g lane count q) f
  stays_told m w n p q r lane count x client call request back is xe s t left right same f fe =
      let o : Ord = order g client call request in let l : Counted = counted g lane count in
      let f' : f ≡ pass_value g client call request r = fe ∙ ap (λ (y : Q). pass_value g client call y r) same in
      let log : p.0.seen ≡ t.0 = ap (λ (y : Sat). y.0.seen) t.1 in
      let seen_q : q.0.seen ≡ t.0 = ap (λ (y : Sat). y.0.seen) left ∙ log in
      let seen_r : r.0.seen ≡ t.0 = ap (λ (y : Sat). y.0.seen) right ∙ log in
      let start_n : q.0.start ≡ n.0.start = ap (λ (y : Sat). y.0.start) left ∙ ap (λ (y : Sat). y.0.start) t.1 in
      let main : tokens.Stays g (lane_value g lane count m) (pass_value g client call request w) (lane_value g lane count q) (pass_value g client call request r) = record {
        more = subst (λ (y : List E × List E). IsPrefix y.0 y.1) (λ i. ((ap (λ (y : Sat). y.0.seen) is) i, (sym seen_q) i)) t.2.seen;
        more_pass = subst (λ (y : List E × List E). IsPrefix y.0 y.1) (λ i. ((ap (λ (y : Sat). y.0.heard) is) i, (sym seen_q) i)) t.2.heard;
        lane = refl;
        count = refl;
        start = start_n ∙ ap (λ (y : Sat). y.0.start) is;
        order = refl;
        seen = seen_r ∙ sym seen_q;
        start_pass = ap (λ (y : Sat). y.0.start) right ∙ (ap (λ (y : Sat). y.0.start) t.1 ∙ ap (λ (y : Sat). y.0.start) is);
        history = subst (λ (y : Option S × List E). IsHistory g y.0 y.1) (λ i. ((sym start_n) i, (sym seen_q) i)) t.2.told;
        ordinals_are = subst (λ (y : List E). ordinals g lane y ≡ upto count) (sym seen_q) (t.2.lanes l (has_one n.0.lanes l s.lanes));
      } in subst (λ (y : Passed M S A R Q P H W × Passed M S A R Q P H W). tokens.Stays g (lane_value g lane count m) y.0 (lane_value g lane count q) y.1) (λ i. ((sym xe) i, (sym f') i)) main
