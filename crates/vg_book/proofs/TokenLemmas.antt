-- What the tokens keep, and what their calls tell.
use Rattle.std.proofs.Common.{◌≡◌, inl, inr, ℕ, ◌+◌, ◌-◌, ◌≤◌, Bool, true≢false, false, List, [], ◌∷◌, ◌++◌, map, length, refl, ap, sym, subst, ◌∙◌, arith, Option, Result, Ok, Err, IsErr, MatchResult, length-append}
use mathlib.Core.List.{IsPrefix}
use mathlib.Core.Option.{some}
use lib.ListN.{get_elem?}
use Rattle.atomic_table.specs.Table.{Me}
use Rattle.vg_history.specs.declared.machine.Machine.{Ghosts}
use Rattle.vg_history.specs.declared.entry.Entry.{Entry}
use Rattle.vg_history.specs.declared.entry.Entry.TheVariants.{Act}
use Rattle.vg_history.specs.Lists.{Has}
use Rattle.vg_book.specs.declared.board.Slot.{Slot}
use Rattle.vg_book.specs.declared.board.Order.{Order}
use Rattle.vg_book.specs.declared.board.Finished.{Finished}
use Rattle.vg_book.specs.declared.board.Account.{Account}
use Rattle.vg_book.specs.declared.board.Counted.{Counted}
use Rattle.vg_book.specs.declared.board.View.{View}
use Rattle.vg_book.specs.Views.{entry_of, joined, emptied, handed, noted, settle_first, settled, give_up_first, given_up, entered, drawing, drawn, ordered_of, newborn, first_account}
use Rattle.vg_book.specs.Kept.{Shown, IsHistory, Accounted}
use Rattle.vg_book.specs.Tells.{HasLooked, HasSettled, HasReturned}
use Rattle.vg_book.specs.Turns.{Sits, IsClientSeat, EntersAct, own, order}
use Rattle.vg_book.specs.Tokens.{Done, Passed, Noted, client_value, pass_value, ClientOk, Acted, Watched, Drawn, TakesBack, TakesUnrun, Meets, MeetsNote, note_value, finished_of}
use Rattle.vg_book.specs.Kept as tokens
use Rattle.vg_book.proofs.Updates.{length_without}

-- what holds where a call failed, whatever the error is
pub match_failed : {T E : Type 0} (r : Result T E) (Y : T → Type 0) (N : Type 0) → IsErr r → N → MatchResult r Y (λ e. N)
match_failed (Ok x) Y N is n = absurd (true≢false (sym is))
match_failed (Err e) Y N is n = n

module _ {M S A R Q P H W : Type 0} (g : Ghosts M S A R Q P H W) where
  abbrev E : Type 0
  E = Entry M S A R Q P H W

  abbrev V : Type 0
  V = View M S A R Q P H W

  abbrev Acc : Type 0
  Acc = Account M S A R Q P H W

  abbrev Ord : Type 0
  Ord = Order M S A R Q P H W

  abbrev Fin : Type 0
  Fin = Finished M S A R Q P H W

  abbrev Sat : Type 0
  Sat = Me (Slot M S A R Q P H W) V

  -- a seat that has joined another has what the two had
  pub joined_sits : (m w : Sat) (as' bs : List Acc) (ls ks : List Counted) (os ps : List Ord) (fs es : List Fin) (b c : Bool) → Sits m as' ls os fs b → Sits w bs ks ps es c → Sits (joined m.0 w.0, m.1) (as' ++ bs) (ls ++ ks) (os ++ ps) (fs ++ es) b
  joined_sits m w as' bs ls ks os ps fs es b c s t = record {
    accounts = λ i. s.accounts i ++ t.accounts i;
    lanes = λ i. s.lanes i ++ t.lanes i;
    passes = λ i. s.passes i ++ t.passes i;
    dones = λ i. s.dones i ++ t.dones i;
    root_is = s.root_is;
    idle = s.idle;
    hand = s.hand;
    clear = s.clear;
    begun = s.begun;
  }

  has_one : {X : Type 0} (l : List X) (x : X) → l ≡ x ∷ [] → Has l x
  has_one {X} l x e = subst (λ (y : List X). Has y x) (sym e) (inl refl)

  -- a client's seat that has this account
  client_seat : (p : Sat) (number used : ℕ) (holds : H) (a : Acc) → Sits p (a ∷ []) [] [] [] false → a.number ≡ number → a.used ≡ used → a.holds ≡ holds → IsClientSeat g p number used holds
  client_seat p number used holds a s n u h = let e : own g number holds p ≡ a = ap (first_account (newborn number holds)) s.accounts in record {
    sits = subst (λ (x : Acc). Sits p (x ∷ []) [] [] [] false) (sym e) s;
    number_is = ap (λ (x : Acc). x.number) e ∙ n;
    used_is = ap (λ (x : Acc). x.used) e ∙ u;
    holds_are = ap (λ (x : Acc). x.holds) e ∙ h;
  }

  own_is : (p : Sat) (number : ℕ) (holds : H) (a : Acc) → p.0.accounts ≡ a ∷ [] → own g number holds p ≡ a
  own_is p number holds a e = ap (first_account (newborn number holds)) e

  -- an act
  entered_sits : (a : Acc) (act : A) (m p : Sat) (held : H) (number : ℕ) (reply : R) → Sits m (a ∷ []) [] [] [] false → EntersAct g a act m p held number reply → Sits p (entered g.update a (Act a.number (a.used + 1) act reply) ∷ []) [] [] [] false
  entered_sits a act m p held number reply s t = subst (λ (x : Sat). Sits x (entered g.update a (Act a.number (a.used + 1) act reply) ∷ []) [] [] [] false) (sym t.after)
      (record { accounts = refl; lanes = s.lanes; passes = s.passes; dones = s.dones; root_is = s.root_is; idle = s.idle; hand = refl; clear = s.clear; begun = s.begun })

  pub acts_ok : (number used outstanding : ℕ) (holds held : H) (act : A) (m p : Sat) (at : ℕ) (reply : R) → ClientOk g number used outstanding holds m → EntersAct g (own g number holds m) act m p held at reply → ClientOk g number (used + 1) outstanding held p
  acts_ok number used outstanding holds held act m p at reply ok t = let a = own g number holds m in let x : Acc = entered g.update a (Act a.number (a.used + 1) act reply) in
      let s = entered_sits a act m p held at reply ok.seat.sits t in let w = ok.within in record {
        seat = client_seat p number (used + 1) held x s ok.seat.number_is (ap (λ (n : ℕ). n + 1) ok.seat.used_is) (sym t.holds_are);
        out_is = ap (λ (y : Acc). length y.out) (own_is p number held x s.accounts) ∙ ok.out_is;
        within = omega arith;
      }

  pub acts_told : (number used outstanding : ℕ) (holds held : H) (act : A) (m p : Sat) (at : ℕ) (reply : R) → ClientOk g number used outstanding holds m → EntersAct g (own g number holds m) act m p held at reply → Acted g (client_value g number holds m) act (client_value g number held p) at reply
  acts_told number used outstanding holds held act m p at reply ok t = let a = own g number holds m in let e : E = Act a.number (a.used + 1) act reply in let x : Acc = entered g.update a e in
      let s = entered_sits a act m p held at reply ok.seat.sits t in let seen : p.0.seen ≡ t.log ++ e ∷ [] = ap (λ (y : Sat). y.0.seen) t.after in
      let start : p.0.start ≡ m.0.start = ap (λ (y : Sat). y.0.start) t.after in record {
        log = t.log;
        more = t.more;
        seen = seen;
        number_is = t.number_is ∙ (sym (length-append t.log (e ∷ [])) ∙ ap length (sym seen));
        account = own_is p number held x s.accounts;
        start = start;
        history = subst (λ (l : List E). IsHistory g p.0.start l) (sym seen) t.shown.told;
        known = subst (λ (l : List E). Accounted g l (own g number held p)) (sym seen) (t.shown.accounts (own g number held p) (has_one p.0.accounts (own g number held p) (s.accounts ∙ ap (λ (y : Acc). y ∷ []) (sym (own_is p number held x s.accounts)))));
      }

  -- a look
  looked_sits : (m p : Sat) (as' : List Acc) (ls : List Counted) (os : List Ord) (fs : List Fin) (b : Bool) → Sits m as' ls os fs b → HasLooked g m p → Sits p as' ls os fs b
  looked_sits m p as' ls os fs b s t = subst (λ (x : Sat). Sits x as' ls os fs b) (sym t.1) (record { accounts = s.accounts; lanes = s.lanes; passes = s.passes; dones = s.dones; root_is = s.root_is; idle = s.idle; hand = s.hand; clear = s.clear; begun = s.begun })

  pub looks_ok : (number used outstanding : ℕ) (holds : H) (m n p : Sat) → ClientOk g number used outstanding holds m → Sits n (own g number holds m ∷ []) [] [] [] false → HasLooked g n p → ClientOk g number used outstanding holds p
  looks_ok number used outstanding holds m n p ok s t = let a = own g number holds m in let s' = looked_sits n p (a ∷ []) [] [] [] false s t in record {
    seat = client_seat p number used holds a s' ok.seat.number_is ok.seat.used_is ok.seat.holds_are;
    out_is = ap (λ (y : Acc). length y.out) (own_is p number holds a s'.accounts) ∙ ok.out_is;
    within = ok.within;
  }

  pub looks_told : (number used outstanding : ℕ) (holds : H) (m n p : Sat) → ClientOk g number used outstanding holds m → Sits n (own g number holds m ∷ []) [] [] [] false → n.0.seen ≡ m.0.seen → n.0.start ≡ m.0.start → HasLooked g n p → Watched g (client_value g number holds m) (client_value g number holds p)
  looks_told number used outstanding holds m n p ok s seen start t = let a = own g number holds m in let s' = looked_sits n p (a ∷ []) [] [] [] false s t in
      let log : p.0.seen ≡ t.0 = ap (λ (y : Sat). y.0.seen) t.1 in let e = own_is p number holds a s'.accounts in record {
        more = subst (λ (x : List E × List E). IsPrefix x.0 x.1) (λ i. (seen i, (sym log) i)) t.2.seen;
        account = e;
        start = ap (λ (y : Sat). y.0.start) t.1 ∙ start;
        history = subst (λ (x : Option S × List E). IsHistory g x.0 x.1) (λ i. ((sym (ap (λ (y : Sat). y.0.start) t.1)) i, (sym log) i)) t.2.told;
        known = subst (λ (x : List E × Acc). Accounted g x.0 x.1) (λ i. ((sym log) i, (sym e) i)) (t.2.accounts a (has_one n.0.accounts a s.accounts));
      }

  -- a done pass that came back
  pub done_joined : (number used outstanding : ℕ) (holds : H) (m w n : Sat) (f : Fin) → ClientOk g number used outstanding holds m → n ≡ (joined m.0 w.0, m.1) → Sits w [] [] [] (f ∷ []) false → Sits n (own g number holds m ∷ []) [] [] (f ∷ []) false
  done_joined number used outstanding holds m w n f ok is s = subst (λ (x : Sat). Sits x (own g number holds m ∷ []) [] [] (f ∷ []) false) (sym is) (joined_sits m w (own g number holds m ∷ []) [] [] [] [] [] [] (f ∷ []) false false ok.seat.sits s)

  settled_sits : (n p : Sat) (a : Acc) (f : Fin) → Sits n (a ∷ []) [] [] (f ∷ []) false → HasSettled g n p → Sits p (settled a f ∷ []) [] [] [] false
  settled_sits n p a f s t = subst (λ (x : Sat). Sits x (settled a f ∷ []) [] [] [] false) (sym t.1)
      (record { accounts = (λ i. settle_first (s.accounts i) (s.dones i)); lanes = s.lanes; passes = s.passes; dones = refl; root_is = s.root_is; idle = s.idle; hand = s.hand; clear = s.clear; begun = s.begun })

  pub settled_out : (n p : Sat) (a : Acc) (f : Fin) → Sits n (a ∷ []) [] [] (f ∷ []) false → HasSettled g n p → f.order.client ≡ a.number → Has a.out f.order
  settled_out n p a f s t mine = t.2.outs f.order (inr (f, has_one n.0.dones f s.dones, refl)) a (has_one n.0.accounts a s.accounts) (sym mine)

  pub out_some : (a : Acc) (o : Ord) (outstanding : ℕ) → Has a.out o → length a.out ≡ outstanding → 1 ≤ outstanding
  out_some a o outstanding h e = omega (arith, length_without a.out o h, e)

  pub settles_ok : (number used outstanding : ℕ) (holds : H) (m n p : Sat) (f : Fin) → ClientOk g number used outstanding holds m → Sits n (own g number holds m ∷ []) [] [] (f ∷ []) false → HasSettled g n p → f.order.client ≡ (own g number holds m).number → ClientOk g number used (outstanding - 1) holds p
  settles_ok number used outstanding holds m n p f ok s t mine = let a = own g number holds m in let s' = settled_sits n p a f s t in let out = settled_out n p a f s t mine in let w = ok.within in record {
    seat = client_seat p number used holds (settled a f) s' ok.seat.number_is ok.seat.used_is ok.seat.holds_are;
    out_is = ap (λ (y : Acc). length y.out) (own_is p number holds (settled a f) s'.accounts) ∙ omega (arith, length_without a.out f.order out, ok.out_is);
    within = omega arith;
  }

  pub settles_told : (number used outstanding : ℕ) (holds : H) (m w n p : Sat) (f : Done M S A R Q P H W) → ClientOk g number used outstanding holds m → n ≡ (joined m.0 w.0, m.1) → f.seen ≡ w.0.seen → Sits n (own g number holds m ∷ []) [] [] (finished_of g f ∷ []) false → HasSettled g n p → f.order.client ≡ (own g number holds m).number
      → TakesBack g (client_value g number holds m) f (client_value g number holds p)
  settles_told number used outstanding holds m w n p f ok is seen s t mine = let a = own g number holds m in let fin : Fin = finished_of g f in let s' = settled_sits n p a fin s t in
      let log : p.0.seen ≡ t.0 = ap (λ (y : Sat). y.0.seen) t.1 in let e = own_is p number holds (settled a fin) s'.accounts in
      let start : p.0.start ≡ n.0.start = ap (λ (y : Sat). y.0.start) t.1 in record {
        out = settled_out n p a fin s t mine;
        account = e;
        more = subst (λ (x : List E × List E). IsPrefix x.0 x.1) (λ i. ((ap (λ (y : Sat). y.0.seen) is) i, (sym log) i)) t.2.seen;
        more_done = subst (λ (x : List E × List E). IsPrefix x.0 x.1) (λ i. ((ap (λ (y : Sat). y.0.heard) is ∙ sym seen) i, (sym log) i)) t.2.heard;
        start = start ∙ ap (λ (y : Sat). y.0.start) is;
        place = subst (λ (l : List E). get_elem? l f.place ≡ some (entry_of fin)) (sym log) (t.2.dones fin (has_one n.0.dones fin s.dones));
        history = subst (λ (x : Option S × List E). IsHistory g x.0 x.1) (λ i. ((sym start) i, (sym log) i)) t.3.told;
        known = subst (λ (x : List E × Acc). Accounted g x.0 x.1) (λ i. ((sym log) i, (sym e) i)) (t.3.accounts (settled a fin) (subst (λ (y : Sat). Has y.0.accounts (settled a fin)) t.1 (has_one p.0.accounts (settled a fin) s'.accounts)));
      }

  -- a pass that came back unrun
  pub pass_joined : (number used outstanding : ℕ) (holds : H) (m w n : Sat) (o : Ord) → ClientOk g number used outstanding holds m → n ≡ (joined m.0 w.0, m.1) → Sits w [] [] (o ∷ []) [] false → Sits n (own g number holds m ∷ []) [] (o ∷ []) [] false
  pass_joined number used outstanding holds m w n o ok is s = subst (λ (x : Sat). Sits x (own g number holds m ∷ []) [] (o ∷ []) [] false) (sym is) (joined_sits m w (own g number holds m ∷ []) [] [] [] [] (o ∷ []) [] [] false false ok.seat.sits s)

  returned_sits : (n p : Sat) (a : Acc) (o : Ord) → Sits n (a ∷ []) [] (o ∷ []) [] false → HasReturned g n p → Sits p (given_up a o ∷ []) [] [] [] false
  returned_sits n p a o s t = subst (λ (x : Sat). Sits x (given_up a o ∷ []) [] [] [] false) (sym t.1)
      (record { accounts = (λ i. give_up_first (s.accounts i) (s.passes i)); lanes = s.lanes; passes = refl; dones = s.dones; root_is = s.root_is; idle = s.idle; hand = s.hand; clear = s.clear; begun = s.begun })

  pub returned_out : (n p : Sat) (a : Acc) (o : Ord) → Sits n (a ∷ []) [] (o ∷ []) [] false → HasReturned g n p → o.client ≡ a.number → Has a.out o
  returned_out n p a o s t mine = t.2.outs o (inl (has_one n.0.passes o s.passes)) a (has_one n.0.accounts a s.accounts) (sym mine)

  pub returns_ok : (number used outstanding : ℕ) (holds : H) (m n p : Sat) (o : Ord) → ClientOk g number used outstanding holds m → Sits n (own g number holds m ∷ []) [] (o ∷ []) [] false → HasReturned g n p → o.client ≡ (own g number holds m).number → ClientOk g number used (outstanding - 1) holds p
  returns_ok number used outstanding holds m n p o ok s t mine = let a = own g number holds m in let s' = returned_sits n p a o s t in let out = returned_out n p a o s t mine in let w = ok.within in record {
    seat = client_seat p number used holds (given_up a o) s' ok.seat.number_is ok.seat.used_is ok.seat.holds_are;
    out_is = ap (λ (y : Acc). length y.out) (own_is p number holds (given_up a o) s'.accounts) ∙ omega (arith, length_without a.out o out, ok.out_is);
    within = omega arith;
  }

  pub returns_told : (number used outstanding : ℕ) (holds : H) (m w n p : Sat) (f : Passed M S A R Q P H W) → ClientOk g number used outstanding holds m → n ≡ (joined m.0 w.0, m.1) → f.seen ≡ w.0.seen → Sits n (own g number holds m ∷ []) [] (f.order ∷ []) [] false → HasReturned g n p → f.order.client ≡ (own g number holds m).number
      → TakesUnrun g (client_value g number holds m) f (client_value g number holds p)
  returns_told number used outstanding holds m w n p f ok is seen s t mine = let a = own g number holds m in let o : Ord = f.order in let s' = returned_sits n p a o s t in
      let log : p.0.seen ≡ t.0 = ap (λ (y : Sat). y.0.seen) t.1 in let e = own_is p number holds (given_up a o) s'.accounts in
      let start : p.0.start ≡ n.0.start = ap (λ (y : Sat). y.0.start) t.1 in record {
        out = returned_out n p a o s t mine;
        account = e;
        more = subst (λ (x : List E × List E). IsPrefix x.0 x.1) (λ i. ((ap (λ (y : Sat). y.0.seen) is) i, (sym log) i)) t.2.seen;
        more_pass = subst (λ (x : List E × List E). IsPrefix x.0 x.1) (λ i. ((ap (λ (y : Sat). y.0.heard) is ∙ sym seen) i, (sym log) i)) t.2.heard;
        start = start ∙ ap (λ (y : Sat). y.0.start) is;
        fresh = subst (λ (l : List E). tokens.IsFresh g l o) (sym log) (t.2.passes o (has_one n.0.passes o s.passes));
        history = subst (λ (x : Option S × List E). IsHistory g x.0 x.1) (λ i. ((sym start) i, (sym log) i)) t.3.told;
        known = subst (λ (x : List E × Acc). Accounted g x.0 x.1) (λ i. ((sym log) i, (sym e) i)) (t.3.accounts (given_up a o) (subst (λ (y : Sat). Has y.0.accounts (given_up a o)) t.1 (has_one p.0.accounts (given_up a o) s'.accounts)));
      }

  -- a note that was met
  pub meets_told : (number used outstanding : ℕ) (holds : H) (m w n p : Sat) (f : Noted M S A R Q P H W) → ClientOk g number used outstanding holds m → n ≡ (joined m.0 w.0, m.1) → f.seen ≡ w.0.seen → Sits w [] [] [] [] false → HasLooked g n p → Meets g (client_value g number holds m) f (client_value g number holds p)
  meets_told number used outstanding holds m w n p f ok is seen sw t =
      let s : Sits n (own g number holds m ∷ []) [] [] [] false = subst (λ (x : Sat). Sits x (own g number holds m ∷ []) [] [] [] false) (sym is) (joined_sits m w (own g number holds m ∷ []) [] [] [] [] [] [] [] false false ok.seat.sits sw) in
      let log : p.0.seen ≡ t.0 = ap (λ (y : Sat). y.0.seen) t.1 in record {
        watched = looks_told number used outstanding holds m n p ok s (ap (λ (y : Sat). y.0.seen) is) (ap (λ (y : Sat). y.0.start) is) t;
        more_note = subst (λ (x : List E × List E). IsPrefix x.0 x.1) (λ i. ((ap (λ (y : Sat). y.0.heard) is ∙ sym seen) i, (sym log) i)) t.2.heard;
      }

  pub note_joined : (number used outstanding : ℕ) (holds : H) (m w n : Sat) → ClientOk g number used outstanding holds m → n ≡ (joined m.0 w.0, m.1) → Sits w [] [] [] [] false → Sits n (own g number holds m ∷ []) [] [] [] false
  note_joined number used outstanding holds m w n ok is sw = subst (λ (x : Sat). Sits x (own g number holds m ∷ []) [] [] [] false) (sym is) (joined_sits m w (own g number holds m ∷ []) [] [] [] [] [] [] [] false false ok.seat.sits sw)

  -- a note that met another
  pub notes_joined : (m w n : Sat) → Sits m [] [] [] [] false → Sits w [] [] [] [] false → n ≡ (joined m.0 w.0, m.1) → Sits n [] [] [] [] false
  notes_joined m w n sm sw is = subst (λ (x : Sat). Sits x [] [] [] [] false) (sym is) (joined_sits m w [] [] [] [] [] [] [] [] false false sm sw)

  pub note_looks : (n p : Sat) → Sits n [] [] [] [] false → HasLooked g n p → Sits p [] [] [] [] false
  note_looks n p s t = looked_sits n p [] [] [] [] false s t

  pub notes_told : (m w n p : Sat) (f : Noted M S A R Q P H W) → n ≡ (joined m.0 w.0, m.1) → f.seen ≡ w.0.seen → HasLooked g n p → MeetsNote g (note_value g m) f (note_value g p)
  notes_told m w n p f is seen t =
      let log : p.0.seen ≡ t.0 = ap (λ (y : Sat). y.0.seen) t.1 in
      let start : p.0.start ≡ n.0.start = ap (λ (y : Sat). y.0.start) t.1 in record {
        more = subst (λ (x : List E × List E). IsPrefix x.0 x.1) (λ i. ((ap (λ (y : Sat). y.0.seen) is) i, (sym log) i)) t.2.seen;
        more_note = subst (λ (x : List E × List E). IsPrefix x.0 x.1) (λ i. ((ap (λ (y : Sat). y.0.heard) is ∙ sym seen) i, (sym log) i)) t.2.heard;
        start = start ∙ ap (λ (y : Sat). y.0.start) is;
        history = subst (λ (x : Option S × List E). IsHistory g x.0 x.1) (λ i. ((sym start) i, (sym log) i)) t.2.told;
      }

  -- a request drawn, and handed to a pass
  drawn_is : (m n : Sat) (a : Acc) (q : Q) → m.0.accounts ≡ a ∷ [] → n ≡ (drawing m.0 q, m.1) → (n.0.accounts ≡ drawn a q ∷ []) × (n.0.passes ≡ ordered_of a q ∷ [])
  drawn_is m n a q e is = (ap (λ (x : Sat). x.0.accounts) is ∙ ap (λ (l : List Acc). map (λ (b : Acc). drawn b q) l) e, ap (λ (x : Sat). x.0.passes) is ∙ ap (λ (l : List Acc). map (λ (b : Acc). ordered_of b q) l) e)

  pub draws_ok : (number used outstanding : ℕ) (holds : H) (m n p : Sat) (q : Q) → ClientOk g number used outstanding holds m → n ≡ (drawing m.0 q, m.1) → p ≡ (emptied n.0, n.1) → ClientOk g number (used + 1) (outstanding + 1) holds p
  draws_ok number used outstanding holds m n p q ok is left = let a = own g number holds m in let s = ok.seat.sits in let d = drawn_is m n a q s.accounts is in let w = ok.within in
      let accounts : p.0.accounts ≡ drawn a q ∷ [] = ap (λ (x : Sat). x.0.accounts) left ∙ d.0 in
      let s' : Sits p (drawn a q ∷ []) [] [] [] false = record {
        accounts = accounts;
        lanes = ap (λ (x : Sat). x.0.lanes) left ∙ (ap (λ (x : Sat). x.0.lanes) is ∙ s.lanes);
        passes = ap (λ (x : Sat). x.0.passes) left;
        dones = ap (λ (x : Sat). x.0.dones) left;
        root_is = ap (λ (x : Sat). x.0.is_root) left ∙ (ap (λ (x : Sat). x.0.is_root) is ∙ s.root_is);
        idle = ap (λ (x : Sat). x.0.holding) left ∙ (ap (λ (x : Sat). x.0.holding) is ∙ s.idle);
        hand = ap (λ (x : Sat). x.1) left ∙ (ap (λ (x : Sat). x.1) is ∙ s.hand);
        clear = ap (λ (x : Sat). x.0.outs) left ∙ (ap (λ (x : Sat). x.0.outs) is ∙ s.clear);
        begun = (s.begun.0, ap (λ (x : Sat). x.0.start) left ∙ (ap (λ (x : Sat). x.0.start) is ∙ s.begun.1));
      } in record {
        seat = client_seat p number (used + 1) holds (drawn a q) s' ok.seat.number_is (ap (λ (k : ℕ). k + 1) ok.seat.used_is) ok.seat.holds_are;
        out_is = ap (λ (y : Acc). length y.out) (own_is p number holds (drawn a q) accounts) ∙ omega (arith, length-append a.out (ordered_of a q ∷ []), ok.out_is);
        within = omega arith;
      }

  pub drawn_pass : (number used outstanding : ℕ) (holds : H) (m n r : Sat) (q : Q) → ClientOk g number used outstanding holds m → n ≡ (drawing m.0 q, m.1) → r ≡ (handed n.0, []) → Sits r [] [] (order g number (used + 1) q ∷ []) [] false
  drawn_pass number used outstanding holds m n r q ok is right = let a = own g number holds m in let s = ok.seat.sits in let d = drawn_is m n a q s.accounts is in record {
    accounts = ap (λ (x : Sat). x.0.accounts) right;
    lanes = ap (λ (x : Sat). x.0.lanes) right;
    passes = ap (λ (x : Sat). x.0.passes) right ∙ (d.1 ∙ (λ i. order g (ok.seat.number_is i) (ok.seat.used_is i + 1) q ∷ []));
    dones = ap (λ (x : Sat). x.0.dones) right ∙ (ap (λ (x : Sat). x.0.dones) is ∙ s.dones);
    root_is = ap (λ (x : Sat). x.0.is_root) right;
    idle = ap (λ (x : Sat). x.0.holding) right;
    hand = ap (λ (x : Sat). x.1) right;
    clear = ap (λ (x : Sat). x.0.outs) right;
    begun = (s.begun.0, ap (λ (x : Sat). x.0.start) right ∙ (ap (λ (x : Sat). x.0.start) is ∙ s.begun.1));
  }

  pub draws_told : (number used outstanding : ℕ) (holds : H) (m n p r : Sat) (q : Q) → ClientOk g number used outstanding holds m → n ≡ (drawing m.0 q, m.1) → p ≡ (emptied n.0, n.1) → r ≡ (handed n.0, []) → (x : Passed M S A R Q P H W) → x ≡ pass_value g number (used + 1) q r
      → Drawn g (client_value g number holds m) q (client_value g number holds p) x
  draws_told number used outstanding holds m n p r q ok is left right x e = let a = own g number holds m in let s = ok.seat.sits in let d = drawn_is m n a q s.accounts is in record {
    account = own_is p number holds (drawn a q) (ap (λ (y : Sat). y.0.accounts) left ∙ d.0);
    seen = ap (λ (y : Sat). y.0.seen) left ∙ ap (λ (y : Sat). y.0.seen) is;
    start = ap (λ (y : Sat). y.0.start) left ∙ ap (λ (y : Sat). y.0.start) is;
    pass = e ∙ (λ i. record { order = order g ((sym ok.seat.number_is) i) ((sym ok.seat.used_is) i + 1) q; seen = (ap (λ (y : Sat). y.0.seen) right ∙ ap (λ (y : Sat). y.0.seen) is) i; start = (ap (λ (y : Sat). y.0.start) right ∙ ap (λ (y : Sat). y.0.start) is) i });
  }

  pub noted_sits : (m r : Sat) (as' : List Acc) (ls : List Counted) (os : List Ord) (fs : List Fin) (b : Bool) → Sits m as' ls os fs b → r ≡ (noted m.0, []) → Sits r [] [] [] [] false
  noted_sits m r as' ls os fs b s e = subst (λ (x : Sat). Sits x [] [] [] [] false) (sym e) (record { accounts = refl; lanes = refl; passes = refl; dones = refl; root_is = refl; idle = refl; hand = refl; clear = refl; begun = s.begun })
