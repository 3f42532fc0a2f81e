-- What the root keeps, and what its calls tell.
use Rattle.std.proofs.Common.{◌≡◌, ⊎_elim, ℕ, ◌+◌, ◌<◌, ◌≤◌, true, false, List, [], ◌∷◌, ◌++◌, refl, ap, sym, subst, ◌∙◌, arith, Option}
use mathlib.Core.List.{IsPrefix}
use Rattle.atomic_table.specs.Table.{Me}
use Rattle.vg_history.specs.declared.machine.Machine.{Ghosts}
use Rattle.vg_history.specs.declared.entry.Entry.{Entry}
use Rattle.vg_history.specs.Lists.{Has}
use Rattle.vg_book.specs.declared.board.Slot.{Slot}
use Rattle.vg_book.specs.declared.board.Order.{Order}
use Rattle.vg_book.specs.declared.board.Finished.{Finished}
use Rattle.vg_book.specs.declared.board.Account.{Account}
use Rattle.vg_book.specs.declared.board.Counted.{Counted}
use Rattle.vg_book.specs.declared.board.View.{View}
use Rattle.vg_book.specs.Views.{joined, newborn}
use Rattle.vg_book.specs.Kept.{Shown, IsHistory, Accounted}
use Rattle.vg_book.specs.Tells.{HasLooked}
use Rattle.vg_book.specs.Turns.{Sits, counted}
use Rattle.vg_book.specs.Tokens.{client_value, lane_value, ClientOk}
use Rattle.vg_history.specs.Entries.{client_of}
use Rattle.vg_history.proofs.ListLemmas.{has_append}
use Rattle.vg_book.proofs.TokenLemmas.{joined_sits}
use Rattle.vg_history.proofs.HistoryLemmas.{allowed_none, holds_none}
use Rattle.vg_book.specs.Views.{telling, with_client, client_made, with_lane, lane_made, IsEntryOf}
use Rattle.vg_book.specs.Kept.{IsCoreOf}
use Rattle.vg_book.specs.Tokens.{Client, Rooted, RootOk, root_value, MakesClient, TakesIn, AllJoined, IsClosed}
use Rattle.vg_book.specs.Opening.{with_lanes, next_lane}
use Rattle.vg_book.specs.declared.board.Core.{Core}
use Rattle.vg_book.proofs.Ends.{HasAll}

module _ {M S A R Q P H W : Type 0} (g : Ghosts M S A R Q P H W) where
  abbrev E : Type 0
  E = Entry M S A R Q P H W

  abbrev V : Type 0
  V = View M S A R Q P H W

  abbrev Acc : Type 0
  Acc = Account M S A R Q P H W

  abbrev Fin : Type 0
  Fin = Finished M S A R Q P H W

  abbrev Sat : Type 0
  Sat = Me (Slot M S A R Q P H W) V

  -- the root's seat, after it took in another and looked
  taken_sits : (m w n p : Sat) (as' bs : List Acc) (ls ks : List Counted) → Sits m as' ls [] [] true → Sits w bs ks [] [] false → n ≡ (joined m.0 w.0, m.1) → HasLooked g n p → Sits p (as' ++ bs) (ls ++ ks) [] [] true
  taken_sits m w n p as' bs ls ks s t is look =
      let j : Sits n (as' ++ bs) (ls ++ ks) [] [] true = subst (λ (x : Sat). Sits x (as' ++ bs) (ls ++ ks) [] [] true) (sym is) (joined_sits g m w as' bs ls ks [] [] [] [] true false s t) in
      subst (λ (x : Sat). Sits x (as' ++ bs) (ls ++ ks) [] [] true) (sym look.1) (record { accounts = j.accounts; lanes = j.lanes; passes = j.passes; dones = j.dones; root_is = j.root_is; idle = j.idle; hand = j.hand; clear = j.clear; begun = j.begun })

  pub takes_ok : (given made : ℕ) (m w n p : Sat) (bs : List Acc) (ks : List Counted) → RootOk g given made m → Sits w bs ks [] [] false → ((a : Acc) → Has bs a → a.out ≡ []) → n ≡ (joined m.0 w.0, m.1) → HasLooked g n p → RootOk g given made p
  takes_ok given made m w n p bs ks ok t outs is look = let s = taken_sits m w n p m.0.accounts bs m.0.lanes ks ok.seat t is look in record {
    seat = record { accounts = refl; lanes = refl; passes = s.passes; dones = s.dones; root_is = s.root_is; idle = s.idle; hand = s.hand; clear = s.clear; begun = s.begun };
    given_is = ap (λ (x : Sat). x.0.given) look.1 ∙ (ap (λ (x : Sat). x.0.given) is ∙ ok.given_is);
    lanes_are = ap (λ (x : Sat). x.0.lanes_made) look.1 ∙ (ap (λ (x : Sat). x.0.lanes_made) is ∙ ok.lanes_are);
    outs = λ a h. ⊎_elim (λ x. ok.outs a x) (λ x. outs a x) (has_append m.0.accounts bs a (subst (λ (l : List Acc). Has l a) s.accounts h));
  }

  pub takes_told : (given made : ℕ) (m w n p : Sat) (seen : List E) → n ≡ (joined m.0 w.0, m.1) → seen ≡ w.0.seen → HasLooked g n p → TakesIn g (root_value g given made m) seen (root_value g given made p)
  takes_told given made m w n p seen is heard look =
      let log : p.0.seen ≡ look.0 = ap (λ (y : Sat). y.0.seen) look.1 in let start : p.0.start ≡ n.0.start = ap (λ (y : Sat). y.0.start) look.1 in record {
        given = refl;
        lanes_made = refl;
        more = subst (λ (x : List E × List E). IsPrefix x.0 x.1) (λ i. ((ap (λ (y : Sat). y.0.seen) is) i, (sym log) i)) look.2.seen;
        more_token = subst (λ (x : List E × List E). IsPrefix x.0 x.1) (λ i. ((ap (λ (y : Sat). y.0.heard) is ∙ sym heard) i, (sym log) i)) look.2.heard;
        start = start ∙ ap (λ (y : Sat). y.0.start) is;
        history = subst (λ (x : Option S × List E). IsHistory g x.0 x.1) (λ i. ((sym start) i, (sym log) i)) look.2.told;
      }

  pub takes_accounts : (m w n p : Sat) (bs : List Acc) → w.0.accounts ≡ bs → n ≡ (joined m.0 w.0, m.1) → HasLooked g n p → p.0.accounts ≡ m.0.accounts ++ bs
  takes_accounts m w n p bs e is look = ap (λ (x : Sat). x.0.accounts) look.1 ∙ (ap (λ (x : Sat). x.0.accounts) is ∙ ap (λ (l : List Acc). m.0.accounts ++ l) e)

  pub takes_lanes : (m w n p : Sat) (ks : List Counted) → w.0.lanes ≡ ks → n ≡ (joined m.0 w.0, m.1) → HasLooked g n p → p.0.lanes ≡ m.0.lanes ++ ks
  takes_lanes m w n p ks e is look = ap (λ (x : Sat). x.0.lanes) look.1 ∙ (ap (λ (x : Sat). x.0.lanes) is ∙ ap (λ (l : List Counted). m.0.lanes ++ l) e)

  pub makes_ok : (given made : ℕ) (m n r : Sat) (h : H) → RootOk g given made m → ((log : List E) × (n ≡ (with_client (telling m.0 log h), m.1)) × (r ≡ (client_made (telling m.0 log h), [])) × Shown g m.0 log) → RootOk g (given + 1) made n
  makes_ok given made m n r h ok t = let s = ok.seat in subst (λ (x : Sat). RootOk g (given + 1) made x) (sym t.1) (record {
    seat = record { accounts = refl; lanes = refl; passes = s.passes; dones = s.dones; root_is = s.root_is; idle = s.idle; hand = s.hand; clear = s.clear; begun = s.begun };
    given_is = ap (λ (k : ℕ). k + 1) ok.given_is;
    lanes_are = ok.lanes_are;
    outs = ok.outs;
  })

  pub made_client_ok : (given made : ℕ) (m n r : Sat) (h : H) → RootOk g given made m → ((log : List E) × (n ≡ (with_client (telling m.0 log h), m.1)) × (r ≡ (client_made (telling m.0 log h), [])) × Shown g m.0 log) → ClientOk g (given + 1) 0 0 h r
  made_client_ok given made m n r h ok t =
      let e : m.0.given + 1 ≡ given + 1 = ap (λ (k : ℕ). k + 1) ok.given_is in
      subst (λ (x : Sat). ClientOk g (given + 1) 0 0 h x) (sym t.2) (record {
        seat = record {
          sits = record { accounts = refl; lanes = refl; passes = refl; dones = refl; root_is = refl; idle = refl; hand = refl; clear = refl; begun = ok.seat.begun };
          number_is = e;
          used_is = refl;
          holds_are = refl;
        };
        out_is = refl;
        within = omega arith;
      })

  pub makes_told : (given made : ℕ) (m n r : Sat) (h : H) → RootOk g given made m → ((log : List E) × (n ≡ (with_client (telling m.0 log h), m.1)) × (r ≡ (client_made (telling m.0 log h), [])) × Shown g m.0 log)
      → (c : Client M S A R Q P H W) → c ≡ client_value g (given + 1) h r → MakesClient g (root_value g given made m) h (root_value g (given + 1) made n) c
  makes_told given made m n r h ok t c ce = let s = ok.seat in let log = t.0 in
      let e : m.0.given + 1 ≡ given + 1 = ap (λ (k : ℕ). k + 1) ok.given_is in
      let others : (x : E) → Has log x → client_of x ≤ given = λ x y. subst (λ (k : ℕ). client_of x ≤ k) ok.given_is (t.3.clients s.root_is x y).1 in
      let apart : (x : E) → Has log x → client_of x ≡ given + 1 → ⊥ = λ x y same. let b = others x y in omega (arith, b, same) in
      let seen_n : n.0.seen ≡ log = ap (λ (x : Sat). x.0.seen) t.1 in
      let start_n : n.0.start ≡ m.0.start = ap (λ (x : Sat). x.0.start) t.1 in
      let made_is : client_value g (given + 1) h r ≡ record { account = newborn (given + 1) h; seen = log; start = m.0.start } =
      ap (λ (x : Sat). client_value g (given + 1) h x) t.2 ∙ ap (λ (k : ℕ). let z : Client M S A R Q P H W = record { account = newborn k h; seen = log; start = m.0.start } in z) e in
      let whole : c ≡ record { account = newborn (given + 1) h; seen = log; start = m.0.start } = ce ∙ made_is in record {
        given = refl;
        lanes_made = refl;
        accounts = ap (λ (x : Sat). x.0.accounts) t.1;
        lanes = ap (λ (x : Sat). x.0.lanes) t.1;
        more = subst (λ (l : List E). IsPrefix m.0.seen l) (sym seen_n) t.3.seen;
        start = start_n;
        client = whole ∙ ap (λ (l : List E). let z : Client M S A R Q P H W = record { account = newborn (given + 1) h; seen = l; start = m.0.start } in z) (sym seen_n);
        others = λ x y. others x (subst (λ (l : List E). Has l x) seen_n y);
        history = subst (λ (x : Option S × List E). IsHistory g x.0 x.1) (λ i. ((sym start_n) i, (sym seen_n) i)) t.3.told;
        known = subst (λ (x : Client M S A R Q P H W). Accounted g x.seen x.account) (sym whole) (record {
          number = omega arith;
          mine = λ x y. absurd y;
          known = λ x y mine. absurd (apart x y mine);
          numbers = λ k. refl;
          outs = λ o y. absurd y;
          allowed = allowed_none g (given + 1) h log apart;
          held = holds_none g (given + 1) h log apart;
        });
      }

  -- a lane is made
  pub lane_ok : (given made : ℕ) (m n : Sat) → RootOk g given made m → n ≡ (with_lane m.0, m.1) → RootOk g given (made + 1) n
  lane_ok given made m n ok e = let s = ok.seat in subst (λ (x : Sat). RootOk g given (made + 1) x) (sym e) (record {
    seat = record { accounts = refl; lanes = refl; passes = s.passes; dones = s.dones; root_is = s.root_is; idle = s.idle; hand = s.hand; clear = s.clear; begun = s.begun };
    given_is = ok.given_is;
    lanes_are = ap (λ (k : ℕ). k + 1) ok.lanes_are;
    outs = ok.outs;
  })

  pub made_lane_sits : (given made : ℕ) (m r : Sat) → RootOk g given made m → r ≡ (lane_made m.0, []) → Sits r [] (counted g made 0 ∷ []) [] [] false
  made_lane_sits given made m r ok e = subst (λ (x : Sat). Sits x [] (counted g made 0 ∷ []) [] [] false) (sym e)
      (record { accounts = refl; lanes = ap (λ (k : ℕ). counted g k 0 ∷ []) ok.lanes_are; passes = refl; dones = refl; root_is = refl; idle = refl; hand = refl; clear = refl; begun = ok.seat.begun })

  pub lane_root : (given made : ℕ) (m n : Sat) → n ≡ (with_lane m.0, m.1) → root_value g given (made + 1) n ≡ with_lanes (made + 1) (root_value g given made m)
  lane_root given made m n e = ap (λ (x : Sat). root_value g given (made + 1) x) e

  pub lane_token : (given made : ℕ) (m r : Sat) → r ≡ (lane_made m.0, []) → lane_value g made 0 r ≡ next_lane (root_value g given made m)
  lane_token given made m r e = ap (λ (x : Sat). lane_value g made 0 x) e

  -- the end
  pub has_all : (first : S) (r : Rooted M S A R Q P H W) (m : Sat) → RootOk g r.given r.lanes_made m → r ≡ root_value g r.given r.lanes_made m → AllJoined g r → HasAll g first m.0
  has_all first r m ok e all = record {
    clients = λ n low high. subst (λ (l : List Acc). (a : Acc) × Has l a × (a.number ≡ n)) (ap (λ (x : Rooted M S A R Q P H W). x.accounts) e) (all.clients n low (subst (λ (k : ℕ). n ≤ k) ok.given_is high));
    lanes = λ l high. subst (λ (ls : List Counted). (x : Counted) × Has ls x × (x.lane ≡ l)) (ap (λ (x : Rooted M S A R Q P H W). x.lanes) e) (all.lanes l (subst (λ (k : ℕ). l < k) ok.lanes_are high));
  }

  pub closes : (r : Rooted M S A R Q P H W) (m : Sat) (c : Core M S A R Q P H W) (log : List E) → RootOk g r.given r.lanes_made m → r ≡ root_value g r.given r.lanes_made m → IsCoreOf g m.0.start log c → Shown g m.0 log → IsClosed g r c.machine c.history.entries
  closes r m c log ok e core shown =
      let same : c.history.entries ≡ log = core.entries in
      let main : IsClosed g (root_value g r.given r.lanes_made m) c.machine log = record {
        more = shown.seen;
        state = core.state;
        history = shown.told;
        clients = λ x h. subst (λ (k : ℕ). (0 < client_of x) × (client_of x ≤ k)) ok.given_is (shown.clients ok.seat.root_is x h);
        known = shown.accounts;
        mine = λ a h x there own. ⊎_elim (λ y. y) (λ (t : (o : Order M S A R Q P H W) × Has a.out o × IsEntryOf o x). absurd (subst (λ (l : List (Order M S A R Q P H W)). Has l t.0) (ok.outs a h) t.1)) ((shown.accounts a h).known x there own);
        settled_all = ok.outs;
        lanes = shown.lanes;
      } in subst (λ (y : Rooted M S A R Q P H W × List E). IsClosed g y.0 c.machine y.1) (λ i. ((sym e) i, (sym same) i)) main
